pub mod Cutting
pub mod Decimals
pub mod Lines
pub mod Keys
pub mod Agreement
