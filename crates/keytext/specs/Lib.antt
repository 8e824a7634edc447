pub mod Cuts
pub mod Numbers
pub mod Lines
pub mod Keys
pub mod Agreement
pub mod Messages
