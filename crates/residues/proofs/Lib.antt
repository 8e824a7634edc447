pub mod Coefficients
pub mod Pairs
pub mod Picks
pub mod Groups
pub mod Casts
