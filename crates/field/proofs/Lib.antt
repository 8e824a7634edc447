pub mod Tables
pub mod Codes
pub mod Sums
