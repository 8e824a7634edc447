pub mod Jumps
pub mod Made
