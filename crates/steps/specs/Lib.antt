pub mod Asked
pub mod Columns
pub mod Held
