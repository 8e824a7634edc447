pub mod Calculus
pub mod Sheets
pub mod Effects
pub mod Runs
pub mod Law
