pub mod Masks
pub mod Stepped
pub mod Deltas
