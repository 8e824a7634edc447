pub mod Steps
pub mod Batches
pub mod Laws
pub mod ReadOff
