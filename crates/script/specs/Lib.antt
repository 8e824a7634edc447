pub mod Events
pub mod Replays
