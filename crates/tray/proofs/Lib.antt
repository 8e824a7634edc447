mod Places
mod Tests
mod Closings
mod Erasing
mod Drawings
