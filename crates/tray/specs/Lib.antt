pub mod Inverses
pub mod Shelf
pub mod Shelves
