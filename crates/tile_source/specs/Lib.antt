pub mod Grammar
pub mod Image
pub mod Length
pub mod Maker
pub mod Pgm
pub mod Tile
