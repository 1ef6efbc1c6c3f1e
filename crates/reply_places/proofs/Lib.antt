pub mod Lodging
pub mod Places
pub mod Spaces
pub mod Sparing
pub mod Walks
