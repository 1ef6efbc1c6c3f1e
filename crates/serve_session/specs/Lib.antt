pub mod Tiling
pub mod Served
pub mod Running
pub mod Places
