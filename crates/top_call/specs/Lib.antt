pub mod Devices
pub mod ImageFile
pub mod Outside
pub mod Report
pub mod ServeRun
pub mod TileRun
pub mod Top
