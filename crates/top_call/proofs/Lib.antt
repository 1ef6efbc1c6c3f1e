pub mod Drawn
pub mod Files
pub mod Inputs
pub mod Refusals
pub mod Told
