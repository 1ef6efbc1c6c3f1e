pub mod Numbered
pub mod Pushed
pub mod Kept
