pub mod Ending
pub mod Removing
pub mod Dealing
pub mod Working
pub mod Served
