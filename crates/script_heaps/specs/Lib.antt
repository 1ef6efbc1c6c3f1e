pub mod Holding
pub mod Heaps
pub mod Sound
pub mod Changes
pub mod Showing
