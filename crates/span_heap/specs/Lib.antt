pub mod Run
pub mod Runs
pub mod Pick
pub mod Segment
pub mod Heap
pub mod Changes
pub mod Placed
pub mod Table
