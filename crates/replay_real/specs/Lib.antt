pub mod Owner
pub mod Served
pub mod Owners
pub mod Emptiness
pub mod Standing
pub mod PieceCalls
pub mod Returning
pub mod Acts
