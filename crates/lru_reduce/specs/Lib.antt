pub mod Wards
pub mod Calls
pub mod Uses
pub mod Slots
pub mod Reducing
pub mod Measure
pub mod Turns
