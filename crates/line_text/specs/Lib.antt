pub mod Hex
pub mod Laws
pub mod Lines
pub mod Number
pub mod Refusals
pub mod Spans
