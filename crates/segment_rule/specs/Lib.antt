pub mod Words
pub mod Views
pub mod Rule
pub mod Kinds
pub mod Seats
pub mod Standing
pub mod Laws
