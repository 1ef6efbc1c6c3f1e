pub mod Firsts
pub mod Fronts
pub mod Least
