pub mod Fitting
pub mod Telling
pub mod Differing
pub mod Both
pub mod Ending
