pub mod Ownership
pub mod Framed
