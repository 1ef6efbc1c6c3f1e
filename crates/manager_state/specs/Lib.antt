pub mod Managed
pub mod Clients
pub mod Calls
pub mod Keeping
