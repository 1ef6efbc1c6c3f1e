pub mod Owned
pub mod Warded
pub mod Ends
pub mod Found
pub mod Lending
pub mod Preparing
pub mod Tries
