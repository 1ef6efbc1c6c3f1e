pub mod Block
pub mod Lending
pub mod Stock
