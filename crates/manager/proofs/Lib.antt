pub mod Counting
pub mod Growth
pub mod StateGrows
pub mod Keeping
pub mod Ending
pub mod Made
