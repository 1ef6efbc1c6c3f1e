pub mod ClapWords
pub mod Commands
pub mod Orders
pub mod Settings
pub mod Words
