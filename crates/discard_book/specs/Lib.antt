pub mod Live
pub mod Legal
pub mod Table
pub mod Text
pub mod Log
