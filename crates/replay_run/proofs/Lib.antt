pub mod SameLists
pub mod Numerals
pub mod Texts
pub mod Growing
pub mod Spoken
pub mod Next
pub mod Turns
pub mod Refusals
