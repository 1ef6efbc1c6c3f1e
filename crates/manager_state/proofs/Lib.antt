pub mod TableTells
pub mod KeptNumbers
pub mod ClientNumbers
pub mod LiveSides
pub mod AgreesStays
pub mod Rooms
pub mod Entering
pub mod Removing
