pub mod ListsGrow
pub mod NumbersDrawnOnce
pub mod PlacesAreDealt
pub mod WhatIsLive
pub mod RunServed
