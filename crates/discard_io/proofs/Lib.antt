pub mod Parts
pub mod ReadEnds
pub mod StreamSteps
