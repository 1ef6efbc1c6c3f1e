pub mod Stages
pub mod SeatsStep
pub mod StepsKeepTheRule
pub mod StepsTell
pub mod StepsAreEvents
pub mod LawsOfSteps
