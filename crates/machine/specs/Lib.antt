pub mod History
pub mod Answers
pub mod KeptSegment
pub mod Segments
pub mod Word
pub mod Laws
pub mod Reduction
