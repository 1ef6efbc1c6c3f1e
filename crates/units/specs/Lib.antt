pub mod Count
pub mod Moment
pub mod Range
pub mod RowSearch
pub mod Sizes
