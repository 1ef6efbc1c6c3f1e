pub mod PiecesAtPlaces
pub mod SegmentsByNumber
pub mod KeptThrough
pub mod Losing
pub mod AllFree
pub mod Clients
