pub mod Decimal
pub mod HexDigits
pub mod Cutting
pub mod WordSpans
pub mod NumberLaws
