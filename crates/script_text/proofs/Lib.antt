pub mod GrammarLaws
pub mod RisingNumbers
pub mod RangeLaw
