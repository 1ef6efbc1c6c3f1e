-- A warden's tries, the latest first, each with its moment and the word that it found: the known use that they tell, and
-- that the times found never fall. The words are those of the rule, handed on so that no crate above needs it.
pub use Rattle.segment_rule.specs.Views.{known_use, expected_word, FoundBy, IsTimely}
