use Rattle.script_text.proofs.RangeLaw.{script_in}
use Rattle.script_text.proofs.laws.law_in_range.Goals as goal

pub returns : goal.returns
returns c = script_in
