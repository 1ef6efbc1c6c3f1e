use Rattle.script_text.proofs.GrammarLaws.{scripts_are_spelled}
use Rattle.script_text.proofs.RisingNumbers.{numbers_rise}
use Rattle.script_text.proofs.laws.law_lines_rise.Goals as goal

pub returns : goal.returns
returns c = λ text commands is. numbers_rise text commands (scripts_are_spelled text commands is).lines
