use Rattle.script_text.proofs.GrammarLaws.{scripts_are_spelled, spelled_are_scripts}
use Rattle.script_text.proofs.laws.law_scripts_are_spelled.Goals as goal

pub returns : goal.returns
returns c = λ text commands. (scripts_are_spelled text commands, spelled_are_scripts text commands)
