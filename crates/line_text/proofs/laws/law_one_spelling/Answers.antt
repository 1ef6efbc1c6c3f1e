use Rattle.std.proofs.Common.{◌∙◌, ap}
use Rattle.line_text.specs.Number.{number_of}
use Rattle.line_text.proofs.NumberLaws.{number_of-decimal, decimal-number_of}
use Rattle.line_text.proofs.laws.law_one_spelling.Goals as goal

pub returns : goal.returns
returns c = λ word n. (decimal-number_of word n, λ h. ap number_of h.1 ∙ number_of-decimal n h.0)
