use Rattle.std.proofs.Common.{◌≡◌, ◌++◌, length, map}
use Rattle.line_text.specs.Lines.{words_of}
use Rattle.line_text.proofs.lines.push_words.Given as goal

abbrev pub invariant-loop-word : goal.invariant-loop-word
invariant-loop-word l = map (λ w. w.now) l.words.items ++ words_of l.rest ≡ map (λ w. w.now) l.initial.words.items ++ words_of l.line

abbrev pub decreases-loop-word : goal.decreases-loop-word
decreases-loop-word l = length l.rest
