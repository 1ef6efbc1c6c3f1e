use Rattle.std.proofs.Common.{◌≡◌, ◌++◌, ◌+◌, ◌≤◌, length}
use Rattle.line_text.specs.Lines.{lines_of, kept_from, kept_lines}
use Rattle.line_text.specs.Spans.{lines_at, AreWithin}
use Rattle.line_text.proofs.lines.cut.Given as goal

abbrev pub invariant-loop-line : goal.invariant-loop-line
invariant-loop-line l = record {
  so_far : lines_at l.words l.spans ++ kept_from (l.number + 1) (lines_of l.rest) ≡ kept_lines l.bytes;
  within : AreWithin (length l.words.items) l.spans.items;
  few : l.number + length l.rest ≤ length l.bytes;
}

abbrev pub decreases-loop-line : goal.decreases-loop-line
decreases-loop-line l = length l.rest
