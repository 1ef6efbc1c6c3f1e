use Rattle.std.proofs.Common.{◌≡◌, [], ◌+◌, ◌≤◌, length}
use Rattle.line_text.specs.Lines.{lines_of, kept_from, kept_lines}
use Rattle.script_text.specs.Script.{grants, commands_after}
use Rattle.script_text.proofs.script.read_lines.Given as goal

abbrev pub invariant-loop-line : goal.invariant-loop-line
invariant-loop-line l = record {
  rest_gives_all : commands_after l.commands.items (kept_from (l.number + 1) (lines_of l.rest)) ≡ commands_after [] (kept_lines l.text);
  counted : l.grants ≡ grants l.commands.items;
  few_grants : l.grants ≤ l.number;
  few_lines : l.number + length l.rest ≤ length l.text;
}

abbrev pub decreases-loop-line : goal.decreases-loop-line
decreases-loop-line l = length l.rest
