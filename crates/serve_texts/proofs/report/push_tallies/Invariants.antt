use Rattle.std.proofs.Common.{◌≡◌, ◌++◌, take}
use Rattle.serve_texts.specs.Report.{tally_lines}
use Rattle.serve_texts.proofs.report.push_tallies.Given as goal

abbrev pub invariant-loop-tally : goal.invariant-loop-tally
invariant-loop-tally l = l.text.items ≡ l.fn.text.items ++ tally_lines (take l.tally-index l.tallies)
