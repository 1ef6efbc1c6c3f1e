use Rattle.std.proofs.Common.{◌≡◌, [], ◌-◌, ◌≤◌, length, drop}
use Rattle.request_text.specs.Requests.{requests_after}
use Rattle.request_text.proofs.reading.read_lines.Given as goal

abbrev pub invariant-loop-line : goal.invariant-loop-line
invariant-loop-line l = record {
  rest_gives_all : requests_after l.clients l.requests.items (drop l.place l.lines) ≡ requests_after l.clients [] l.lines;
  within : l.place ≤ length l.lines;
}

abbrev pub decreases-loop-line : goal.decreases-loop-line
decreases-loop-line l = length l.lines - l.place
