use Rattle.std.proofs.Common.{◌≡◌, ℕ, ◌<◌, ◌≤◌, false, slice_index_or}
use Rattle.units.proofs.pages.all_are.Given as goal

abbrev pub invariant-loop-page : goal.invariant-loop-page
invariant-loop-page l = (page : ℕ) → l.first ≤ page → page < l.page → slice_index_or l.pages page false ≡ l.held
