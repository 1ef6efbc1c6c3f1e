use Rattle.std.proofs.Common.{◌≡◌, ℕ, ◌+◌, ◌-◌, false, if◌then◌else◌, slice_index_or, count_by}
use Rattle.units.specs.Range.{is_within}
use Rattle.units.proofs.pages.set_all.Given as goal

abbrev pub invariant-loop-page : goal.invariant-loop-page
invariant-loop-page l = record {
  after : (page : ℕ) → slice_index_or l.pages page false ≡ (if is_within l.first (l.page - l.first) page then l.held else slice_index_or l.initial.pages page false);
  counted : count_by (λ b. b) l.pages + (if l.held then 0 else (l.page - l.first)) ≡ count_by (λ b. b) l.initial.pages + (if l.held then (l.page - l.first) else 0);
}
