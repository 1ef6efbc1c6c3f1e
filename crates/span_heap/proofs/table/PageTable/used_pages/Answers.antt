use Rattle.std.proofs.Common.{◌≡◌, sym, ◌∙◌, ap}
use Rattle.span_heap.specs.Segment.{pages_in}
use Rattle.span_heap.specs.Placed.{used_of}
use Rattle.span_heap.specs.Table.{Row}
use Rattle.span_heap.proofs.UsedPagesAreCounted.{none_in, pages_of_none}
use Rattle.span_heap.proofs.TableTellsEachRun.{any_row, row_is, all_sized}
use Rattle.span_heap.proofs.table.PageTable.used_pages.Goals as goal

pub row_of-at-requires : goal.row_of-at-requires
row_of-at-requires c =
    let there = rw (← c.self.view_is) at c.requires in
    rw c.as_slice.ensures.value (sym (any_row c.args.id c.self.inside.rows.items) ∙ there)

pub returns-clause-pages : goal.returns-clause-pages
returns-clause-pages c =
    let t = c.self.inside in
    let at = c.row_of-at.result in
    let stands = rw c.as_slice.ensures.value at c.row_of-at.ensures in
    let row = row_is t.rows.items at c.index.result.now stands.within c.index.ensures in
    rw (← c.self.view_is)
    (c.used.ensures ∙ (ap (λ (r : Row). r.used) row ∙ (c.self.invariant.2 at stands.live ∙ ap (λ id. pages_in id (used_of t.runs)) stands.numbered)))

pub returns-clause-none : goal.returns-clause-none
returns-clause-none c =
    let t = c.self.inside in
    let at = c.row_of-at.result in
    let stands = rw c.as_slice.ensures.value at c.row_of-at.ensures in
    let row = row_is t.rows.items at c.index.result.now stands.within c.index.ensures in
    let is : c.used.result ≡ pages_in c.args.id (used_of t.runs) =
    c.used.ensures ∙ (ap (λ (r : Row). r.used) row ∙ (c.self.invariant.2 at stands.live ∙ ap (λ id. pages_in id (used_of t.runs)) stands.numbered)) in
    rw (← c.self.view_is) (
      λ e. none_in c.args.id (used_of t.runs) (all_sized t.rows.items t.runs.runs t.runs.used c.self.invariant.1.used_keys) (sym is ∙ e),
      λ none. is ∙ pages_of_none c.args.id (used_of t.runs) none,
    )
