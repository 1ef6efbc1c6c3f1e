use Rattle.std.proofs.Common.{◌≡◌, ◌+◌, ◌≤◌, ◌∷◌, not, refl, ◌∙◌, ap, arith}
use Rattle.std.specs.List.{filter}
use Rattle.std.specs.List.Sorted.{IsPermutation}
use Rattle.std.proofs.lemmas.List.Elements.{All-contains, All-filter}
use Rattle.span_heap.specs.declared.run.Run.{Run}
use Rattle.span_heap.specs.Run.{begins_at, ends_at, is_beside}
use Rattle.span_heap.specs.Runs.{pages_before, pages_behind, freed}
use Rattle.span_heap.specs.Heap.{LiesWithin}
use Rattle.span_heap.proofs.PartitionByCounts.{counts_of}
use Rattle.span_heap.proofs.FreeingKeepsThePartition.{freed_alone}
use Rattle.span_heap.proofs.CountsAreKept.{end_fits}
use Rattle.span_heap.proofs.HeapOverTheTable.{can_free, beside_one, one_left, behind_same, filter_both_out, kept_as}
use Rattle.span_heap.proofs.heap.Heap.free.Goals as goal

pub take_before-before-requires-clause-lies : goal.take_before-before-requires-clause-lies
take_before-before-requires-clause-lies c =
    let h = c.self.inside in
    let there = rw (← c.self.view_is, ← c.span.view_is) at c.requires in
    All-contains (LiesWithin h.table.segments) h.table.used c.span.inside.run c.self.invariant.partition.used_within there

pub take_before-before-requires-clause-one : goal.take_before-before-requires-clause-one
take_before-before-requires-clause-one c = (beside_one c.self.inside.table c.span.inside.run c.self.invariant.partition).0

pub take_before-before-requires-clause-sized : goal.take_before-before-requires-clause-sized
take_before-before-requires-clause-sized c = (counts_of c.self.inside.table c.self.invariant.partition).free_sized

pub take_behind-behind-requires-clause-lies : goal.take_behind-behind-requires-clause-lies
take_behind-behind-requires-clause-lies c =
    let h = c.self.inside in
    let there = rw (← c.self.view_is, ← c.span.view_is) at c.requires in
    rw c.take_before-before.ensures.segments (All-contains (LiesWithin h.table.segments) h.table.used c.span.inside.run c.self.invariant.partition.used_within there)

pub take_behind-behind-requires-clause-one : goal.take_behind-behind-requires-clause-one
take_behind-behind-requires-clause-one c =
    let run = c.span.inside.run in
    rw c.take_before-before.ensures.free
    (one_left (begins_at run.segment (run.first + run.pages)) (λ r. not (ends_at run.segment run.first r)) c.self.inside.table.free (beside_one c.self.inside.table run c.self.invariant.partition).1)

pub take_behind-behind-requires-clause-sized : goal.take_behind-behind-requires-clause-sized
take_behind-behind-requires-clause-sized c =
    let run = c.span.inside.run in
    rw c.take_before-before.ensures.free
    (All-filter (λ r. not (ends_at run.segment run.first r)) (λ (r : Run). 1 ≤ r.pages) c.self.inside.table.free (counts_of c.self.inside.table c.self.invariant.partition).free_sized)

pub take_behind-behind-requires-clause-end : goal.take_behind-behind-requires-clause-end
take_behind-behind-requires-clause-end c =
    let h = c.self.inside in
    let there = rw (← c.self.view_is, ← c.span.view_is) at c.requires in
    end_fits h.table c.span.inside.run h.pages h.free_pages c.self.invariant there

pub take_used-requires : goal.take_used-requires
take_used-requires c =
    let there = rw (← c.self.view_is, ← c.span.view_is) at c.requires in
    rw (c.take_behind-behind.ensures.used, c.take_before-before.ensures.used) there

pub overflow_sub-run : goal.overflow_sub-run
overflow_sub-run c =
    let h = c.self.inside in
    let run = c.span.inside.run in
    let taken : IsPermutation h.table.used (run ∷ c.take_used.new.self.used) = rw (c.take_behind-behind.ensures.used, c.take_before-before.ensures.used) at c.take_used.ensures.used in
    let can = can_free h.table c.take_used.new.self.used run h.pages h.free_pages c.self.invariant taken in
    let before : c.take_before-before.result ≡ pages_before h.table.free run = c.take_before-before.ensures.pages in
    let behind : c.take_behind-behind.result ≡ pages_behind h.table.free run =
    c.take_behind-behind.ensures.pages ∙ (ap (λ f. pages_behind f run) c.take_before-before.ensures.free ∙ behind_same h.table.free run can.sized) in
    let left : c.take_used.new.self.free ≡ filter (λ r. not (is_beside run r)) h.table.free =
    c.take_used.ensures.free ∙ (c.take_behind-behind.ensures.free ∙ (ap (filter (λ r. not (begins_at run.segment (run.first + run.pages) r))) c.take_before-before.ensures.free
    ∙ filter_both_out (ends_at run.segment run.first) (begins_at run.segment (run.first + run.pages)) h.table.free)) in
    omega (arith, before, can.begins)

pub overflow_add-before : goal.overflow_add-before
overflow_add-before c =
    let h = c.self.inside in
    let run = c.span.inside.run in
    let taken : IsPermutation h.table.used (run ∷ c.take_used.new.self.used) = rw (c.take_behind-behind.ensures.used, c.take_before-before.ensures.used) at c.take_used.ensures.used in
    let can = can_free h.table c.take_used.new.self.used run h.pages h.free_pages c.self.invariant taken in
    let before : c.take_before-before.result ≡ pages_before h.table.free run = c.take_before-before.ensures.pages in
    let behind : c.take_behind-behind.result ≡ pages_behind h.table.free run =
    c.take_behind-behind.ensures.pages ∙ (ap (λ f. pages_behind f run) c.take_before-before.ensures.free ∙ behind_same h.table.free run can.sized) in
    let left : c.take_used.new.self.free ≡ filter (λ r. not (is_beside run r)) h.table.free =
    c.take_used.ensures.free ∙ (c.take_behind-behind.ensures.free ∙ (ap (filter (λ r. not (begins_at run.segment (run.first + run.pages) r))) c.take_before-before.ensures.free
    ∙ filter_both_out (ends_at run.segment run.first) (begins_at run.segment (run.first + run.pages)) h.table.free)) in
    omega (arith, before, can.fits)

pub overflow_add-before-2 : goal.overflow_add-before-2
overflow_add-before-2 c =
    let h = c.self.inside in
    let run = c.span.inside.run in
    let taken : IsPermutation h.table.used (run ∷ c.take_used.new.self.used) = rw (c.take_behind-behind.ensures.used, c.take_before-before.ensures.used) at c.take_used.ensures.used in
    let can = can_free h.table c.take_used.new.self.used run h.pages h.free_pages c.self.invariant taken in
    let before : c.take_before-before.result ≡ pages_before h.table.free run = c.take_before-before.ensures.pages in
    let behind : c.take_behind-behind.result ≡ pages_behind h.table.free run =
    c.take_behind-behind.ensures.pages ∙ (ap (λ f. pages_behind f run) c.take_before-before.ensures.free ∙ behind_same h.table.free run can.sized) in
    let left : c.take_used.new.self.free ≡ filter (λ r. not (is_beside run r)) h.table.free =
    c.take_used.ensures.free ∙ (c.take_behind-behind.ensures.free ∙ (ap (filter (λ r. not (begins_at run.segment (run.first + run.pages) r))) c.take_before-before.ensures.free
    ∙ filter_both_out (ends_at run.segment run.first) (begins_at run.segment (run.first + run.pages)) h.table.free)) in
    omega (arith, before, behind, can.fits)

pub add_free-requires-clause-lies : goal.add_free-requires-clause-lies
add_free-requires-clause-lies c =
    let h = c.self.inside in
    let run = c.span.inside.run in
    let taken : IsPermutation h.table.used (run ∷ c.take_used.new.self.used) = rw (c.take_behind-behind.ensures.used, c.take_before-before.ensures.used) at c.take_used.ensures.used in
    let can = can_free h.table c.take_used.new.self.used run h.pages h.free_pages c.self.invariant taken in
    let before : c.take_before-before.result ≡ pages_before h.table.free run = c.take_before-before.ensures.pages in
    let behind : c.take_behind-behind.result ≡ pages_behind h.table.free run =
    c.take_behind-behind.ensures.pages ∙ (ap (λ f. pages_behind f run) c.take_before-before.ensures.free ∙ behind_same h.table.free run can.sized) in
    let left : c.take_used.new.self.free ≡ filter (λ r. not (is_beside run r)) h.table.free =
    c.take_used.ensures.free ∙ (c.take_behind-behind.ensures.free ∙ (ap (filter (λ r. not (begins_at run.segment (run.first + run.pages) r))) c.take_before-before.ensures.free
    ∙ filter_both_out (ends_at run.segment run.first) (begins_at run.segment (run.first + run.pages)) h.table.free)) in
    rw (c.take_used.ensures.segments, c.take_behind-behind.ensures.segments, c.take_before-before.ensures.segments, before, behind) can.lies

pub add_free-requires-clause-not_free : goal.add_free-requires-clause-not_free
add_free-requires-clause-not_free c =
    let h = c.self.inside in
    let run = c.span.inside.run in
    let taken : IsPermutation h.table.used (run ∷ c.take_used.new.self.used) = rw (c.take_behind-behind.ensures.used, c.take_before-before.ensures.used) at c.take_used.ensures.used in
    let can = can_free h.table c.take_used.new.self.used run h.pages h.free_pages c.self.invariant taken in
    let before : c.take_before-before.result ≡ pages_before h.table.free run = c.take_before-before.ensures.pages in
    let behind : c.take_behind-behind.result ≡ pages_behind h.table.free run =
    c.take_behind-behind.ensures.pages ∙ (ap (λ f. pages_behind f run) c.take_before-before.ensures.free ∙ behind_same h.table.free run can.sized) in
    let left : c.take_used.new.self.free ≡ filter (λ r. not (is_beside run r)) h.table.free =
    c.take_used.ensures.free ∙ (c.take_behind-behind.ensures.free ∙ (ap (filter (λ r. not (begins_at run.segment (run.first + run.pages) r))) c.take_before-before.ensures.free
    ∙ filter_both_out (ends_at run.segment run.first) (begins_at run.segment (run.first + run.pages)) h.table.free)) in
    rw (left, before) can.not_free

pub add_free-requires-clause-not_used : goal.add_free-requires-clause-not_used
add_free-requires-clause-not_used c =
    let h = c.self.inside in
    let run = c.span.inside.run in
    let taken : IsPermutation h.table.used (run ∷ c.take_used.new.self.used) = rw (c.take_behind-behind.ensures.used, c.take_before-before.ensures.used) at c.take_used.ensures.used in
    let can = can_free h.table c.take_used.new.self.used run h.pages h.free_pages c.self.invariant taken in
    let before : c.take_before-before.result ≡ pages_before h.table.free run = c.take_before-before.ensures.pages in
    let behind : c.take_behind-behind.result ≡ pages_behind h.table.free run =
    c.take_behind-behind.ensures.pages ∙ (ap (λ f. pages_behind f run) c.take_before-before.ensures.free ∙ behind_same h.table.free run can.sized) in
    let left : c.take_used.new.self.free ≡ filter (λ r. not (is_beside run r)) h.table.free =
    c.take_used.ensures.free ∙ (c.take_behind-behind.ensures.free ∙ (ap (filter (λ r. not (begins_at run.segment (run.first + run.pages) r))) c.take_before-before.ensures.free
    ∙ filter_both_out (ends_at run.segment run.first) (begins_at run.segment (run.first + run.pages)) h.table.free)) in
    rw before can.not_used

pub add_free-requires-clause-small : goal.add_free-requires-clause-small
add_free-requires-clause-small c =
    let h = c.self.inside in
    let run = c.span.inside.run in
    let taken : IsPermutation h.table.used (run ∷ c.take_used.new.self.used) = rw (c.take_behind-behind.ensures.used, c.take_before-before.ensures.used) at c.take_used.ensures.used in
    let can = can_free h.table c.take_used.new.self.used run h.pages h.free_pages c.self.invariant taken in
    let before : c.take_before-before.result ≡ pages_before h.table.free run = c.take_before-before.ensures.pages in
    let behind : c.take_behind-behind.result ≡ pages_behind h.table.free run =
    c.take_behind-behind.ensures.pages ∙ (ap (λ f. pages_behind f run) c.take_before-before.ensures.free ∙ behind_same h.table.free run can.sized) in
    let left : c.take_used.new.self.free ≡ filter (λ r. not (is_beside run r)) h.table.free =
    c.take_used.ensures.free ∙ (c.take_behind-behind.ensures.free ∙ (ap (filter (λ r. not (begins_at run.segment (run.first + run.pages) r))) c.take_before-before.ensures.free
    ∙ filter_both_out (ends_at run.segment run.first) (begins_at run.segment (run.first + run.pages)) h.table.free)) in
    rw (left, before, behind) can.small

pub overflow_add-self : goal.overflow_add-self
overflow_add-self c =
    let h = c.self.inside in
    let run = c.span.inside.run in
    let taken : IsPermutation h.table.used (run ∷ c.take_used.new.self.used) = rw (c.take_behind-behind.ensures.used, c.take_before-before.ensures.used) at c.take_used.ensures.used in
    let can = can_free h.table c.take_used.new.self.used run h.pages h.free_pages c.self.invariant taken in
    let before : c.take_before-before.result ≡ pages_before h.table.free run = c.take_before-before.ensures.pages in
    let behind : c.take_behind-behind.result ≡ pages_behind h.table.free run =
    c.take_behind-behind.ensures.pages ∙ (ap (λ f. pages_behind f run) c.take_before-before.ensures.free ∙ behind_same h.table.free run can.sized) in
    let left : c.take_used.new.self.free ≡ filter (λ r. not (is_beside run r)) h.table.free =
    c.take_used.ensures.free ∙ (c.take_behind-behind.ensures.free ∙ (ap (filter (λ r. not (begins_at run.segment (run.first + run.pages) r))) c.take_before-before.ensures.free
    ∙ filter_both_out (ends_at run.segment run.first) (begins_at run.segment (run.first + run.pages)) h.table.free)) in
    omega (arith, can.count)

pub invariant_of-self : goal.invariant_of-self
invariant_of-self c =
    let h = c.self.inside in
    let run = c.span.inside.run in
    let taken : IsPermutation h.table.used (run ∷ c.take_used.new.self.used) = rw (c.take_behind-behind.ensures.used, c.take_before-before.ensures.used) at c.take_used.ensures.used in
    let can = can_free h.table c.take_used.new.self.used run h.pages h.free_pages c.self.invariant taken in
    let before : c.take_before-before.result ≡ pages_before h.table.free run = c.take_before-before.ensures.pages in
    let behind : c.take_behind-behind.result ≡ pages_behind h.table.free run =
    c.take_behind-behind.ensures.pages ∙ (ap (λ f. pages_behind f run) c.take_before-before.ensures.free ∙ behind_same h.table.free run can.sized) in
    let left : c.take_used.new.self.free ≡ filter (λ r. not (is_beside run r)) h.table.free =
    c.take_used.ensures.free ∙ (c.take_behind-behind.ensures.free ∙ (ap (filter (λ r. not (begins_at run.segment (run.first + run.pages) r))) c.take_before-before.ensures.free
    ∙ filter_both_out (ends_at run.segment run.first) (begins_at run.segment (run.first + run.pages)) h.table.free)) in
    kept_as c.add_free.new.self h.table.segments c.take_used.new.self.used (freed h.table.free run) h.pages _
    (c.add_free.ensures.segments ∙ (c.take_used.ensures.segments ∙ (c.take_behind-behind.ensures.segments ∙ c.take_before-before.ensures.segments)))
    c.add_free.ensures.used
    (rw (c.add_free.ensures.free, left, before, behind) refl)
    can.kept

pub returns-clause-freed : goal.returns-clause-freed
returns-clause-freed c =
    let h = c.self.inside in
    let run = c.span.inside.run in
    let taken : IsPermutation h.table.used (run ∷ c.take_used.new.self.used) = rw (c.take_behind-behind.ensures.used, c.take_before-before.ensures.used) at c.take_used.ensures.used in
    let can = can_free h.table c.take_used.new.self.used run h.pages h.free_pages c.self.invariant taken in
    let before : c.take_before-before.result ≡ pages_before h.table.free run = c.take_before-before.ensures.pages in
    let behind : c.take_behind-behind.result ≡ pages_behind h.table.free run =
    c.take_behind-behind.ensures.pages ∙ (ap (λ f. pages_behind f run) c.take_before-before.ensures.free ∙ behind_same h.table.free run can.sized) in
    let left : c.take_used.new.self.free ≡ filter (λ r. not (is_beside run r)) h.table.free =
    c.take_used.ensures.free ∙ (c.take_behind-behind.ensures.free ∙ (ap (filter (λ r. not (begins_at run.segment (run.first + run.pages) r))) c.take_before-before.ensures.free
    ∙ filter_both_out (ends_at run.segment run.first) (begins_at run.segment (run.first + run.pages)) h.table.free)) in
    rw (← c.self.view_is, ← c.span.view_is)
    (record {
      free = rw (c.add_free.ensures.free, left, before, behind) refl;
      alone = λ elsewhere. rw (c.add_free.ensures.free, left, before, behind) (freed_alone h.table.free run elsewhere);
      used = rw c.add_free.ensures.used taken;
      segments = c.add_free.ensures.segments ∙ (c.take_used.ensures.segments ∙ (c.take_behind-behind.ensures.segments ∙ c.take_before-before.ensures.segments));
    })

pub returns-clause-partition : goal.returns-clause-partition
returns-clause-partition c = (invariant_of-self c).partition
