-- A run of pages, and where it lies.
use Rattle.std.specs.Prelude.{ℕ, ◌+◌, Bool, ◌&&◌, ◌||◌, ◌==◌, nat_le, nat_lt, List, sum_by}
use Rattle.span_heap.specs.declared.run.Run.{Run}

-- the run lies in this segment
abbrev pub lies_in : ℕ → Run → Bool
lies_in segment run = run.segment == segment

-- the run has this page of this segment
abbrev pub has_page : ℕ → ℕ → Run → Bool
has_page segment page run = lies_in segment run && (nat_le run.first page && nat_lt page (run.first + run.pages))

-- the run begins at this page of this segment
abbrev pub begins_at : ℕ → ℕ → Run → Bool
begins_at segment page run = lies_in segment run && (run.first == page)

-- the run ends just before this page of this segment
abbrev pub ends_at : ℕ → ℕ → Run → Bool
ends_at segment page run = lies_in segment run && (run.first + run.pages == page)

-- the run ends where the span begins, or begins where the span ends
abbrev pub is_beside : Run → Run → Bool
is_beside span run = ends_at span.segment span.first run || begins_at span.segment (span.first + span.pages) run

-- the two are one run
abbrev pub is_run : Run → Run → Bool
is_run run other = (other.segment == run.segment) && ((other.first == run.first) && (other.pages == run.pages))

-- all their pages together
abbrev pub pages_of : List Run → ℕ
pages_of runs = sum_by (λ run. run.pages) runs
