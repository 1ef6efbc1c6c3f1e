-- How the free runs of a heap change. They are a list, the oldest first.
use Rattle.std.specs.Prelude.{◌≡◌, ◌≤◌, Option, MatchOption, ℕ, ◌+◌, ◌-◌, not, nat_lt, List, [], ◌∷◌, ◌++◌, filter, if◌then◌else◌}
use Rattle.span_heap.specs.declared.run.Run.{Run}
use Rattle.span_heap.specs.Run.{lies_in, begins_at, ends_at, is_beside, is_run, pages_of}

-- the first n pages of a run
abbrev pub front_of : Run → ℕ → Run
front_of run n = record { segment = run.segment; first = run.first; pages = n }

-- the pages of a run behind its first n
abbrev pub back_of : Run → ℕ → Run
back_of run n = record { segment = run.segment; first = run.first + n; pages = run.pages - n }

-- what a run has behind its first n pages, if anything
abbrev pub rest_of : Run → ℕ → List Run
rest_of run n = if nat_lt n run.pages then back_of run n ∷ [] else []

-- after the first n pages of a run were taken: the run leaves, and what is left of it is appended
abbrev pub carved : List Run → Run → ℕ → List Run
carved runs run n = filter (λ other. not (is_run run other)) runs ++ rest_of run n

-- how many pages the run has that ends where the span begins, or 0 where there is none
abbrev pub pages_before : List Run → Run → ℕ
pages_before runs span = pages_of (filter (ends_at span.segment span.first) runs)

-- how many pages the run has that begins where the span ends, or 0 where there is none
abbrev pub pages_behind : List Run → Run → ℕ
pages_behind runs span = pages_of (filter (begins_at span.segment (span.first + span.pages)) runs)

-- the span with the free pages directly before it and directly behind it, as one run
abbrev pub joined : List Run → Run → Run
joined runs span =
    record {
      segment = span.segment;
      first = span.first - pages_before runs span;
      pages = pages_before runs span + span.pages + pages_behind runs span;
    }

-- after a span was freed: the runs beside it leave, and the joined run is appended
abbrev pub freed : List Run → Run → List Run
freed runs span =
    filter (λ run. not (is_beside span run)) runs ++ joined runs span ∷ []

-- after a segment was dropped: all its runs leave
abbrev pub dropped : List Run → ℕ → List Run
dropped runs segment = filter (λ run. not (lies_in segment run)) runs

-- the run of n pages from this page on, or none where n is 0
abbrev pub IsMarkedRun : ℕ → ℕ → ℕ → Option Run → Type 0
IsMarkedRun segment first n found =
    MatchOption found (n ≡ 0) (λ run. (1 ≤ n) × (run ≡ record { segment = segment; first = first; pages = n }))
