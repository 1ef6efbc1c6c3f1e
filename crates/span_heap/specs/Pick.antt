-- Which free run a search takes.
use Rattle.std.specs.Prelude.{◌≡◌, ℕ, ◌+◌, ◌<◌, min, Bool, not, ◌&&◌, ◌==◌, nat_le, nat_lt, List, [], ◌∷◌, length, slice_get, Option, None, MatchOption, reverse, filter, find, if◌then◌else◌}
use Rattle.span_heap.specs.declared.run.Run.{Run}

-- the run has at least n and at most n + slack pages
abbrev pub fits : ℕ → ℕ → Run → Bool
fits n slack run = nat_le n run.pages && nat_le run.pages (n + slack)

-- the run has 256 pages or more, so that its length is no exact one
abbrev pub is_long : Run → Bool
is_long run = nat_le 256 run.pages

-- the least length that one of the runs has, or 256 where that is less
abbrev pub least_length : List Run → ℕ
least_length [] = 256
least_length (run ∷ runs) = min run.pages (least_length runs)

-- the least exact length that fits and that some run has, or 256 where there is none
abbrev pub exact_length : List Run → ℕ → ℕ → ℕ
exact_length runs n slack = least_length (filter (λ run. fits n slack run && not (is_long run)) runs)

-- the latest run that passes the test
abbrev pub latest : (Run → Bool) → List Run → Option Run
latest test runs = find test (reverse runs)

-- the latest run of the least exact length that fits, or else the latest long run that fits
abbrev pub pick : List Run → ℕ → ℕ → Option Run
pick runs n slack =
    let length = exact_length runs n slack in
    if nat_lt length 256
    then latest (λ run. fits n slack run && (run.pages == length)) runs
    else latest (λ run. fits n slack run && is_long run) runs

-- the place of the run that is picked, or none where none is picked
abbrev pub IsPlaceOfPick : List Run → ℕ → ℕ → Option ℕ → Type 0
IsPlaceOfPick runs n slack found =
    MatchOption found (pick runs n slack ≡ None) (λ place. (place < length runs) × (slice_get runs place ≡ pick runs n slack))
