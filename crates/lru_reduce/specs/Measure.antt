-- How much work a reduction may still have.
use Rattle.std.specs.Prelude.{ℕ, ◌+◌, ◌-◌, ◌==◌, nat_le, if◌then◌else◌, List, [], ◌∷◌, sum_by}
use Rattle.machine.specs.Reduction.{use_of}
use Rattle.segment.specs.Warded.{Warded}
use Rattle.lru_reduce.specs.Wards.{candidate_of}

-- how often a known use may still change by tries at a moment before it is at or after that moment: after a word that was a
-- time it can only rise; before that one try may lower it
abbrev pub guesses : ℕ → List (ℕ × ℕ) → ℕ → ℕ
guesses now [] known = now + 1
guesses now (t ∷ before) known = if t.1 == 1 then now + 1 else now - known

-- one for the warden, and one for each change of its known use that may still come
abbrev pub work_of : ℕ → Warded → ℕ
work_of now w = 1 + (if nat_le now (use_of (candidate_of w)) then 0 else guesses now w.tries (use_of (candidate_of w)))

-- the work on all these wardens
abbrev pub work : ℕ → List Warded → ℕ
work now sides = sum_by (λ (w : Warded). work_of now w) sides
