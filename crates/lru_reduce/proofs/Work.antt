-- Less work is left after each try of a segment whose known use is before the moment.
use Rattle.std.proofs.Common.{◌≡◌, ◌≢◌, ℕ, ◌-◌, ◌*◌, ◌/◌, ◌<◌, ◌≤◌, nat_le, cond, List, [], ◌∷◌, inl, inr, unwrap_or, arith}
use Rattle.std.proofs.lemmas.Bool.{cases_eq}
use Rattle.std.proofs.lemmas.Bool.Decides.{nat_tests}
use Rattle.segment.specs.Tries.{known_use, FoundBy, IsTimely}
use Rattle.lru_reduce.specs.Measure.{guesses}

-- the known use after these tries, 0 for none
abbrev pub known_by : List (ℕ × ℕ) → ℕ
known_by tries = unwrap_or (known_use tries) 0

abbrev pub left_by : ℕ → List (ℕ × ℕ) → ℕ
left_by now tries = cond (nat_le now (known_by tries)) 0 (guesses now tries (known_by tries))

after_held : (now : ℕ) (tries : List (ℕ × ℕ)) → left_by now ((now, 1) ∷ tries) ≡ 0
after_held now tries = grind (arith, nat_tests)

some_left : (now : ℕ) (tries : List (ℕ × ℕ)) → known_by tries < now → 1 ≤ left_by now tries
some_left now [] before = grind (arith, nat_tests)
some_left now ((at, word) ∷ older) before = grind (arith, nat_tests)

-- after a stamp
after_stamp : (now word : ℕ) (tries : List (ℕ × ℕ)) → word ≢ 1 → left_by now ((now, word) ∷ tries) ≤ now - word / 2
after_stamp now word tries other = grind (arith, nat_tests)

guess_left : (now word : ℕ) (tries : List (ℕ × ℕ)) → known_by tries < now → word ≢ 1 → word ≡ 2 * (word / 2) → word ≢ 2 * known_by tries → 1 ≤ word / 2 → FoundBy (word / 2) tries → now - word / 2 < left_by now tries
guess_left now word [] before other even differs least within = grind (arith, nat_tests)
guess_left now word ((at, found) ∷ older) before other even differs least within =
    elim (cases_eq found 1) [
      | inl held ↦ grind (arith, nat_tests)
      | inr stamp ↦ let rises : found / 2 ≤ word / 2 = within.0 stamp in grind (arith, nat_tests)
    ]

pub less_left : (now word : ℕ) (tries : List (ℕ × ℕ)) → known_by tries < now → word ≢ 2 * known_by tries → IsTimely word tries → left_by now ((now, word) ∷ tries) < left_by now tries
less_left now word tries before differs timely =
    elim (cases_eq word 1) [
      | inl held ↦ let some = some_left now tries before in let none : left_by now ((now, word) ∷ tries) ≡ 0 = rw held (after_held now tries) in omega (arith, some, none)
      | inr stamp ↦
          let facts = timely stamp in
          let low = after_stamp now word tries stamp in
          let high = guess_left now word tries before stamp facts.1 differs facts.0.0 facts.2 in omega (arith, low, high)
    ]
