-- Parts of a list, joined again.
use Rattle.std.proofs.Common.{◌≡◌, ℕ, ◌+◌, ◌-◌, ◌<◌, ◌≤◌, List, [], ◌++◌, length, take, drop, ◌∙◌, arith, subst}
use Rattle.std.specs.Prelude.{Option, Some, None, option_map, IfSome}
use Rattle.std.proofs.lemmas.Grind.{common_steps}
use Rattle.std.proofs.lemmas.List.{drop-drop, drop-take, take-append-drop}

cut_behind : (n k : ℕ) (xs : List ℕ) → drop n (take (n + k) xs) ++ drop (n + k) xs ≡ drop n xs
cut_behind n k xs = rw (drop-take n k xs, ← drop-drop k n xs) (take-append-drop k (drop n xs))

-- what lies past n, cut at m and joined again
pub drop-take-drop : (n m : ℕ) (xs : List ℕ) → n ≤ m → drop n (take m xs) ++ drop m xs ≡ drop n xs
drop-take-drop n m xs within =
    let place : n + (m - n) ≡ m = omega arith in
    subst (λ (k : ℕ). drop n (take k xs) ++ drop k xs ≡ drop n xs) place (cut_behind n (m - n) xs)

-- fewer than n are the whole list
pub take-whole : (n : ℕ) (xs : List ℕ) → length (take n xs) < n → take n xs ≡ xs
take-whole n xs few = let within : length xs ≤ n = grind (arith, common_steps) in grind (arith, common_steps)

-- bytes that were read up to a limit, and are fewer, are all that there were
pub all-below_limit : (remaining : Option (List ℕ)) (limit : ℕ) (bytes : List ℕ)
    → IfSome (option_map (take limit) remaining) (λ xs. bytes ≡ [] ++ xs) → length bytes < limit → IfSome remaining (λ all. bytes ≡ all)
all-below_limit None limit bytes read few = tt
all-below_limit (Some all) limit bytes read few = read ∙ take-whole limit all (subst (λ (xs : List ℕ). length xs < limit) read few)
