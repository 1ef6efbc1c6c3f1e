-- How the words on streams and on counts of calls follow from one another.
use Rattle.std.proofs.Common.{◌≡◌, ℕ, ◌+◌, ◌-◌, ◌≤◌, List, ◌++◌, length, take, drop, refl, sym, ap, arith, append_assoc, ◌∙◌}
use Rattle.std.specs.Prelude.{Option, Some, None}
use Rattle.std.proofs.lemmas.Grind.{common_steps}
use Rattle.std.proofs.Math.Seq.{take-add}
use Rattle.discard_io.specs.Counts.{CalledAtMost, one_call_more}
use Rattle.discard_io.specs.Streams.{Took, appended}

-- bytes that were taken, and then some more
pub took-append : (before : Option (List ℕ)) (first : List ℕ) (between : Option (List ℕ)) (second : List ℕ) (after : Option (List ℕ))
    → Took before first between → Took between second after → Took before (first ++ second) after
took-append before first between second None took more = rw took (rw more refl)
took-append before first between second (Some rest) took more = rw took (rw more (ap Some (sym (append_assoc first second rest))))

-- some calls were made, and then one more
pub called-one_more : (before : Option ℕ) (most : ℕ) (between after : Option ℕ)
    → CalledAtMost before most between → after ≡ one_call_more between → CalledAtMost before (most + 1) after
called-one_more None most None after calls counted = rw counted tt
called-one_more None most (Some between) after calls counted = absurd calls
called-one_more (Some before) most None after calls counted = absurd calls
called-one_more (Some before) most (Some between) after calls counted = rw counted (grind (arith, common_steps))

-- a bound on calls may be larger
pub called-within : (before : Option ℕ) (most larger : ℕ) (after : Option ℕ)
    → CalledAtMost before most after → most ≤ larger → CalledAtMost before larger after
called-within None most larger None calls within = tt
called-within None most larger (Some after) calls within = absurd calls
called-within (Some before) most larger None calls within = absurd calls
called-within (Some before) most larger (Some after) calls within = omega (arith, calls, within)

-- a piece at the end of what was written
pub appended-append : (before : Option (List ℕ)) (first second : List ℕ) → appended (appended before first) second ≡ appended before (first ++ second)
appended-append None first second = refl
appended-append (Some bytes) first second = ap Some (append_assoc bytes first second)

-- the first n bytes after a front make a longer front
pub appended-front : (before between after : Option (List ℕ)) (bytes : List ℕ) (at n : ℕ)
    → between ≡ appended before (take at bytes) → after ≡ appended between (take n (take (length bytes - at) (drop at bytes)))
    → after ≡ appended before (take (at + n) bytes)
appended-front before between after bytes at n front more =
    let whole : take (length bytes - at) (drop at bytes) ≡ drop at bytes = grind (arith, common_steps) in
    let joined : appended between (take n (drop at bytes)) ≡ appended before (take at bytes ++ take n (drop at bytes)) =
    rw front (appended-append before (take at bytes) (take n (drop at bytes))) in
    more ∙ ap (λ rest. appended between (take n rest)) whole ∙ joined ∙ ap (appended before) (sym (take-add at n bytes))
