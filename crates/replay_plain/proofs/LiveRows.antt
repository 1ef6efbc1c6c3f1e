-- The live known uses of what is kept, and the entries that stand for them.
use Rattle.std.proofs.Common.{◌≡◌, ℕ, ◌+◌, ◌<◌, Bool, true, false, cond, List, [], ◌∷◌, ◌++◌, length, set, Option, Some, None, slice_get, inl, inr, refl, sym, ap, ap₂, ◌∙◌, subst, arith}
use Rattle.std.specs.List.{Contains}
use Rattle.std.specs.List.Sorted.{IsPermutation}
use Rattle.std.proofs.lemmas.Bool.{cases_eq}
use Rattle.std.proofs.lemmas.List.Sorted.{Contains-permutation}
use Rattle.std.proofs.lemmas.Option.{slice_get_within}
use Rattle.use_queue.specs.Entries.{HoldsEach, HoldsOthers, IsOnlyUse}
use Rattle.use_queue.proofs.Firsts.{head_in, later_in}
use Rattle.replay_plain.specs.declared.segment.KnownSegment.{KnownSegment}
use Rattle.replay_plain.specs.Rows.{live_use_of, live_use, IsLiveUse}
use Rattle.replay_plain.proofs.Places.{get_set_other, get_push_other, some_is, none_not_some}

-- the segment of a live entry
pub record LiveRow (rows : List KnownSegment) (k : ℕ × ℕ) : Type 0 where
  pub segment : KnownSegment
  pub at : slice_get rows k.1 ≡ Some segment
  pub live : segment.live ≡ true
  pub known : segment.known ≡ k.0

live_with : (t : Bool) (used known : ℕ) → cond t (Some used) None ≡ Some known → (t ≡ true) × (used ≡ known)
live_with true used known e = (refl, some_is used known e)
live_with false used known e = absurd (none_not_some known e)

pub live_row : (rows : List KnownSegment) (k : ℕ × ℕ) → IsLiveUse rows k → LiveRow rows k
live_row rows k live = by (slice_get rows k.1) refl live
  where
    by : (o : Option KnownSegment) → slice_get rows k.1 ≡ o → live_use_of o ≡ Some k.0 → LiveRow rows k
    by None at e = absurd (none_not_some k.0 e)
    by (Some segment) at e = let two = live_with segment.live segment.known k.0 e in record { segment = segment; at = at; live = two.0; known = two.1 }

-- a live number has one known use
pub only_use : (rows : List KnownSegment) (id known : ℕ) → live_use rows id ≡ Some known → IsOnlyUse id known (IsLiveUse rows)
only_use rows id known is k live number = some_is k.0 known (sym live ∙ ap (λ n. live_use rows n) number ∙ is)

-- this number is dead
pub each_dead : (rows : List KnownSegment) (id : ℕ) (entries : List (ℕ × ℕ)) → live_use rows id ≡ None → HoldsOthers id (IsLiveUse rows) entries → HoldsEach (IsLiveUse rows) entries
each_dead rows id entries dead others k live =
    elim (cases_eq k.1 id) [
      | inl number ↦ absurd (none_not_some k.0 (sym dead ∙ ap (λ n. live_use rows n) (sym number) ∙ live))
      | inr other ↦ others k live other
    ]

-- what is kept of one number changes
pub others_set : (rows : List KnownSegment) (id : ℕ) (after : KnownSegment) (entries : List (ℕ × ℕ)) → HoldsEach (IsLiveUse rows) entries → HoldsOthers id (IsLiveUse (set rows id after)) entries
others_set rows id after entries each k live other = each k (ap live_use_of (sym (get_set_other rows id k.1 after other)) ∙ live)

-- the next number comes
pub others_pushed : (rows : List KnownSegment) (id : ℕ) (fresh : KnownSegment) (entries : List (ℕ × ℕ)) → id ≡ length rows → HoldsEach (IsLiveUse rows) entries
    → HoldsOthers id (IsLiveUse (rows ++ fresh ∷ [])) entries
others_pushed rows id fresh entries next each k live other =
    each k (ap live_use_of (sym (get_push_other rows k.1 fresh (λ same. other (same ∙ sym next)))) ∙ live)

-- the entries of the numbers below this one are there
abbrev pub HoldsBelow : ℕ → List KnownSegment → List (ℕ × ℕ) → Type 0
HoldsBelow n rows entries = (k : ℕ × ℕ) → IsLiveUse rows k → k.1 < n → Contains entries k

pub below_all : (n : ℕ) (rows : List KnownSegment) (entries : List (ℕ × ℕ)) → n ≡ length rows → HoldsBelow n rows entries → HoldsEach (IsLiveUse rows) entries
below_all n rows entries whole below k live =
    let row = live_row rows k live in
    let inside = slice_get_within rows k.1 row.segment row.at in
    below k live (omega (arith, inside, whole))

-- the known use of a number, by what is kept of it
use_at : (rows : List KnownSegment) (n : ℕ) (segment : KnownSegment) (t : Bool) → slice_get rows n ≡ Some segment → segment.live ≡ t → live_use rows n ≡ cond t (Some segment.known) None
use_at rows n segment t at is = ap live_use_of at ∙ ap (λ b. cond b (Some segment.known) None) is

pub below_live : (n : ℕ) (rows : List KnownSegment) (segment : KnownSegment) (old new : List (ℕ × ℕ)) → slice_get rows n ≡ Some segment → segment.live ≡ true
    → IsPermutation ((segment.known, n) ∷ old) new → HoldsBelow n rows old → HoldsBelow (n + 1) rows new
below_live n rows segment old new at is moved below k live inside =
    Contains-permutation ((segment.known, n) ∷ old) new k moved (elim (cases_eq k.1 n) [
      | inl number ↦
          let used = only_use rows n segment.known (use_at rows n segment true at is) k live number in
          subst (λ (o : ℕ × ℕ). Contains ((segment.known, n) ∷ old) o) (ap₂ (λ (a b : ℕ). (a, b)) (sym used) (sym number)) (head_in (segment.known, n) old)
      | inr other ↦ later_in (segment.known, n) k old (below k live (omega (arith, inside, other)))
    ])

pub below_dead : (n : ℕ) (rows : List KnownSegment) (segment : KnownSegment) (entries : List (ℕ × ℕ)) → slice_get rows n ≡ Some segment → segment.live ≡ false
    → HoldsBelow n rows entries → HoldsBelow (n + 1) rows entries
below_dead n rows segment entries at dead below k live inside =
    elim (cases_eq k.1 n) [
      | inl number ↦ absurd (none_not_some k.0 (sym (use_at rows n segment false at dead) ∙ ap (λ m. live_use rows m) (sym number) ∙ live))
      | inr other ↦ below k live (omega (arith, inside, other))
    ]

-- nothing is kept of a live number, and nothing stands in the queue
pub no_entry : (entries : List (ℕ × ℕ)) (k : ℕ × ℕ) → entries ≡ [] → Contains entries k → ⊥
no_entry [] k e there = let inside = there.1 in absurd (omega (arith, inside))
no_entry (o ∷ entries) k e there = cc
