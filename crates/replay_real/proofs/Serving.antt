-- The pieces of a client of a script stay its own.
use Rattle.std.proofs.Common.{◌≡◌, ◌≢◌, ◌⊎◌, ⊎_elim, inl, inr, ℕ, ◌<◌, ◌≤◌, ◌==◌, ◌&&◌, zero, suc, Bool, true, false, List, [], ◌∷◌, ◌++◌, length, get_or, set, Option, Some, None, refl, sym, ap, ◌∙◌, subst, arith, eq-eqb}
use Rattle.std.proofs.lemmas.Bool.{eqb-true, false≢true}
use Rattle.std.proofs.lemmas.Bool.Decides.{nat_tests}
use Rattle.std.proofs.lemmas.List.{get_or-set_same, get_or-set_other, set-get_or}
use Rattle.span_heap.specs.declared.run.Run.{Run}
use Rattle.span_heap.specs.Run.{has_page}
use Rattle.client.specs.Seen.{Seen}
use Rattle.client.specs.Pieces.{Part, Owns, AllStay, AreApart, IsNew}
use Rattle.replay_real.specs.Served.{OwnsSlot, part_at, IsServed, KeepsSlot}

is_owned : (old new : Seen) → ((part : Part) → Owns old part → Owns new part) → (slot : Option Part) → OwnsSlot old slot → OwnsSlot new slot
is_owned old new keeps None o = tt
is_owned old new keeps (Some part) o = keeps part o

some_same : (a b : Part) → ◌≡◌ {A = Option Part} (Some a) (Some b) → a ≡ b
some_same a b e = cc

-- the client changed, and each piece stays
pub served_stay : (old new : Seen) (parts : List (Option Part)) → AllStay old new → IsServed old parts → IsServed new parts
served_stay old new parts stay w =
    record { owned = λ place. is_owned old new (λ part o. (stay part o).owned) (get_or parts place None) (w.owned place); once = w.once }

pub served_none : (client : Seen) → IsServed client []
served_none client = record { owned = λ place. tt; once = λ one other a b at1 at2 same. absurd cc }

-- the piece of a place that is there is owned
there : (client : Seen) (parts : List (Option Part)) (place : ℕ) (part : Part) → IsServed client parts → part_at parts place ≡ Some part → Owns client part
there client parts place part w is = subst (OwnsSlot client) is (w.owned place)

-- ---- one piece changed

-- what stands at a place afterwards
at_place : (parts : List (Option Part)) (place k : ℕ) (now : Option Part) → place < length parts → k ≡ place → part_at (set parts place now) k ≡ now
at_place parts place k now within is = ap (λ i. get_or (set parts place now) i None) is ∙ get_or-set_same parts place now None within

at_other : (parts : List (Option Part)) (place k : ℕ) (now : Option Part) → k ≢ place → part_at (set parts place now) k ≡ part_at parts k
at_other parts place k now differs = get_or-set_other parts place k now None differs

pub served_set : (old new : Seen) (parts : List (Option Part)) (place : ℕ) (now : Option Part) → place < length parts → KeepsSlot old new (part_at parts place) now
    → IsServed old parts → IsServed new (set parts place now)
served_set old new parts place now within keeps w =
    record {
      owned = λ k. owned_at k (k == place) refl;
      once = λ one other a b first second same. once_at one other a b (one == place) refl (other == place) refl first second same;
    }
  where
    differs : (k : ℕ) → (k == place) ≡ false → k ≢ place
    differs k no_test is = false≢true (sym no_test ∙ eq-eqb k place is)

    other_owned : (k : ℕ) → k ≢ place → (slot : Option Part) → part_at parts k ≡ slot → OwnsSlot old slot → OwnsSlot new slot
    other_owned k apart None is o = tt
    other_owned k apart (Some part) is o = keeps.others part o (λ before was same. apart (w.once k place part before is was same))

    owned_at : (k : ℕ) (b : Bool) → (k == place) ≡ b → OwnsSlot new (part_at (set parts place now) k)
    owned_at k true test = subst (OwnsSlot new) (sym (at_place parts place k now within (eqb-true k place test))) keeps.owned
    owned_at k false test =
        subst (OwnsSlot new) (sym (at_other parts place k now (differs k test))) (other_owned k (differs k test) (part_at parts k) refl (w.owned k))

    once_at : (one other : ℕ) (a b : Part) (t : Bool) → (one == place) ≡ t → (u : Bool) → (other == place) ≡ u
        → part_at (set parts place now) one ≡ Some a → part_at (set parts place now) other ≡ Some b → a.run ≡ b.run → one ≡ other
    once_at one other a b true t true u first second same = eqb-true one place t ∙ sym (eqb-true other place u)
    once_at one other a b true t false u first second same =
        let was = keeps.pages a (sym (at_place parts place one now within (eqb-true one place t)) ∙ first) in
        eqb-true one place t ∙ w.once place other was.0 b was.1 (sym (at_other parts place other now (differs other u)) ∙ second) (sym was.2 ∙ same)
    once_at one other a b false t true u first second same =
        let was = keeps.pages b (sym (at_place parts place other now within (eqb-true other place u)) ∙ second) in
        w.once one place a was.0 (sym (at_other parts place one now (differs one t)) ∙ first) was.1 (same ∙ was.2) ∙ sym (eqb-true other place u)
    once_at one other a b false t false u first second same =
        w.once one other a b (sym (at_other parts place one now (differs one t)) ∙ first) (sym (at_other parts place other now (differs other u)) ∙ second) same

-- the client changed, and so did no piece
pub served_kept : (old new : Seen) (parts : List (Option Part)) (place : ℕ) → place < length parts → KeepsSlot old new (part_at parts place) (part_at parts place)
    → IsServed old parts → IsServed new parts
served_kept old new parts place within keeps w =
    subst (IsServed new) (set-get_or parts place None) (served_set old new parts place (part_at parts place) within keeps w)

-- ---- a piece came

pushed : (xs : List (Option Part)) (x : Option Part) (k : ℕ) (y : Part) → get_or (xs ++ x ∷ []) k None ≡ Some y → (get_or xs k None ≡ Some y) ⊎ ((k ≡ length xs) × (x ≡ Some y))
pushed [] x zero y e = inr (refl, e)
pushed [] x (suc k) y e = absurd cc
pushed (z ∷ xs) x zero y e = inl e
pushed (z ∷ xs) x (suc k) y e = ⊎_elim (λ l. inl l) (λ r. inr (omega (arith, r.0), r.1)) (pushed xs x k y e)

-- pages that are some are not apart from themselves
not_apart : (run other : Run) → 1 ≤ run.pages → run ≡ other → AreApart run other → ⊥
not_apart run other some same apart =
    let has : has_page run.segment run.first run ≡ true = rw (eq-eqb run.segment run.segment refl) (grind (arith, nat_tests, some)) in
    false≢true (sym (subst (λ (r : Run). (has_page run.segment run.first run && has_page run.segment run.first r) ≡ false) (sym same) (apart run.segment run.first)) ∙ rw has refl)

pub served_push : (old new : Seen) (parts : List (Option Part)) (pages : ℕ) (part : Part) → 1 ≤ pages → AllStay old new → IsNew pages old new part
    → IsServed old parts → IsServed new (parts ++ Some part ∷ [])
served_push old new parts pages part some stay fresh w =
    record { owned = λ k. owned_at k (part_at (parts ++ Some part ∷ []) k) refl; once = λ one other a b first second same. once_at one other a b (pushed parts (Some part) one a first) (pushed parts (Some part) other b second) same }
  where
    sized : 1 ≤ part.run.pages
    sized = let is = fresh.sized in omega (arith, is, some)

    owned_at : (k : ℕ) (slot : Option Part) → part_at (parts ++ Some part ∷ []) k ≡ slot → OwnsSlot new slot
    owned_at k None is = tt
    owned_at k (Some y) is =
        ⊎_elim (λ at. (stay y (there old parts k y w at)).owned) (λ r. subst (Owns new) (some_same part y r.1) fresh.owned) (pushed parts (Some part) k y is)

    newer : (k : ℕ) (a b : Part) → part ≡ a → part_at parts k ≡ Some b → a.run ≡ b.run → ⊥
    newer k a b is at same = not_apart part.run b.run sized (ap (λ (p : Part). p.run) is ∙ same) (fresh.apart b (there old parts k b w at))

    once_at : (one other : ℕ) (a b : Part) → (part_at parts one ≡ Some a) ⊎ ((one ≡ length parts) × (Some part ≡ Some a))
        → (part_at parts other ≡ Some b) ⊎ ((other ≡ length parts) × (Some part ≡ Some b)) → a.run ≡ b.run → one ≡ other
    once_at one other a b (inl at1) (inl at2) same = w.once one other a b at1 at2 same
    once_at one other a b (inl at1) (inr r) same = absurd (newer one b a (some_same part b r.1) at1 (sym same))
    once_at one other a b (inr r) (inl at2) same = absurd (newer other a b (some_same part a r.1) at2 same)
    once_at one other a b (inr r) (inr s) same = r.0 ∙ sym s.0

-- ---- what is told changes no piece

pub told_stays : (old : Seen) (n : ℕ) → AllStay old (record old { told = n })
told_stays old n = λ part o.
    record {
      owned = record {
        mine = o.mine;
        there = ⊎_elim (λ live. inl (record { used = live.used; stands = live.stands; pages = live.pages })) (λ dead. inr (record { gone = dead.gone; free = dead.free })) o.there;
      };
      gone = λ gone. gone;
      bytes = λ there. refl;
    }

pub all_same : (seen : Seen) → AllStay seen seen
all_same seen = λ part o. record { owned = o; gone = λ gone. gone; bytes = λ there. refl }
