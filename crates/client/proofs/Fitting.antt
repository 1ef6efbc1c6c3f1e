-- A run fits in the segments that a client knows.
use Rattle.std.proofs.Common.{◌≡◌, ◌≢◌, ℕ, ◌+◌, ◌≤◌, ◌==◌, false, List, ◌∷◌, ◌++◌, [], map, Some, sym, ◌∙◌}
use Rattle.std.specs.List.{All, slice_get, list_any}
use Rattle.std.proofs.lemmas.Bool.{eq-eqb, both_ways, or_parts}
use Rattle.std.proofs.lemmas.List.Elements.{All-set, All-push, All-cons, All-nil}
use Rattle.std.proofs.lemmas.List.Folds.{list_any-append}
use Rattle.segment.specs.Owned.{Owned}
use Rattle.span_heap.specs.declared.run.Run.{Run}
use Rattle.client.specs.Lease.{Lease}
use Rattle.client.specs.Seen.{Seen, IsUnknown, numbers_of}
use Rattle.client.specs.Pieces.{FitsIn}
use Rattle.client.specs.Calls.{Turns}
use Rattle.client.proofs.Rows.{All-at}
use Rattle.client.proofs.LeaseSteps.{Keeps}

-- a run fits where a segment turned, and kept its number and its pages
pub fits_turned : (old new : Seen) (place : ℕ) (lease turned : Lease) (run : Run) → slice_get old.leases place ≡ Some lease → Keeps lease turned → Turns place turned old new → FitsIn old run → FitsIn new run
fits_turned old new place lease turned run at keeps turns fits =
    record {
      leases = rw turns.leases (All-set fits_one old.leases place turned (λ number. rw keeps.pages (All-at fits_one old.leases place lease fits.leases at (sym keeps.same ∙ number))) fits.leases);
      gone = rw turns.gone.gone fits.gone;
    }
  where
    fits_one : Lease → Type 0
    fits_one lease = lease.side.id ≡ run.segment → run.first + run.pages ≤ lease.side.pages

-- no segment that the client knows has a number that it does not know
none_is : {X : Type 0} (f : X → ℕ) (id : ℕ) (xs : List X) → list_any (λ n. n == id) (map f xs) ≡ false → All (λ x. f x ≢ id) xs
none_is f id [] none = All-nil (λ x. f x ≢ id)
none_is f id (x ∷ xs) none =
    let parts = or_parts (f x == id) (list_any (λ n. n == id) (map f xs)) none in
    All-cons (λ x. f x ≢ id) x xs (λ same. both_ways _ parts.0 (eq-eqb (f x) id same)) (none_is f id xs parts.1)

unknown_parts : (seen : Seen) (id : ℕ) → IsUnknown id seen → (list_any (λ n. n == id) (numbers_of seen.leases) ≡ false) × (list_any (λ n. n == id) (map (λ (s : Owned). s.id) seen.gone) ≡ false)
unknown_parts seen id unknown =
    or_parts _ _ (sym (list_any-append (λ n. n == id) (numbers_of seen.leases) (map (λ (s : Owned). s.id) seen.gone)) ∙ unknown)

-- the front of a segment that came lies within it, where its number was unknown
pub fits_front : (old new : Seen) (lease : Lease) (run : Run) → IsUnknown run.segment old → new.leases ≡ old.leases ++ lease ∷ [] → new.gone ≡ old.gone → run.first + run.pages ≤ lease.side.pages → FitsIn new run
fits_front old new lease run unknown leases gone less =
    let parts = unknown_parts old run.segment unknown in
    record {
      leases = rw leases (All-push (λ (l : Lease). l.side.id ≡ run.segment → run.first + run.pages ≤ l.side.pages) old.leases lease (λ k d within number. absurd (none_is (λ (l : Lease). l.side.id) run.segment old.leases parts.0 k d within number)) (λ number. less));
      gone = rw gone (λ k d within number. absurd (none_is (λ (s : Owned). s.id) run.segment old.gone parts.1 k d within number));
    }
