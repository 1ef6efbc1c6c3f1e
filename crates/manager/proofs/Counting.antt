-- What was taken and counted, after one more note.
use Rattle.std.proofs.Common.{◌≡◌, ℕ, ◌+◌, List, [], ◌∷◌, ◌++◌, length, min, sym, refl, ap, ◌∙◌, subst, append_assoc, arith}
use Rattle.std.proofs.lemmas.List.{length-append}
use Rattle.segment.specs.Warded.{Warded}
use Rattle.block_pool.specs.Stock.{Stock}
use Rattle.discard_book.specs.declared.entry.Entry.{Entry}
use Rattle.manager_state.specs.Managed.{Managed}
use Rattle.manager_state.specs.Calls.{GivesBack}
use Rattle.manager_state.specs.declared.answers.Back.{Back}
use Rattle.return_queue.specs.declared.note.Note.{Note}
use Rattle.manager.specs.Counted.{with_answer, after_note, after_notes, CountsNotes}

abbrev with : List Entry → ℕ → List Warded → Stock → Managed
with entries limit sides stock = record { entries = entries; limit = limit; sides = sides; stock = stock }

same_parts : (e e' : List Entry) (l l' : ℕ) (w w' : List Warded) (s s' : Stock) → e ≡ e' → l ≡ l' → w ≡ w' → s ≡ s' → with e l w s ≡ with e' l' w' s'
same_parts e e' l l' w w' s s' p q r t =
    ap (λ (x : List Entry). with x l w s) p ∙ (ap (λ (x : ℕ). with e' x w s) q ∙ (ap (λ (x : List Warded). with e' l' x s) r ∙ ap (λ (x : Stock). with e' l' w' x) t))

-- a return is the state after its note
pub gave_back : (note : Note) (answer : Back) (old new : Managed) → GivesBack note.client note.id note.block answer old new → new ≡ after_note old note
gave_back note answer old new g =
    same_parts new.entries _ new.limit _ new.sides _ new.stock _ g.entries g.limit g.sides g.stock
    ∙ ap (λ (a : Back). with_answer note a old) g.told

pub after_notes_snoc : (old : Managed) (notes : List Note) (note : Note) → after_notes old (notes ++ note ∷ []) ≡ after_note (after_notes old notes) note
after_notes_snoc old [] note = refl
after_notes_snoc old (n ∷ ns) note = after_notes_snoc (after_note old n) ns note

-- one note more was taken and counted
pub turned : (b₀ : Managed) (t₀ : List Note) (b : Managed) (t : List Note) (b' : Managed) (t' : List Note) (P Q : ℕ → Type 0) → CountsNotes b₀ t₀ b t P
    → ((note : Note) × (t' ≡ t ++ note ∷ []) × (b' ≡ after_note b note)) → ((k : ℕ) → P k → Q (k + 1)) → CountsNotes b₀ t₀ b' t' Q
turned b₀ t₀ b t b' t' P Q s h more = (
  s.0 ++ h.0 ∷ [],
  h.1 ∙ ap (λ l. l ++ h.0 ∷ []) s.1 ∙ append_assoc t₀ s.0 (h.0 ∷ []),
  h.2 ∙ ap (λ l. after_note l h.0) s.2 ∙ sym (after_notes_snoc b₀ s.0 h.0),
  subst Q (sym (length-append s.0 (h.0 ∷ []))) (more (length s.0) s.3),
)

-- no note more was taken
pub turned_none : (b₀ : Managed) (t₀ : List Note) (b : Managed) (t : List Note) (b' : Managed) (t' : List Note) (P : ℕ → Type 0) → CountsNotes b₀ t₀ b t P
    → (t' ≡ t) × (b' ≡ b) → CountsNotes b₀ t₀ b' t' P
turned_none b₀ t₀ b t b' t' P s h = (s.0, h.0 ∙ s.1, h.1 ∙ s.2, s.3)

pub longer : (t₀ t n : List Note) → t ≡ t₀ ++ n → length t ≡ length t₀ + length n
longer t₀ t n e = ap length e ∙ length-append t₀ n

pub capped : (k m : ℕ) → min (min k m + 1) m ≡ min (k + 1) m
capped k m = omega arith
