-- Lists read by place, the notes of one pass, and beginnings.
use Rattle.std.proofs.Common.{◌≡◌, ◌≢◌, ◌⊎◌, ℕ, zero, suc, ◌+◌, ◌<◌, ◌≤◌, ◌==◌, eq-eqb, ne_eqb, Bool, true, false, cond, List, [], ◌∷◌, ◌++◌, length, sym, refl, ap, ◌∙◌, inl, inr, ⊎_elim, append_assoc, arith}
use Rattle.std.proofs.lemmas.List.{map-append, length-append}
use mathlib.Core.Option.{some, some-ne-none, some-injective}
use lib.ListN.{get_elem?}
use Rattle.return_queue.specs.declared.note.Note.{Note}
use Rattle.return_queue.specs.Order.{Starts, of, notes}

pushed : (b : Bool) (y x : Note) (l : List Note) → cond b (y ∷ l ++ x ∷ []) (l ++ x ∷ []) ≡ cond b (y ∷ l) l ++ x ∷ []
pushed true y x l = refl
pushed false y x l = refl

after_cond : (b : Bool) (y : Note) (l m : List Note) → cond b (y ∷ l ++ m) (l ++ m) ≡ cond b (y ∷ l) l ++ m
after_cond true y l m = refl
after_cond false y l m = refl

of_append : (p : ℕ) (gs hs : List (ℕ × Note)) → of p (gs ++ hs) ≡ of p gs ++ of p hs
of_append p [] hs = refl
of_append p (g ∷ gs) hs = ap (λ l. cond (p == g.0) (g.1 ∷ l) l) (of_append p gs hs) ∙ after_cond (p == g.0) g.1 (of p gs) (of p hs)

nothing_before : (a b : List Note) → a ++ b ≡ [] → a ≡ []
nothing_before [] b e = refl
nothing_before (x ∷ xs) b e = absurd (let n : length (x ∷ xs ++ b) ≡ length {A = Note} [] = ap length e in let k : ℕ = length (xs ++ b) in let m : suc k ≡ 0 = n in omega arith)

pub of_same : (p : ℕ) (gs : List (ℕ × Note)) (x : Note) → of p (gs ++ (p, x) ∷ []) ≡ of p gs ++ x ∷ []
of_same p [] x = ap (λ b. cond b (x ∷ []) []) (eq-eqb p p refl)
of_same p (g ∷ gs) x = ap (λ l. cond (p == g.0) (g.1 ∷ l) l) (of_same p gs x) ∙ pushed (p == g.0) g.1 x (of p gs)

pub of_other : (q p : ℕ) (gs : List (ℕ × Note)) (x : Note) → q ≢ p → of q (gs ++ (p, x) ∷ []) ≡ of q gs
of_other q p [] x n = ap (λ b. cond b (x ∷ []) []) (ne_eqb q p n)
of_other q p (g ∷ gs) x n = ap (λ l. cond (q == g.0) (g.1 ∷ l) l) (of_other q p gs x n)

-- a beginning of an order in which the pass gave nothing has nothing of it
pub of_first : (p : ℕ) (gs hs : List (ℕ × Note)) → Starts gs hs → of p gs ≡ [] → of p hs ≡ []
of_first p gs hs h e = nothing_before (of p hs) (of p h.0) (sym (of_append p hs h.0) ∙ ap (of p) (sym h.1) ∙ e)

pub notes_snoc : (gs : List (ℕ × Note)) (p : ℕ) (x : Note) → notes (gs ++ (p, x) ∷ []) ≡ notes gs ++ x ∷ []
notes_snoc gs p x = map-append (λ (g : ℕ × Note). g.1) gs ((p, x) ∷ [])

module _ {A : Type 0} where
  pub at_lt : (l : List A) (j : ℕ) (b : A) → get_elem? l j ≡ some b → j < length l
  at_lt [] zero b e = absurd (some-ne-none b (sym e))
  at_lt [] (suc j) b e = absurd (some-ne-none b (sym e))
  at_lt (x ∷ xs) zero b e = let n : ℕ = length xs in omega arith
  at_lt (x ∷ xs) (suc j) b e = let h : j < length xs = at_lt xs j b e in omega arith

  pub at_end : (l : List A) (a b : A) (j : ℕ) → get_elem? (l ++ a ∷ []) j ≡ some b → (get_elem? l j ≡ some b) ⊎ ((j ≡ length l) × (a ≡ b))
  at_end [] a b zero e = inr (refl, some-injective a b e)
  at_end [] a b (suc j) e = absurd (some-ne-none b (sym e))
  at_end (x ∷ xs) a b zero e = inl e
  at_end (x ∷ xs) a b (suc j) e = ⊎_elim (λ r. inl r) (λ r. inr (ap suc r.0, r.1)) (at_end xs a b j e)

  pub at_longer : (l : List A) (a : A) (i : ℕ) (b : A) → get_elem? l i ≡ some b → get_elem? (l ++ a ∷ []) i ≡ some b
  at_longer [] a zero b e = absurd (some-ne-none b (sym e))
  at_longer [] a (suc i) b e = absurd (some-ne-none b (sym e))
  at_longer (x ∷ xs) a zero b e = e
  at_longer (x ∷ xs) a (suc i) b e = at_longer xs a i b e

  pub at_last : (l : List A) (a : A) → get_elem? (l ++ a ∷ []) (length l) ≡ some a
  at_last [] a = refl
  at_last (x ∷ xs) a = at_last xs a

  pub starts_more : (xs p ys : List A) → Starts xs p → Starts (xs ++ ys) p
  starts_more xs p ys h = (h.0 ++ ys, ap (λ l. l ++ ys) h.1 ∙ append_assoc p h.0 ys)

  pub starts_length : (xs p : List A) → Starts xs p → length p ≤ length xs
  starts_length xs p h = let e : length xs ≡ length p + length h.0 = ap length h.1 ∙ length-append p h.0 in omega arith

pub lt_split : (i n : ℕ) → i < suc n → (i ≡ n) ⊎ (i < n)
lt_split zero zero h = inl refl
lt_split zero (suc n) h = inr (omega arith)
lt_split (suc i) zero h = absurd (omega arith)
lt_split (suc i) (suc n) h = ⊎_elim (λ e. inl (ap suc e)) (λ (l : i < n). inr (omega arith)) (lt_split i n (omega arith))
