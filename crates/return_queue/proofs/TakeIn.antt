-- A taking in keeps the rule.
use Rattle.std.proofs.Common.{◌≡◌, ◌≢◌, ℕ, suc, ◌+◌, ◌<◌, ◌≤◌, ◌==◌, eq-eqb, ne_eqb, true, false, true≢false, cond, List, [], ◌∷◌, ◌++◌, length, set, sym, refl, ap, ◌∙◌, subst, inr, ⊎_elim, arith}
use Rattle.std.proofs.lemmas.List.{length-append, length-set, length-map}
use mathlib.Core.Option.{some}
use lib.ListN.{get_elem?}
use Rattle.crossbeam_queue.specs.Fifo.{Merges}
use Rattle.crossbeam_queue.proofs.Lists.{at_set}
use Rattle.return_queue.specs.declared.note.Note.{Note}
use Rattle.return_queue.specs.declared.rule.Past.{Past}
use Rattle.return_queue.specs.declared.rule.View.{View}
use Rattle.return_queue.specs.Order.{Starts}
use Rattle.return_queue.specs.Rule.{spent, taken_in, IsReader, IsBehind, IsOver, IsRuled, Holds}
use Rattle.return_queue.proofs.Lists.{at_lt, at_end, starts_length, lt_split}
use Rattle.return_queue.proofs.Steps.{not_blank, no_giver, lives}

-- the place of the pass that was taken in last, and of those before
abbrev placed : (ℕ → ℕ) → ℕ → ℕ → ℕ → ℕ
placed seat n o i = cond (i == n) o (seat i)

here : (seat : ℕ → ℕ) (n o i : ℕ) → i ≡ n → placed seat n o i ≡ o
here seat n o i e = ap (λ b. cond b o (seat i)) (eq-eqb i n e)

there : (seat : ℕ → ℕ) (n o i : ℕ) → i < n → placed seat n o i ≡ seat i
there seat n o i l = ap (λ b. cond b o (seat i)) (ne_eqb i n (λ e. let k : i ≡ n = e in omega arith))

module _ (items : List Note) (views : List View) (order : List (ℕ × Note)) (got : List Note) (past : List Past) (cap until reader : ℕ) (seat : ℕ → ℕ) (s : IsRuled items views order got past cap until reader seat)
    (p : ℕ) (v : View) (at : get_elem? views p ≡ some v) (o : ℕ) (w : View) (apart : o ≢ p) (their : get_elem? views o ≡ some w) (t : v.takes ≡ true) (g : w.gives ≡ true) where
  abbrev both : View
  both = taken_in v w

  abbrev after : List View
  after = set (set views p both) o spent

  abbrev last : Past
  last = record { own = w.own; seen = w.seen }

  same : length after ≡ length views
  same = length-set (set views p both) o spent ∙ length-set views p both

  -- what a view is after it
  cases : {R : Type 0} (q : ℕ) (u : View) → get_elem? after q ≡ some u → ((q ≡ o) × (spent ≡ u) → R) → ((q ≡ p) × (both ≡ u) → R) → ((q ≢ o) × (q ≢ p) × (get_elem? views q ≡ some u) → R) → R
  cases q u e a b c = ⊎_elim a (λ (x : (q ≢ o) × (get_elem? (set views p both) q ≡ some u)). ⊎_elim b (λ (y : (q ≢ p) × (get_elem? views q ≡ some u)). c (x.0, y.0, y.1)) (at_set views p q both u x.1)) (at_set (set views p both) o q spent u e)

  bounded : (seen : List (ℕ × Note)) → Starts order seen → length seen ≤ length v.got + v.cap
  bounded seen h = let mine = s.taker p v at t in let a = starts_length order seen h in
      let b : length order ≡ length got + length items = sym (length-map order (λ (y : ℕ × Note). y.1)) ∙ ap length s.stands ∙ length-append got items in let c = s.room in
      let d : length v.got ≡ length got = ap length mine.got in let e = mine.cap in omega arith

  took_in : IsRuled items after order got (past ++ last ∷ []) cap (length v.got + v.cap) reader (placed seat (length past) o)
  took_in = let mine = s.taker p v at t in let other = s.pass o w their g in
      let more : length (past ++ last ∷ []) ≡ suc (length past) = (let n = length-append past (last ∷ []) in omega arith) in record {
        stands = s.stands;
        room = s.room;
        later = λ q far. s.later q (subst (λ (n : ℕ). n ≤ q) same far);
        pass = λ q u e g'. cases q u e
            (λ x. absurd (true≢false (sym g' ∙ ap (λ (y : View). y.gives) (sym x.1))))
            (λ x. absurd (true≢false (sym g' ∙ ap (λ (y : View). y.gives) (sym x.1) ∙ mine.gives)))
            (λ x. s.pass q u x.2 g');
        taker = λ q u e t'. cases q u e
            (λ x. absurd (true≢false (sym t' ∙ ap (λ (y : View). y.takes) (sym x.1))))
            (λ x. subst (λ (y : ℕ × View). IsReader got (past ++ last ∷ []) cap (length v.got + v.cap) reader y.0 y.1) (λ i. (sym x.0 i, x.1 i))
            (record { gives = mine.gives; one = mine.one; got = mine.got; past = ap (λ l. l ++ last ∷ []) mine.past; cap = mine.cap; until = refl }))
            (λ x. absurd (x.1 ((s.taker q u x.2 t').one ∙ sym mine.one)));
        behind = λ i e e'. ⊎_elim
            (λ (x : get_elem? past i ≡ some e). let b = s.behind i e x in subst (λ (n : ℕ). IsBehind order (length v.got + v.cap) n e) (sym (there seat (length past) o i (at_lt past i e x)))
            (record { own = b.own; has = b.has; seen = b.seen; bound = bounded e.seen b.seen }))
            (λ (x : (i ≡ length past) × (last ≡ e)). subst (λ (y : ℕ × Past). IsBehind order (length v.got + v.cap) y.0 y.1) (λ k. (sym (here seat (length past) o i x.0) k, x.1 k))
            (record { own = other.own; has = other.has; seen = other.seen; bound = bounded w.seen other.seen }))
            (at_end past last e i e');
        over = λ i l. ⊎_elim
            (λ (x : i ≡ length past). subst (IsOver after) (sym (here seat (length past) o i x)) over_new)
            (λ (x : i < length past). subst (IsOver after) (sym (there seat (length past) o i x)) (over_old i x))
            (lt_split i (length past) (omega arith));
        apart = λ i j l m e. ⊎_elim
            (λ (x : i ≡ length past). ⊎_elim
            (λ (y : j ≡ length past). x ∙ sym y)
            (λ (y : j < length past). absurd (lives items views order got past cap until reader seat s o w their g j y (sym (there seat (length past) o j y) ∙ sym e ∙ here seat (length past) o i x)))
            (lt_split j (length past) (omega arith)))
            (λ (x : i < length past). ⊎_elim
            (λ (y : j ≡ length past). absurd (lives items views order got past cap until reader seat s o w their g i x (sym (there seat (length past) o i x) ∙ e ∙ here seat (length past) o j y)))
            (λ (y : j < length past). s.apart i j x y (sym (there seat (length past) o i x) ∙ e ∙ there seat (length past) o j y))
            (lt_split j (length past) (omega arith)))
            (lt_split i (length past) (omega arith));
      }
    where
      over_new : IsOver after o
      over_new = (
        subst (λ (n : ℕ). o < n) (sym same) (at_lt views o w their),
        λ u e. cases o u e
            (λ x. ap (λ (y : View). y.gives) (sym x.1))
            (λ x. ap (λ (y : View). y.gives) (sym x.1) ∙ (s.taker p v at t).gives)
            (λ x. absurd (x.0 refl)),
      )

      over_old : (i : ℕ) → i < length past → IsOver after (seat i)
      over_old i l = (
        subst (λ (n : ℕ). seat i < n) (sym same) (s.over i l).0,
        λ u e. cases (seat i) u e
            (λ x. ap (λ (y : View). y.gives) (sym x.1))
            (λ x. ap (λ (y : View). y.gives) (sym x.1) ∙ (s.taker p v at t).gives)
            (λ x. (s.over i l).1 u x.2),
      )

pub takes_in : (p : ℕ) (v : View) (o : ℕ) (w : View) → v.gives ≡ false → v.takes ≡ true → w.gives ≡ true → Merges Holds p v o w (taken_in v w) spent
takes_in p v o w f t g items views h at two at' = let r = not_blank items views p v h at (no_giver v f) in
    let their : get_elem? views o ≡ some w = ⊎_elim (λ x. absurd (two x.0)) (λ x. x.1) (at_set views p o (taken_in v w) w at') in
    inr (r.0, r.1, r.2 ++ (record { own = w.own; seen = w.seen }) ∷ [], r.3, length v.got + v.cap, r.5, placed r.6 (length r.2) o, took_in items views r.0 r.1 r.2 r.3 r.4 r.5 r.6 r.7 p v at o w two their t g)
