-- Each step but a taking in keeps the rule, and tells what it tells.
use Rattle.std.proofs.Common.{◌≡◌, ◌≢◌, ℕ, zero, suc, ◌<◌, ◌≤◌, true, false, true≢false, List, [], ◌∷◌, ◌++◌, length, set, sym, refl, ap, ◌∙◌, subst, inl, inr, ⊎_elim, append_assoc, arith}
use Rattle.std.proofs.lemmas.List.{append-nil, length-append, length-set}
use mathlib.Core.Option.{some, some-ne-none, some-injective}
use lib.ListN.{get_elem?}
use Rattle.crossbeam_queue.specs.Fifo.{Pushes, Pops, Forks, Learns}
use Rattle.crossbeam_queue.proofs.Lists.{at_set}
use Rattle.return_queue.specs.declared.note.Note.{Note}
use Rattle.return_queue.specs.declared.rule.Past.{Past}
use Rattle.return_queue.specs.declared.rule.View.{View}
use Rattle.return_queue.specs.Order.{Stood}
use Rattle.return_queue.specs.Rule.{new_pass, new_taker, blank, twin, IsGiver, IsReader, IsRuled, Ruled, Holds, Tells, Gave, Took}
use Rattle.return_queue.proofs.Lists.{of_same, of_other, of_first, notes_snoc, at_lt, at_end, starts_more}

one_view : (a v : View) (p : ℕ) → get_elem? (a ∷ []) p ≡ some v → v ≡ a
one_view a v zero e = sym (some-injective a v e)
one_view a v (suc p) e = absurd (some-ne-none v (sym e))

-- once the queue is open, no pass is blank
pub not_blank : (items : List Note) (views : List View) (p : ℕ) (v : View) → Holds items views → get_elem? views p ≡ some v → v ≢ blank → Ruled items views
not_blank items views p v (inl e) at n = absurd (n (one_view blank v p (subst (λ (l : List View). get_elem? l p ≡ some v) e.1 at)))
not_blank items views p v (inr r) at n = r

pub no_taker : (v : View) → v.takes ≡ false → v ≢ blank
no_taker v f e = true≢false (sym (ap (λ (y : View). y.takes) e) ∙ f)

pub no_giver : (v : View) → v.gives ≡ false → v ≢ blank
no_giver v f e = true≢false (sym (ap (λ (y : View). y.gives) e) ∙ f)

-- the opening
opened : (cap : ℕ) → IsRuled [] (new_taker cap ∷ new_pass cap ∷ []) [] [] [] cap 0 0 (λ _. 0)
opened cap = record {
  stands = refl;
  room = omega arith;
  later = λ p _. refl;
  pass = gives;
  taker = takes;
  behind = λ i e at. absurd (nothing i e at);
  over = λ i l. absurd (none i l);
  apart = λ i j l. absurd (none i l);
}
  where
    gives : (p : ℕ) (v : View) → get_elem? (new_taker cap ∷ new_pass cap ∷ []) p ≡ some v → v.gives ≡ true → IsGiver [] cap p v
    gives zero v e g = absurd (true≢false (sym g ∙ ap (λ (y : View). y.gives) (sym (some-injective (new_taker cap) v e))))
    gives (suc zero) v e g = subst (λ (y : View). IsGiver [] cap 1 y) (some-injective (new_pass cap) v e) (record { takes = refl; own = refl; has = refl; seen = ([], refl); cap = refl })
    gives (suc (suc p)) v e g = absurd (some-ne-none v (sym e))

    takes : (p : ℕ) (v : View) → get_elem? (new_taker cap ∷ new_pass cap ∷ []) p ≡ some v → v.takes ≡ true → IsReader [] [] cap 0 0 p v
    takes zero v e t = subst (λ (y : View). IsReader [] [] cap 0 0 0 y) (some-injective (new_taker cap) v e) (record { gives = refl; one = refl; got = refl; past = refl; cap = refl; until = refl })
    takes (suc zero) v e t = absurd (true≢false (sym t ∙ ap (λ (y : View). y.takes) (sym (some-injective (new_pass cap) v e))))
    takes (suc (suc p)) v e t = absurd (some-ne-none v (sym e))

    nothing : (i : ℕ) (e : Past) → get_elem? [] i ≡ some e → ⊥
    nothing zero e at = some-ne-none e (sym at)
    nothing (suc i) e at = some-ne-none e (sym at)

    none : (i : ℕ) → i < 0 → ⊥
    none i l = omega arith

pub opens : (cap p : ℕ) (v : View) → v ≡ blank → Forks Holds p v (new_taker cap) (new_pass cap)
opens cap zero v b items views (inl e) at = inr ([], [], [], cap, 0, 0, (λ _. 0), subst (λ (y : List Note × List View). IsRuled y.0 (set y.1 0 (new_taker cap) ++ new_pass cap ∷ []) [] [] [] cap 0 0 (λ _. 0)) (λ i. (sym e.0 i, sym e.1 i)) (opened cap))
opens cap (suc p) v b items views (inl e) at = absurd (some-ne-none v (sym (subst (λ (l : List View). get_elem? l (suc p) ≡ some v) e.1 at)))
opens cap p v b items views (inr r) at = let g : v.gives ≡ true = ap (λ (y : View). y.gives) b in
    absurd (true≢false (sym (ap (λ (y : View). y.takes) b) ∙ (r.7.pass p v at g).takes))

module _ (items : List Note) (views : List View) (order : List (ℕ × Note)) (got : List Note) (past : List Past) (cap until reader : ℕ) (seat : ℕ → ℕ) (s : IsRuled items views order got past cap until reader seat) (p : ℕ) (v : View) (at : get_elem? views p ≡ some v) where
  -- a pass that gives is not one that was taken in
  pub lives : v.gives ≡ true → (i : ℕ) → i < length past → seat i ≢ p
  lives g i l e = true≢false (sym g ∙ (s.over i l).1 v (subst (λ (q : ℕ). get_elem? views q ≡ some v) (sym e) at))

  sent : (x : Note) (own : List Note) → v.gives ≡ true → length items < cap → own ≡ v.own ++ x ∷ []
      → IsRuled (items ++ x ∷ []) (set views p (record v { own = own; seen = order ++ (p, x) ∷ [] })) (order ++ (p, x) ∷ []) got past cap until reader seat
  sent x own g short e = let mine = s.pass p v at g in let w : View = record v { own = own; seen = order ++ (p, x) ∷ [] } in let order' = order ++ (p, x) ∷ [] in record {
    stands = notes_snoc order p x ∙ ap (λ l. l ++ x ∷ []) s.stands ∙ append_assoc got items (x ∷ []);
    room = (let n = length-append items (x ∷ []) in omega arith);
    later = λ q far. let same = length-set views p w in let here = at_lt views p v at in
        of_other q p order x (λ is. (let n : q ≡ p = is in omega arith)) ∙ s.later q (omega arith);
    pass = λ q u at' g'. ⊎_elim
        (λ (is : (q ≡ p) × (w ≡ u)). subst (λ (y : ℕ × View). IsGiver order' cap y.0 y.1) (λ i. (sym is.0 i, is.1 i))
        (record { takes = mine.takes; own = of_same p order x ∙ ap (λ l. l ++ x ∷ []) mine.own ∙ sym e; has = of_same p order x ∙ ap (λ l. l ++ x ∷ []) mine.own ∙ sym e; seen = ([], sym (append-nil order')); cap = mine.cap }))
        (λ (is : (q ≢ p) × (get_elem? views q ≡ some u)). let o = s.pass q u is.1 g' in
        record { takes = o.takes; own = of_other q p order x is.0 ∙ o.own; has = o.has; seen = starts_more order u.seen ((p, x) ∷ []) o.seen; cap = o.cap })
        (at_set views p q w u at');
    taker = λ q u at' t. ⊎_elim
        (λ (is : (q ≡ p) × (w ≡ u)). absurd (true≢false (sym t ∙ ap (λ (y : View). y.takes) (sym is.1) ∙ mine.takes)))
        (λ (is : (q ≢ p) × (get_elem? views q ≡ some u)). s.taker q u is.1 t)
        (at_set views p q w u at');
    behind = λ i b at'. let o = s.behind i b at' in
        record { own = of_other (seat i) p order x (lives g i (at_lt past i b at')) ∙ o.own; has = o.has; seen = starts_more order b.seen ((p, x) ∷ []) o.seen; bound = o.bound };
    over = λ i l. (
      subst (λ (n : ℕ). seat i < n) (sym (length-set views p w)) (s.over i l).0,
      λ u at'. ⊎_elim
          (λ (is : (seat i ≡ p) × (w ≡ u)). absurd (lives g i l is.0))
          (λ (is : (seat i ≢ p) × (get_elem? views (seat i) ≡ some u)). (s.over i l).1 u is.1)
          (at_set views p (seat i) w u at'),
    );
    apart = s.apart;
  }

pub sends : (n p : ℕ) (v : View) (x : Note) → v.gives ≡ true → v.takes ≡ false → v.cap ≡ n → Pushes Holds n p v x (Gave v x)
sends n p v x g t c items views short h at = let r = not_blank items views p v h at (no_taker v t) in let s = r.7 in let mine = s.pass p v at g in
    let order : List (ℕ × Note) = r.0 in let full : length items < r.3 = subst (λ (k : ℕ). length items < k) (sym c ∙ mine.cap) short in (
      record v { own = v.own ++ x ∷ []; seen = order ++ (p, x) ∷ [] },
      inr (order ++ (p, x) ∷ [], r.1, r.2, r.3, r.4, r.5, r.6, sent items views order r.1 r.2 r.3 r.4 r.5 r.6 s p v at x (v.own ++ x ∷ []) g full refl),
      ((refl, (p, mine.seen.0, ap (λ l. l ++ (p, x) ∷ []) mine.seen.1, of_same p order x ∙ ap (λ l. l ++ x ∷ []) mine.own)), refl, refl, refl),
    )

pub refused : (p : ℕ) (v : View) → v.gives ≡ true → v.takes ≡ false → Learns Holds p v (λ items. Stood items v.own v.seen)
refused p v g t items views h at = let r = not_blank items views p v h at (no_taker v t) in let mine = r.7.pass p v at g in
    (r.0, p, r.1, r.7.stands, mine.seen, mine.has, mine.own)

pub tells : (p : ℕ) (v : View) → v.gives ≡ false → v.takes ≡ true → Learns Holds p v (λ items. Tells v.got v.past v.until items)
tells p v g t items views h at = let r = not_blank items views p v h at (no_giver v g) in let mine = r.7.taker p v at t in
    subst (λ (y : List Note × (List Past × ℕ)). Tells y.0 y.1.0 y.1.1 items) (λ i. (sym mine.got i, (sym mine.past i, sym mine.until i))) (r.0, r.6, r.7.stands, r.7.behind, r.7.apart)

module _ (x : Note) (items : List Note) (views : List View) (order : List (ℕ × Note)) (got : List Note) (past : List Past) (cap until reader : ℕ) (seat : ℕ → ℕ) (s : IsRuled (x ∷ items) views order got past cap until reader seat) (p : ℕ) (v : View) (at : get_elem? views p ≡ some v) where
  taken : v.takes ≡ true → IsRuled items (set views p (record v { got = v.got ++ x ∷ [] })) order (got ++ x ∷ []) past cap until reader seat
  taken t = let mine = s.taker p v at t in let w : View = record v { got = v.got ++ x ∷ [] } in record {
    stands = s.stands ∙ sym (append_assoc got (x ∷ []) items);
    room = (let n : suc (length items) ≤ cap = s.room in omega arith);
    later = λ q far. s.later q (subst (λ (n : ℕ). n ≤ q) (length-set views p w) far);
    pass = λ q u at' g. ⊎_elim
        (λ (is : (q ≡ p) × (w ≡ u)). absurd (true≢false (sym g ∙ ap (λ (y : View). y.gives) (sym is.1) ∙ mine.gives)))
        (λ (is : (q ≢ p) × (get_elem? views q ≡ some u)). s.pass q u is.1 g)
        (at_set views p q w u at');
    taker = λ q u at' t'. ⊎_elim
        (λ (is : (q ≡ p) × (w ≡ u)). subst (λ (y : ℕ × View). IsReader (got ++ x ∷ []) past cap until reader y.0 y.1) (λ i. (sym is.0 i, is.1 i))
        (record { gives = mine.gives; one = mine.one; got = ap (λ l. l ++ x ∷ []) mine.got; past = mine.past; cap = mine.cap; until = mine.until }))
        (λ (is : (q ≢ p) × (get_elem? views q ≡ some u)). absurd (is.0 ((s.taker q u is.1 t').one ∙ sym mine.one)))
        (at_set views p q w u at');
    behind = s.behind;
    over = λ i l. (
      subst (λ (n : ℕ). seat i < n) (sym (length-set views p w)) (s.over i l).0,
      λ u at'. ⊎_elim
          (λ (is : (seat i ≡ p) × (w ≡ u)). ap (λ (y : View). y.gives) (sym is.1) ∙ mine.gives)
          (λ (is : (seat i ≢ p) × (get_elem? views (seat i) ≡ some u)). (s.over i l).1 u is.1)
          (at_set views p (seat i) w u at'),
    );
    apart = s.apart;
  }

pub takes : (p : ℕ) (v : View) → v.gives ≡ false → v.takes ≡ true → Pops Holds p v (Took v)
takes p v g t x items views h at = let r = not_blank (x ∷ items) views p v h at (no_giver v g) in let s = r.7 in let mine = s.taker p v at t in
    let after = taken x items views r.0 r.1 r.2 r.3 r.4 r.5 r.6 s p v at t in (
      record v { got = v.got ++ x ∷ [] },
      inr (r.0, r.1 ++ x ∷ [], r.2, r.3, r.4, r.5, r.6, after),
      (refl, (items, subst (λ (y : List Note × (List Past × ℕ)). Tells y.0 y.1.0 y.1.1 items) (λ i. (sym mine.got i ++ x ∷ [], (sym mine.past i, sym mine.until i))) (r.0, r.6, after.stands, after.behind, after.apart))),
    )

module _ (items : List Note) (views : List View) (order : List (ℕ × Note)) (got : List Note) (past : List Past) (cap until reader : ℕ) (seat : ℕ → ℕ) (s : IsRuled items views order got past cap until reader seat) (p : ℕ) (v : View) (at : get_elem? views p ≡ some v) where
  -- the same view set again
  still : (q : ℕ) (u : View) → get_elem? (set views p v) q ≡ some u → get_elem? views q ≡ some u
  still q u at' = ⊎_elim
      (λ (is : (q ≡ p) × (v ≡ u)). subst (λ (y : ℕ × View). get_elem? views y.0 ≡ some y.1) (λ i. (sym is.0 i, is.1 i)) at)
      (λ (is : (q ≢ p) × (get_elem? views q ≡ some u)). is.1)
      (at_set views p q v u at')

  halves : v.gives ≡ true → IsRuled items (set views p v ++ twin v ∷ []) order got past cap until reader seat
  halves g = let mine = s.pass p v at g in let vs : List View = set views p v in let same : length vs ≡ length views = length-set views p v in
      let more : length (vs ++ twin v ∷ []) ≡ suc (length views) = (let n = length-append vs (twin v ∷ []) in omega arith) in record {
        stands = s.stands;
        room = s.room;
        later = λ q far. s.later q (omega arith);
        pass = λ q u at' g'. ⊎_elim
            (λ (is : get_elem? vs q ≡ some u). s.pass q u (still q u is) g')
            (λ (is : (q ≡ length vs) × (twin v ≡ u)). subst (λ (y : ℕ × View). IsGiver order cap y.0 y.1) (λ i. (sym (is.0 ∙ same) i, is.1 i))
            (record { takes = mine.takes; own = s.later (length views) (omega arith); has = of_first (length views) order v.seen mine.seen (s.later (length views) (omega arith)); seen = mine.seen; cap = mine.cap }))
            (at_end vs (twin v) u q at');
        taker = λ q u at' t. ⊎_elim
            (λ (is : get_elem? vs q ≡ some u). s.taker q u (still q u is) t)
            (λ (is : (q ≡ length vs) × (twin v ≡ u)). absurd (true≢false (sym t ∙ ap (λ (y : View). y.takes) (sym is.1) ∙ mine.takes)))
            (at_end vs (twin v) u q at');
        behind = s.behind;
        over = λ i l. let o = (s.over i l).0 in (
          omega arith,
          λ u at'. ⊎_elim
              (λ (is : get_elem? vs (seat i) ≡ some u). (s.over i l).1 u (still (seat i) u is))
              (λ (is : (seat i ≡ length vs) × (twin v ≡ u)). absurd (let n = is.0 in omega arith))
              (at_end vs (twin v) u (seat i) at'),
        );
        apart = s.apart;
      }

pub splits : (p : ℕ) (v : View) → v.gives ≡ true → v.takes ≡ false → Forks Holds p v v (twin v)
splits p v g t items views h at = let r = not_blank items views p v h at (no_taker v t) in
    inr (r.0, r.1, r.2, r.3, r.4, r.5, r.6, halves items views r.0 r.1 r.2 r.3 r.4 r.5 r.6 r.7 p v at g)
