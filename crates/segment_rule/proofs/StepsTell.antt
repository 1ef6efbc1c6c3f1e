-- What a seat has after a step, from the kind of the step.
use Rattle.std.proofs.Common.{◌≡◌, ◌≢◌, ℕ, ◌≤◌, ◌*◌, ◌/◌, Bool, true, false, List, [], ◌∷◌, Some, None, MatchBool, ◌==◌, sym, refl, ap, ◌∙◌, subst, ⊎_elim, eq-eqb, arith, length}
use Rattle.std.proofs.lemmas.Bool.{ne_eqb}
use Rattle.atomic_table.specs.Table.{Me, Act, carried_after, rest, keeps, takes, gives}
use Rattle.units.specs.declared.TheConstants.{PAGE}
use Rattle.units.specs.Moment.{IsMoment}
use Rattle.segment_rule.specs.declared.view.OwnerView.{OwnerView}
use Rattle.segment_rule.specs.declared.view.WardenView.{WardenView}
use Rattle.segment_rule.specs.declared.view.View.{View}
use Rattle.segment_rule.specs.declared.view.View.TheVariants.{Owner, Warden}
use Rattle.segment_rule.specs.Views.{settled, owner_holds, owner_loses, owner_rests, owner_stays, warden_tries, expected_word, FoundBy, IsTimely}
use Rattle.segment_rule.specs.Rule.{Slot, Segment, IsLawful}
use Rattle.segment_rule.specs.Kinds as kinds
use Rattle.segment_rule.specs.Seats.{owner_of, warden_of, OwnerMade, WardenMade, OwnerMakes, WardenMakes}
use Rattle.segment_rule.proofs.StepsKeepTheRule.{finds}

-- the owner's view before the step is the seat's
owner_was : (kind : kinds.Kind) (me new : Me Slot View) (found : ℕ) → (made : OwnerMade kind me found new) → made.before.owner ≡ owner_of me.0
owner_was kind me new found made = sym (ap owner_of made.seat)

warden_was : (kind : kinds.Kind) (me new : Me Slot View) (found : ℕ) → (made : WardenMade kind me found new) → made.before.warden ≡ warden_of me.0
warden_was kind me new found made = sym (ap warden_of made.seat)

-- what a seat's step is of the views alone
pub owner_makes : (kind : kinds.Kind) (me new last : Me Slot View) (found : ℕ) → OwnerMade kind me found new → last.0 ≡ new.0 → OwnerMakes kind (owner_of me.0) (owner_of last.0)
owner_makes kind me new last found made is = record {
  before = made.before;
  act = made.act;
  after = made.after;
  was_lawful = made.was_lawful;
  is_lawful = made.is_lawful;
  step = made.step;
  saw = owner_was kind me new found made;
  sees = sym (ap owner_of (is ∙ ap (λ (m : Me Slot View). m.0) made.seat_after));
}

pub warden_makes : (kind : kinds.Kind) (me new last : Me Slot View) (found : ℕ) → WardenMade kind me found new → last.0 ≡ new.0 → WardenMakes kind (warden_of me.0) (warden_of last.0)
warden_makes kind me new last found made is = record {
  before = made.before;
  act = made.act;
  after = made.after;
  was_lawful = made.was_lawful;
  is_lawful = made.is_lawful;
  step = made.step;
  saw = warden_was kind me new found made;
  sees = sym (ap warden_of (is ∙ ap (λ (m : Me Slot View). m.0) made.seat_after));
}

-- the seat after a step that makes its view this, by this act
owner_now : (kind : kinds.Kind) (me new : Me Slot View) (found : ℕ) (made : OwnerMade kind me found new) (act : Act Slot) (after : OwnerView) → made.act ≡ act → made.after.owner ≡ after → new ≡ (Owner after, carried_after me.1 act)
owner_now kind me new found made act after moved is = made.seat_after ∙ (λ i. (Owner (is i), carried_after me.1 (moved i)))

warden_now : (kind : kinds.Kind) (me new : Me Slot View) (found : ℕ) (made : WardenMade kind me found new) (act : Act Slot) (after : WardenView) → made.act ≡ act → made.after.warden ≡ after → new ≡ (Warden after, carried_after me.1 act)
warden_now kind me new found made act after moved is = made.seat_after ∙ (λ i. (Warden (is i), carried_after me.1 (moved i)))

pub settle_tells : (me new : Me Slot View) (found : ℕ) → OwnerMade kinds.Settles me found new → new ≡ (Owner (settled (owner_of me.0)), (0, None) ∷ me.1)
settle_tells me new found made =
    owner_now kinds.Settles me new found made (takes 0 None) (settled (owner_of me.0)) made.step.moved (ap (λ (s : Segment). s.owner) made.step.is ∙ ap settled (owner_was kinds.Settles me new found made))

-- a lock: it found 0 and loses, or it found another word and has the block
pub lock_tells : (me new : Me Slot View) (found : ℕ) → OwnerMade kinds.Locks me found new
    → MatchBool (found == 0) (new ≡ (Owner (owner_loses (owner_of me.0)), me.1)) (new ≡ (Owner (owner_holds (owner_of me.0)), (0, Some (owner_of me.0).left) ∷ me.1))
lock_tells me new found made =
    let was : made.before.owner ≡ owner_of me.0 = owner_was kinds.Locks me new found made in
    ⊎_elim
    (λ (w : kinds.LockWins made.before made.act made.after).
    let early : 1 ≤ made.before.owner.last = (made.was_lawful.idle w.from).0.0 in
    let word : found ≡ 2 * made.before.owner.last = made.word ∙ w.found in
    let odd : (found == 0) ≡ false = ne_eqb found 0 (λ z. absurd (omega arith)) in
    subst (λ (b : Bool). MatchBool b (new ≡ (Owner (owner_loses (owner_of me.0)), me.1)) (new ≡ (Owner (owner_holds (owner_of me.0)), (0, Some (owner_of me.0).left) ∷ me.1))) (sym odd)
    (owner_now kinds.Locks me new found made (takes 0 (Some (owner_of me.0).left)) (owner_holds (owner_of me.0)) (w.moved ∙ ap (λ (o : OwnerView). takes 0 (Some o.left)) was)
    (ap (λ (s : Segment). s.owner) w.is ∙ ap owner_holds was)))
    (λ (l : kinds.LockLoses made.before made.act made.after).
    let same : (found == 0) ≡ true = eq-eqb found 0 (made.word ∙ l.found) in
    subst (λ (b : Bool). MatchBool b (new ≡ (Owner (owner_loses (owner_of me.0)), me.1)) (new ≡ (Owner (owner_holds (owner_of me.0)), (0, Some (owner_of me.0).left) ∷ me.1))) (sym same)
    (owner_now kinds.Locks me new found made keeps (owner_loses (owner_of me.0)) l.moved (ap (λ (s : Segment). s.owner) l.is ∙ ap owner_loses was)))
    made.step

-- an unlock: the block is laid down
pub unlock_tells : (stamp : ℕ) (me new : Me Slot View) (found : ℕ) (bytes : List ℕ) → me.1 ≡ (0, Some bytes) ∷ [] → OwnerMade (kinds.Unlocks stamp bytes) me found new → new ≡ (Owner (owner_rests stamp bytes (owner_of me.0)), [])
unlock_tells stamp me new found bytes out made =
    owner_now (kinds.Unlocks stamp bytes) me new found made gives (owner_rests stamp bytes (owner_of me.0)) made.step.moved
    (ap (λ (s : Segment). s.owner) made.step.is ∙ ap (owner_rests stamp bytes) (owner_was (kinds.Unlocks stamp bytes) me new found made))
    ∙ (λ i. (Owner (owner_rests stamp bytes (owner_of me.0)), rest (out i)))

-- a look: it found 0 and loses, or it stays
pub look_tells : (me new : Me Slot View) (found : ℕ) → OwnerMade kinds.Looks me found new
    → MatchBool (found == 0) (new ≡ (Owner (owner_loses (owner_of me.0)), me.1)) (new ≡ (Owner (owner_stays (owner_of me.0)), me.1))
look_tells me new found made =
    let was : made.before.owner ≡ owner_of me.0 = owner_was kinds.Looks me new found made in
    ⊎_elim
    (λ (w : kinds.LookStays made.before made.act made.after).
    let odd : (found == 0) ≡ false = ne_eqb found 0 (λ z. w.found (sym made.word ∙ z)) in
    subst (λ (b : Bool). MatchBool b (new ≡ (Owner (owner_loses (owner_of me.0)), me.1)) (new ≡ (Owner (owner_stays (owner_of me.0)), me.1))) (sym odd)
    (owner_now kinds.Looks me new found made keeps (owner_stays (owner_of me.0)) w.moved (ap (λ (s : Segment). s.owner) w.is ∙ ap owner_stays was)))
    (λ (l : kinds.LookLoses made.before made.act made.after).
    let same : (found == 0) ≡ true = eq-eqb found 0 (made.word ∙ l.found) in
    subst (λ (b : Bool). MatchBool b (new ≡ (Owner (owner_loses (owner_of me.0)), me.1)) (new ≡ (Owner (owner_stays (owner_of me.0)), me.1))) (sym same)
    (owner_now kinds.Looks me new found made keeps (owner_loses (owner_of me.0)) l.moved (ap (λ (s : Segment). s.owner) l.is ∙ ap owner_loses was)))
    made.step

-- a word that a warden finds is timely
timely : (w : WardenView) (s : Segment) → w ≡ s.warden → s.warden.taken ≡ false → IsLawful s → IsTimely s.word w.tries
timely w s is free law even =
    let found = finds s.warden s.owner s.word s.home free law s.owner.phase refl even in
    let h : s.word ≡ 2 * s.owner.last = found.1.stamped in
    let half : s.owner.last ≡ s.word / 2 = omega arith in
    (subst IsMoment half (law.idle found.0).0, omega arith, subst (λ (v : WardenView). FoundBy (s.word / 2) v.tries) (sym is) (subst (λ (k : ℕ). FoundBy k s.warden.tries) half law.found))

pub try_is_timely : (now : ℕ) (me new : Me Slot View) (found : ℕ) → WardenMade (kinds.Tries now) me found new → IsTimely found (warden_of me.0).tries
try_is_timely now me new found made =
    let free : made.before.warden.taken ≡ false =
    ⊎_elim (λ (w : kinds.TryWins now made.before made.act made.after). w.from) (λ (l : kinds.TryLoses now made.before made.act made.after). l.from) made.step in
    subst (λ (k : ℕ). IsTimely k (warden_of me.0).tries) (sym made.word) (timely (warden_of me.0) made.before (sym (warden_was (kinds.Tries now) me new found made)) free made.was_lawful)

-- a try: it found the word that it expected and has the block, or it found another
pub try_tells : (now expected : ℕ) (me new : Me Slot View) (found : ℕ) → expected ≡ expected_word (warden_of me.0).tries → WardenMade (kinds.Tries now) me found new
    → MatchBool (found == expected)
    ((b : List ℕ) × (length b ≡ PAGE * (warden_of me.0).pages) × (new ≡ (Warden (warden_tries now found true (warden_of me.0)), (0, Some b) ∷ me.1)))
    (new ≡ (Warden (warden_tries now found false (warden_of me.0)), me.1))
try_tells now expected me new found guess made =
    let Told : Bool → Type 0 = λ b. MatchBool b
    ((b : List ℕ) × (length b ≡ PAGE * (warden_of me.0).pages) × (new ≡ (Warden (warden_tries now found true (warden_of me.0)), (0, Some b) ∷ me.1)))
    (new ≡ (Warden (warden_tries now found false (warden_of me.0)), me.1)) in
    let was : made.before.warden ≡ warden_of me.0 = warden_was (kinds.Tries now) me new found made in
    ⊎_elim
    (λ (w : kinds.TryWins now made.before made.act made.after).
    let s : Segment = made.before in
    let twice : s.word ≡ expected_word s.warden.tries = w.found in
    let even : s.word ≢ 1 = λ e. absurd (omega arith) in
    let home = finds s.warden s.owner s.word s.home w.from made.was_lawful s.owner.phase refl even in
    let same : (found == expected) ≡ true = eq-eqb found expected (made.word ∙ (w.found ∙ (ap (λ (v : WardenView). expected_word v.tries) was ∙ sym guess))) in
    subst Told (sym same) (
      s.owner.left,
      home.1.sized ∙ ap (λ (k : ℕ). PAGE * k) (sym made.was_lawful.size ∙ ap (λ (v : WardenView). v.pages) was),
      warden_now (kinds.Tries now) me new found made (takes 0 (Some s.owner.left)) (warden_tries now found true (warden_of me.0)) w.moved
          (ap (λ (x : Segment). x.warden) w.is ∙ (λ i. warden_tries now (sym made.word i) true (was i))),
    ))
    (λ (l : kinds.TryLoses now made.before made.act made.after).
    let other : (found == expected) ≡ false = ne_eqb found expected (λ e. l.found (sym made.word ∙ (e ∙ (guess ∙ sym (ap (λ (v : WardenView). expected_word v.tries) was))))) in
    subst Told (sym other)
    (warden_now (kinds.Tries now) me new found made keeps (warden_tries now found false (warden_of me.0)) l.moved (ap (λ (x : Segment). x.warden) l.is ∙ (λ i. warden_tries now (sym made.word i) false (was i)))))
    made.step

-- a seat that has one place out
pub in_hand : (c : List (ℕ × Slot)) (x : Slot) → c ≡ (0, x) ∷ [] → c ≡ (0, x) ∷ rest c
in_hand c x e = subst (λ (d : List (ℕ × Slot)). d ≡ (0, x) ∷ rest d) (sym e) refl

-- the cases of a test
pub hit : (P Q : Type 0) (a b : ℕ) → a ≡ b → MatchBool (a == b) P Q → P
hit P Q a b e h = subst (λ (t : Bool). MatchBool t P Q) (eq-eqb a b e) h

pub miss : (P Q : Type 0) (a b : ℕ) → a ≢ b → MatchBool (a == b) P Q → Q
miss P Q a b e h = subst (λ (t : Bool). MatchBool t P Q) (ne_eqb a b e) h
