-- A step of a seat on the table is a step on a lawful segment, with the seat's view.
use Rattle.std.proofs.Common.{◌≡◌, ◌≢◌, ℕ, zero, suc, Bool, true, false, true≢false, List, [], ◌∷◌, sym, refl, ap, ◌∙◌, subst, inl, inr, ⊎_elim}
use Rattle.std.specs.Prelude.{slice_index}
use mathlib.Core.Option.{some, some-injective, some-ne-none}
use lib.ListN.{get_elem?}
use Rattle.atomic_table.specs.Table.{Me, Act, Valid, stepped, carried_after, homes_after, Allows}
use Rattle.segment_rule.specs.declared.view.OwnerView.{OwnerView}
use Rattle.segment_rule.specs.declared.view.WardenView.{WardenView}
use Rattle.segment_rule.specs.declared.view.View.{View}
use Rattle.segment_rule.specs.declared.view.View.TheVariants.{Owner, Warden}
use Rattle.segment_rule.specs.Views.{fresh_warden}
use Rattle.segment_rule.specs.Rule.{Slot, Home, Segment, IsLawful, Sits, IsRuled}
use Rattle.segment_rule.specs.Kinds.{Kind}
use Rattle.segment_rule.specs.Seats.{owner_of, warden_of, OwnerMade, WardenMade}

abbrev pub segment : OwnerView → WardenView → ℕ → Home → Segment
segment o w n home = record { owner = o; warden = w; word = n; home = home }

abbrev is_owner : View → Bool
is_owner (Owner o) = true
is_owner (Warden w) = false

-- the owner's seat is the first of them, the warden's the second
pub owner_first : (o p : OwnerView) (w : WardenView) (id : ℕ) → get_elem? (Owner p ∷ Warden w ∷ []) id ≡ some (Owner o) → (id ≡ 0) × (p ≡ o)
owner_first o p w zero e = (refl, ap owner_of (some-injective (Owner p) (Owner o) e))
owner_first o p w (suc zero) e = absurd (true≢false (sym (ap is_owner (some-injective (Warden w) (Owner o) e))))
owner_first o p w (suc (suc k)) e = absurd (some-ne-none (Owner o) (sym e))

pub owner_alone : (o p : OwnerView) (id : ℕ) → get_elem? (Owner p ∷ []) id ≡ some (Owner o) → (id ≡ 0) × (p ≡ o)
owner_alone o p zero e = (refl, ap owner_of (some-injective (Owner p) (Owner o) e))
owner_alone o p (suc k) e = absurd (some-ne-none (Owner o) (sym e))

warden_second : (v w : WardenView) (p : OwnerView) (id : ℕ) → get_elem? (Owner p ∷ Warden v ∷ []) id ≡ some (Warden w) → (id ≡ 1) × (v ≡ w)
warden_second v w p zero e = absurd (true≢false (ap is_owner (some-injective (Owner p) (Warden w) e)))
warden_second v w p (suc zero) e = (refl, ap warden_of (some-injective (Warden v) (Warden w) e))
warden_second v w p (suc (suc k)) e = absurd (some-ne-none (Warden w) (sym e))

warden_absent : (w : WardenView) (p : OwnerView) (id : ℕ) → get_elem? (Owner p ∷ []) id ≢ some (Warden w)
warden_absent w p zero e = true≢false (ap is_owner (some-injective (Owner p) (Warden w) e))
warden_absent w p (suc k) e = some-ne-none (Warden w) (sym e)

-- what a step may do at these words, homes and views
abbrev Goes : ℕ → Me Slot View → (ℕ → ℕ) → (ℕ → Me Slot View → Type 0) → List ℕ → List Home → List View → Type 0
Goes id me f then words homes views =
    (w : View) × (a : Act Slot) × Valid homes me.1 a × IsRuled (stepped (record { words = words; homes = homes; views = views }) 0 (f (slice_index words 0)) id me.1 w a) × then (slice_index words 0) (w, carried_after me.1 a)

-- a step of the owner where the word and the home are these
pub record OwnerMove (f : ℕ → ℕ) (kind : Kind) (o : OwnerView) (c : List (ℕ × Slot)) (w : WardenView) (n : ℕ) (home : Home) : Type 0 where
  pub after : OwnerView
  pub act : Act Slot
  pub home_after : Home
  pub valid : Valid (home ∷ []) c act
  pub homes : homes_after (home ∷ []) c act ≡ home_after ∷ []
  pub id : after.id ≡ o.id
  pub pages : after.pages ≡ o.pages
  pub apart : after.apart ≡ o.apart
  pub law : IsLawful (segment after w (f n) home_after)
  pub made : kind (segment o w n home) act (segment after w (f n) home_after)

-- the same of the warden
pub record WardenMove (f : ℕ → ℕ) (kind : Kind) (w : WardenView) (c : List (ℕ × Slot)) (o : OwnerView) (n : ℕ) (home : Home) : Type 0 where
  pub after : WardenView
  pub act : Act Slot
  pub home_after : Home
  pub valid : Valid (home ∷ []) c act
  pub homes : homes_after (home ∷ []) c act ≡ home_after ∷ []
  pub law : IsLawful (segment o after (f n) home_after)
  pub made : kind (segment o w n home) act (segment o after (f n) home_after)

owner_goes : (f : ℕ → ℕ) (kind : Kind) (id : ℕ) (o : OwnerView) (c : List (ℕ × Slot)) (p : OwnerView) (w : WardenView) (n : ℕ) (home : Home) (views : List View)
    → Sits views p w → IsLawful (segment p w n home) → get_elem? views id ≡ some (Owner o)
    → ((u : WardenView) (k : ℕ) (h : Home) → IsLawful (segment o u k h) → OwnerMove f kind o c u k h)
    → Goes id (Owner o, c) f (λ found new. OwnerMade kind (Owner o, c) found new) (n ∷ []) (home ∷ []) views
owner_goes f kind id o c p w n home views sits law at move =
    let then : ℕ → Me Slot View → Type 0 = λ found new. OwnerMade kind (Owner o, c) found new in
    ⊎_elim
    (λ (x : (p.apart ≡ true) × (views ≡ Owner p ∷ Warden w ∷ [])).
    let place = owner_first o p w id (subst (λ (vs : List View). get_elem? vs id ≡ some (Owner o)) x.1 at) in
    let was : IsLawful (segment o w n home) = subst (λ (q : OwnerView). IsLawful (segment q w n home)) place.1 law in
    let mv : OwnerMove f kind o c w n home = move w n home was in
    subst (λ (vs : List View). Goes id (Owner o, c) f then (n ∷ []) (home ∷ []) vs) (sym x.1)
    (subst (λ (i : ℕ). Goes i (Owner o, c) f then (n ∷ []) (home ∷ []) (Owner p ∷ Warden w ∷ [])) (sym place.0) (
      Owner mv.after,
      mv.act,
      mv.valid,
      record { segment = segment mv.after w (f n) mv.home_after; words = refl; homes = mv.homes; sits = inl (mv.apart ∙ ap (λ (q : OwnerView). q.apart) (sym place.1) ∙ x.0, refl); lawful = mv.law },
      record { before = segment o w n home; act = mv.act; after = segment mv.after w (f n) mv.home_after; was_lawful = was; is_lawful = mv.law; step = mv.made; word = refl; seat = refl; seat_after = refl },
    )))
    (λ (x : (p.apart ≡ false) × (views ≡ Owner p ∷ []) × (w ≡ fresh_warden p.id p.pages)).
    let place = owner_alone o p id (subst (λ (vs : List View). get_elem? vs id ≡ some (Owner o)) x.1 at) in
    let was : IsLawful (segment o w n home) = subst (λ (q : OwnerView). IsLawful (segment q w n home)) place.1 law in
    let mv : OwnerMove f kind o c w n home = move w n home was in
    let back : (p.id ≡ mv.after.id) × (p.pages ≡ mv.after.pages) = (ap (λ (q : OwnerView). q.id) place.1 ∙ sym mv.id, ap (λ (q : OwnerView). q.pages) place.1 ∙ sym mv.pages) in
    subst (λ (vs : List View). Goes id (Owner o, c) f then (n ∷ []) (home ∷ []) vs) (sym x.1)
    (subst (λ (i : ℕ). Goes i (Owner o, c) f then (n ∷ []) (home ∷ []) (Owner p ∷ [])) (sym place.0) (
      Owner mv.after,
      mv.act,
      mv.valid,
      record {
        segment = segment mv.after w (f n) mv.home_after;
        words = refl;
        homes = mv.homes;
        sits = inr (mv.apart ∙ ap (λ (q : OwnerView). q.apart) (sym place.1) ∙ x.0, refl, x.2 ∙ (λ i. fresh_warden (back.0 i) (back.1 i)));
        lawful = mv.law;
      },
      record { before = segment o w n home; act = mv.act; after = segment mv.after w (f n) mv.home_after; was_lawful = was; is_lawful = mv.law; step = mv.made; word = refl; seat = refl; seat_after = refl },
    )))
    sits

-- a step that the owner may make on every lawful segment is one that the table allows its seat
pub owner_allows : (f : ℕ → ℕ) (kind : Kind) (slots id : ℕ) (o : OwnerView) (c : List (ℕ × Slot))
    → ((w : WardenView) (n : ℕ) (home : Home) → IsLawful (segment o w n home) → OwnerMove f kind o c w n home)
    → Allows IsRuled slots id (Owner o, c) 0 f (λ found new. OwnerMade kind (Owner o, c) found new)
owner_allows f kind slots id o c move s ruled long at small =
    let then : ℕ → Me Slot View → Type 0 = λ found new. OwnerMade kind (Owner o, c) found new in
    subst (λ (ws : List ℕ). Goes id (Owner o, c) f then ws s.homes s.views) (sym ruled.words)
    (subst (λ (hs : List Home). Goes id (Owner o, c) f then (ruled.segment.word ∷ []) hs s.views) (sym ruled.homes)
    (owner_goes f kind id o c ruled.segment.owner ruled.segment.warden ruled.segment.word ruled.segment.home s.views ruled.sits ruled.lawful at move))

warden_goes : (f : ℕ → ℕ) (kind : Kind) (id : ℕ) (v : WardenView) (c : List (ℕ × Slot)) (p : OwnerView) (w : WardenView) (n : ℕ) (home : Home) (views : List View)
    → Sits views p w → IsLawful (segment p w n home) → get_elem? views id ≡ some (Warden v)
    → ((u : OwnerView) (k : ℕ) (h : Home) → u.apart ≡ true → IsLawful (segment u v k h) → WardenMove f kind v c u k h)
    → Goes id (Warden v, c) f (λ found new. WardenMade kind (Warden v, c) found new) (n ∷ []) (home ∷ []) views
warden_goes f kind id v c p w n home views sits law at move =
    let then : ℕ → Me Slot View → Type 0 = λ found new. WardenMade kind (Warden v, c) found new in
    ⊎_elim
    (λ (x : (p.apart ≡ true) × (views ≡ Owner p ∷ Warden w ∷ [])).
    let place = warden_second w v p id (subst (λ (vs : List View). get_elem? vs id ≡ some (Warden v)) x.1 at) in
    let was : IsLawful (segment p v n home) = subst (λ (q : WardenView). IsLawful (segment p q n home)) place.1 law in
    let mv : WardenMove f kind v c p n home = move p n home x.0 was in
    subst (λ (vs : List View). Goes id (Warden v, c) f then (n ∷ []) (home ∷ []) vs) (sym x.1)
    (subst (λ (i : ℕ). Goes i (Warden v, c) f then (n ∷ []) (home ∷ []) (Owner p ∷ Warden w ∷ [])) (sym place.0) (
      Warden mv.after,
      mv.act,
      mv.valid,
      record { segment = segment p mv.after (f n) mv.home_after; words = refl; homes = mv.homes; sits = inl (x.0, refl); lawful = mv.law },
      record { before = segment p v n home; act = mv.act; after = segment p mv.after (f n) mv.home_after; was_lawful = was; is_lawful = mv.law; step = mv.made; word = refl; seat = refl; seat_after = refl },
    )))
    (λ (x : (p.apart ≡ false) × (views ≡ Owner p ∷ []) × (w ≡ fresh_warden p.id p.pages)).
    absurd (warden_absent v p id (subst (λ (vs : List View). get_elem? vs id ≡ some (Warden v)) x.1 at)))
    sits

-- the same of the warden, which steps only once it has a seat
pub warden_allows : (f : ℕ → ℕ) (kind : Kind) (slots id : ℕ) (v : WardenView) (c : List (ℕ × Slot))
    → ((o : OwnerView) (n : ℕ) (home : Home) → o.apart ≡ true → IsLawful (segment o v n home) → WardenMove f kind v c o n home)
    → Allows IsRuled slots id (Warden v, c) 0 f (λ found new. WardenMade kind (Warden v, c) found new)
warden_allows f kind slots id v c move s ruled long at small =
    let then : ℕ → Me Slot View → Type 0 = λ found new. WardenMade kind (Warden v, c) found new in
    subst (λ (ws : List ℕ). Goes id (Warden v, c) f then ws s.homes s.views) (sym ruled.words)
    (subst (λ (hs : List Home). Goes id (Warden v, c) f then (ruled.segment.word ∷ []) hs s.views) (sym ruled.homes)
    (warden_goes f kind id v c ruled.segment.owner ruled.segment.warden ruled.segment.word ruled.segment.home s.views ruled.sits ruled.lawful at move))
