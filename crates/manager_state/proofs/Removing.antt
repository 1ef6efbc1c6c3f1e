-- The removal of a client, number by number.
use Rattle.std.proofs.Common.{◌≡◌, ◌≢◌, ℕ, ◌+◌, ◌-◌, ◌^◌, ◌<◌, ◌≤◌, ◌==◌, zero, suc, Bool, true, false, not, cond, ◌&&◌, ◌||◌, List, [], ◌∷◌, ◌++◌, length, map, filter, All, refl, sym, ap, ap₂, subst, ◌∙◌, arith, length-append, append_assoc}
use mir.Val.{bool_byte}
use Rattle.std.specs.List.{AllPairs}
use Rattle.std.proofs.lemmas.Bool.Decides.{nat_tests}
use Rattle.std.proofs.lemmas.List.{append-nil, map-append, length-map, get_or-map}
use Rattle.std.proofs.lemmas.List.Elements.{All-nil, All-cons, All-head, All-tail, All-weaker, All-append, All-filter, filter-append}
use Rattle.std.proofs.lemmas.List.Folds.{list_any-append}
use Rattle.std.proofs.lemmas.List.Kept.{AllPairs-from_increasing}
use Rattle.segment.specs.Warded.{Warded}
use Rattle.block_pool.specs.Stock.{Stock}
use Rattle.discard_book.specs.Live.{live, has_number, grants, AreDrawn}
use Rattle.discard_book.specs.Log.{Log}
use Rattle.discard_book.specs.declared.entry.Entry.{Entry}
use Rattle.discard_book.specs.declared.entry.Entry.TheVariants.{Back}
use Rattle.lru_reduce.specs.Wards.{Wards, number_of, IsRisingBy, segment_of, segments_of, without_ward}
use Rattle.manager_state.specs.Managed.{Managed, managed}
use Rattle.manager_state.specs.Clients.{gives_back, is_granted_to, was_given_back, is_with}
use Rattle.manager_state.specs.Calls.{sides_with, Removes}
use Rattle.manager_state.specs.Keeping.{has_pair, KeepsLive, LetsGo}
use Rattle.manager_state.proofs.TableTells.{granted_on}
use Rattle.manager_state.proofs.LiveSides.{sides_within}

-- the Back entry of a segment
abbrev pub back_of : Warded → Entry
back_of w = Back w.id

-- the wardens of a client's segments, and the others
abbrev pub with_client : ℕ → List Entry → Warded → Bool
with_client client entries w = is_with client w.id entries

abbrev pub without_client : ℕ → List Entry → Warded → Bool
without_client client entries w = not (is_with client w.id entries)

-- The numbers up to a place were asked for: the wardens in front had one of them, and the rest have greater ones.
pub record Removing (client : ℕ) (start : Managed) (place removed : ℕ) (log : Log) (wards : Wards) (stock : Stock) : Type 0 where
  pub front : List Warded
  pub rest : List Warded
  pub split : start.sides ≡ front ++ rest
  pub below : All (λ (w : Warded). w.id ≤ place) front
  pub above : All (λ (w : Warded). place < w.id) rest
  pub rising : IsRisingBy number_of rest
  pub sides : wards.sides ≡ filter (without_client client start.entries) front ++ rest
  pub entries : log.entries ≡ start.entries ++ map back_of (filter (with_client client start.entries) front)
  pub stays : stock ≡ start.stock
  pub counted : removed ≡ length (filter (with_client client start.entries) front)
  pub few : removed ≤ place

-- The beginning

numbers_are : (sides : List Warded) → map (λ (s : ℕ × ℕ). s.0) (segments_of sides) ≡ map number_of sides
numbers_are [] = refl
numbers_are (w ∷ sides) = ap (λ (more : List ℕ). w.id ∷ more) (numbers_are sides)

rising_is : (sides : List Warded) → AllPairs (λ (x y : ℕ). x < y) (map number_of sides) → IsRisingBy number_of sides
rising_is [] pairs = tt
rising_is (w ∷ sides) pairs = (
  λ k d l. let low = pairs zero (suc k) 0 (omega arith) (rw length-map (omega (arith, l))) in subst (λ (n : ℕ). w.id < n) (get_or-map number_of sides k d 0 l) low,
  rising_is sides (λ i j d l k. pairs (suc i) (suc j) d (omega (arith, l)) (omega (arith, k))),
)

all_rise : (sides : List Warded) (entries : List Entry) → live entries ≡ segments_of sides → AreDrawn (live entries) (grants entries) → IsRisingBy number_of sides
all_rise sides entries lives drawn =
    rising_is sides (subst (λ (ns : List ℕ). AllPairs (λ (x y : ℕ). x < y) ns) (ap (λ (ss : List (ℕ × ℕ)). map (λ (s : ℕ × ℕ). s.0) ss) lives ∙ numbers_are sides)
    (AllPairs-from_increasing (map (λ (s : ℕ × ℕ). s.0) (live entries)) drawn.rising))

some_number : (n : ℕ) (sides : List Warded) → All (λ (s : ℕ × ℕ). (1 ≤ s.0) × (s.0 ≤ n)) (segments_of sides) → All (λ (w : Warded). 0 < w.id) sides
some_number n [] all = All-nil (λ (w : Warded). 0 < w.id)
some_number n (w ∷ sides) all =
    let low = (All-head (λ (s : ℕ × ℕ). (1 ≤ s.0) × (s.0 ≤ n)) (segment_of w) (segments_of sides) all).0 in
    All-cons (λ (v : Warded). 0 < v.id) w sides (omega (arith, low)) (some_number n sides (All-tail (λ (s : ℕ × ℕ). (1 ≤ s.0) × (s.0 ≤ n)) (segment_of w) (segments_of sides) all))

pub removing_first : (client : ℕ) (log : Log) (wards : Wards) (stock : Stock) → live log.entries ≡ segments_of wards.sides → AreDrawn (live log.entries) (grants log.entries)
    → Removing client (managed 0 log wards stock) 0 0 log wards stock
removing_first client log wards stock lives drawn = record {
  front = [];
  rest = wards.sides;
  split = refl;
  below = All-nil (λ (w : Warded). w.id ≤ 0);
  above = some_number (grants log.entries) wards.sides (subst (λ (ss : List (ℕ × ℕ)). All (λ (s : ℕ × ℕ). (1 ≤ s.0) × (s.0 ≤ grants log.entries)) ss) lives drawn.within);
  rising = all_rise wards.sides log.entries lives drawn;
  sides = refl;
  entries = sym (append-nil log.entries);
  stays = refl;
  counted = refl;
  few = omega arith;
}

-- One number

turned : (a b : ℕ) → (a == b) ≡ (b == a)
turned a b = grind (arith, nat_tests)

on : (p : Warded → Bool) (front : List Warded) (w : Warded) (t : Bool) → p w ≡ t → filter p (front ++ w ∷ []) ≡ filter p front ++ cond t (w ∷ []) []
on p front w t e = filter-append p front (w ∷ []) ∙ ap (λ (b : Bool). filter p front ++ cond b (w ∷ []) []) e

-- the wardens that have another number stay
stay : (id : ℕ) (sides : List Warded) → All (λ (w : Warded). w.id ≢ id) sides → without_ward id sides ≡ sides
stay id [] others = refl
stay id (w ∷ sides) others =
    let apart = All-head (λ (v : Warded). v.id ≢ id) w sides others in
    let e : (w.id == id) ≡ false = grind (arith, nat_tests, apart) in
    rw e (ap (λ (more : List Warded). w ∷ more) (stay id sides (All-tail (λ (v : Warded). v.id ≢ id) w sides others)))

none_has : (id : ℕ) (sides : List Warded) → All (λ (w : Warded). w.id ≢ id) sides → has_number (segments_of sides) id ≡ false
none_has id [] others = refl
none_has id (w ∷ sides) others =
    let apart = All-head (λ (v : Warded). v.id ≢ id) w sides others in
    let e : (id == w.id) ≡ false = grind (arith, nat_tests, apart) in
    rw e (none_has id sides (All-tail (λ (v : Warded). v.id ≢ id) w sides others))

backs_grant : (client id : ℕ) (ws : List Warded) → is_granted_to client id (map back_of ws) ≡ false
backs_grant client id [] = refl
backs_grant client id (w ∷ ws) = backs_grant client id ws

backs_give : (id : ℕ) (ws : List Warded) → All (λ (w : Warded). w.id ≢ id) ws → was_given_back id (map back_of ws) ≡ false
backs_give id [] others = refl
backs_give id (w ∷ ws) others =
    let apart = All-head (λ (v : Warded). v.id ≢ id) w ws others in
    let e : (w.id == id) ≡ false = grind (arith, nat_tests, apart) in
    rw e (backs_give id ws (All-tail (λ (v : Warded). v.id ≢ id) w ws others))

or_none : (a b : Bool) → b ≡ false → (a || b) ≡ a
or_none true b e = refl
or_none false b e = e

-- whose a number is does not change while others are given back
with_same : (client id : ℕ) (entries : List Entry) (ws : List Warded) → All (λ (w : Warded). w.id ≢ id) ws → is_with client id (entries ++ map back_of ws) ≡ is_with client id entries
with_same client id entries ws others =
    ap₂ (λ (a b : Bool). a && not b) (granted_on client id entries (map back_of ws) (backs_grant client id ws))
    (list_any-append (gives_back id) entries (map back_of ws) ∙ or_none (was_given_back id entries) (was_given_back id (map back_of ws)) (backs_give id ws others))

-- a number is live where one of the rest has it
live_in_rest : (id : ℕ) (front rest : List Warded) → All (λ (w : Warded). w.id ≢ id) front → has_number (segments_of (front ++ rest)) id ≡ has_number (segments_of rest) id
live_in_rest id [] rest others = refl
live_in_rest id (w ∷ front) rest others =
    let apart = All-head (λ (v : Warded). v.id ≢ id) w front others in
    let e : (id == w.id) ≡ false = grind (arith, nat_tests, apart) in
    rw e (live_in_rest id front rest (All-tail (λ (v : Warded). v.id ≢ id) w front others))

apart_below : (place : ℕ) (ws : List Warded) → All (λ (w : Warded). w.id ≤ place) ws → All (λ (w : Warded). w.id ≢ place + 1) ws
apart_below place ws all = All-weaker (λ (w : Warded). w.id ≤ place) (λ (w : Warded). w.id ≢ place + 1) (λ w l e. absurd (omega (arith, l, e))) ws all

apart_above : (place : ℕ) (ws : List Warded) → All (λ (w : Warded). place + 1 < w.id) ws → All (λ (w : Warded). w.id ≢ place + 1) ws
apart_above place ws all = All-weaker (λ (w : Warded). place + 1 < w.id) (λ (w : Warded). w.id ≢ place + 1) (λ w l e. absurd (omega (arith, l, e))) ws all

one_more : (place : ℕ) (ws : List Warded) → All (λ (w : Warded). w.id ≤ place) ws → All (λ (w : Warded). w.id ≤ place + 1) ws
one_more place ws all = All-weaker (λ (w : Warded). w.id ≤ place) (λ (w : Warded). w.id ≤ place + 1) (λ w l. omega (arith, l)) ws all

-- what is known of a number that is asked for
pub record Asked (client place : ℕ) (answer : Bool) (start : Managed) (front rest : List Warded) : Type 0 where
  pub told : answer ≡ (is_with client (place + 1) start.entries && has_number (segments_of rest) (place + 1))

asked : (client place removed : ℕ) (answer : Bool) (start : Managed) (log after : Log) (wards left : Wards) (stock filled : Stock)
    → (r : Removing client start place removed log wards stock) → live log.entries ≡ segments_of wards.sides → LetsGo client (place + 1) answer (managed 0 log wards stock) (managed 0 after left filled)
    → Asked client place answer start r.front r.rest
asked client place removed answer start log after wards left stock filled r lives goes =
    let with_front = All-filter (with_client client start.entries) (λ (w : Warded). w.id ≢ place + 1) r.front (apart_below place r.front r.below) in
    let other_front = All-filter (without_client client start.entries) (λ (w : Warded). w.id ≢ place + 1) r.front (apart_below place r.front r.below) in
    record {
      told = goes.told ∙ ap₂ (λ (a b : Bool). a && b)
          (ap (λ (es : List Entry). is_with client (place + 1) es) r.entries ∙ with_same client (place + 1) start.entries (filter (with_client client start.entries) r.front) with_front)
          (ap (λ (ss : List (ℕ × ℕ)). has_number ss (place + 1)) (lives ∙ ap (λ (ws : List Warded). segments_of ws) r.sides) ∙ live_in_rest (place + 1) (filter (without_client client start.entries) r.front) r.rest other_front);
    }

and_none : (a b : Bool) → b ≡ false → (a && b) ≡ false
and_none true b e = e
and_none false b e = refl

-- none of the rest has the number
passes : (client place removed : ℕ) (answer : Bool) (start : Managed) (log after : Log) (wards left : Wards) (stock filled : Stock)
    → (r : Removing client start place removed log wards stock) → LetsGo client (place + 1) answer (managed 0 log wards stock) (managed 0 after left filled) → Asked client place answer start r.front r.rest
    → All (λ (w : Warded). place + 1 < w.id) r.rest → Removing client start (place + 1) (removed + cond answer 1 0) after left filled
passes client place removed answer start log after wards left stock filled r goes ask above =
    let stays : answer ≡ false = ask.told ∙ and_none _ _ (none_has (place + 1) r.rest (apart_above place r.rest above)) in
    let few = r.few in let counted = r.counted in
    let none : removed + cond answer 1 0 ≡ removed = ap (λ (b : Bool). removed + cond b 1 0) stays ∙ omega arith in
    record {
      front = r.front;
      rest = r.rest;
      split = r.split;
      below = one_more place r.front r.below;
      above = above;
      rising = r.rising;
      sides = goes.sides ∙ ap (λ (b : Bool). cond b (without_ward (place + 1) wards.sides) wards.sides) stays ∙ r.sides;
      entries = goes.entries ∙ ap (λ (b : Bool). cond b (log.entries ++ Back (place + 1) ∷ []) log.entries) stays ∙ r.entries;
      stays = goes.stock ∙ r.stays;
      counted = none ∙ counted;
      few = rw none (omega (arith, few));
    }

-- the first of the rest has the number
takes : (client place removed : ℕ) (answer : Bool) (start : Managed) (log after : Log) (wards left : Wards) (stock filled : Stock) (w : Warded) (more : List Warded)
    → (r : Removing client start place removed log wards stock) → LetsGo client (place + 1) answer (managed 0 log wards stock) (managed 0 after left filled)
    → r.rest ≡ w ∷ more → w.id ≡ place + 1 → All (λ (v : Warded). w.id < v.id) more → IsRisingBy number_of more → is_with client w.id start.entries ≡ answer
    → Removing client start (place + 1) (removed + cond answer 1 0) after left filled
takes client place removed true start log after wards left stock filled w more r goes is number above rising has =
    let p = with_client client start.entries in
    let q = without_client client start.entries in
    let out : q w ≡ false = ap not has in
    let fronts : filter q r.front ++ [] ≡ filter q r.front = append-nil (filter q r.front) in
    let others = All-filter q (λ (v : Warded). v.id ≢ place + 1) r.front (apart_below place r.front r.below) in
    let higher = All-weaker (λ (v : Warded). w.id < v.id) (λ (v : Warded). v.id ≢ place + 1) (λ v l e. absurd (omega (arith, l, e, number))) more above in
    let same : (w.id == place + 1) ≡ true = grind (arith, nat_tests, number) in
    let few = r.few in let counted = r.counted in
    let long : length (filter p r.front ++ w ∷ []) ≡ length (filter p r.front) + 1 = length-append (filter p r.front) (w ∷ []) in
    record {
      front = r.front ++ w ∷ [];
      rest = more;
      split = r.split ∙ ap (λ (ws : List Warded). r.front ++ ws) is ∙ sym (append_assoc r.front (w ∷ []) more);
      below = All-append (λ (v : Warded). v.id ≤ place + 1) r.front (w ∷ []) (one_more place r.front r.below) (All-cons (λ (v : Warded). v.id ≤ place + 1) w [] (omega (arith, number)) (All-nil (λ (v : Warded). v.id ≤ place + 1)));
      above = All-weaker (λ (v : Warded). w.id < v.id) (λ (v : Warded). place + 1 < v.id) (λ v l. omega (arith, l, number)) more above;
      rising = rising;
      sides = goes.sides ∙ ap (λ (ws : List Warded). without_ward (place + 1) ws) (r.sides ∙ ap (λ (ws : List Warded). filter q r.front ++ ws) is)
          ∙ filter-append (λ (v : Warded). not (v.id == place + 1)) (filter q r.front) (w ∷ more)
          ∙ ap₂ (λ (a b : List Warded). a ++ b) (stay (place + 1) (filter q r.front) others) (ap (λ (b : Bool). cond (not b) (w ∷ without_ward (place + 1) more) (without_ward (place + 1) more)) same ∙ stay (place + 1) more higher)
          ∙ sym (ap (λ (ws : List Warded). ws ++ more) (on q r.front w false out ∙ fronts));
      entries = goes.entries ∙ ap₂ (λ (es : List Entry) (n : ℕ). es ++ Back n ∷ []) r.entries (sym number) ∙ append_assoc start.entries (map back_of (filter p r.front)) (Back w.id ∷ [])
          ∙ ap (λ (es : List Entry). start.entries ++ es) (sym (map-append back_of (filter p r.front) (w ∷ [])) ∙ ap (λ (ws : List Warded). map back_of ws) (sym (on p r.front w true has)));
      stays = goes.stock ∙ r.stays;
      counted = rw (on p r.front w true has) (omega (arith, counted, long));
      few = omega (arith, few);
    }
takes client place removed false start log after wards left stock filled w more r goes is number above rising stays =
    let p = with_client client start.entries in
    let q = without_client client start.entries in
    let kept : q w ≡ true = ap not stays in
    let few = r.few in let counted = r.counted in
    let same : filter p (r.front ++ w ∷ []) ≡ filter p r.front = on p r.front w false stays ∙ append-nil (filter p r.front) in
    record {
      front = r.front ++ w ∷ [];
      rest = more;
      split = r.split ∙ ap (λ (ws : List Warded). r.front ++ ws) is ∙ sym (append_assoc r.front (w ∷ []) more);
      below = All-append (λ (v : Warded). v.id ≤ place + 1) r.front (w ∷ []) (one_more place r.front r.below) (All-cons (λ (v : Warded). v.id ≤ place + 1) w [] (omega (arith, number)) (All-nil (λ (v : Warded). v.id ≤ place + 1)));
      above = All-weaker (λ (v : Warded). w.id < v.id) (λ (v : Warded). place + 1 < v.id) (λ v l. omega (arith, l, number)) more above;
      rising = rising;
      sides = goes.sides ∙ r.sides ∙ ap (λ (ws : List Warded). filter q r.front ++ ws) is ∙ sym (append_assoc (filter q r.front) (w ∷ []) more) ∙ sym (ap (λ (ws : List Warded). ws ++ more) (on q r.front w true kept));
      entries = goes.entries ∙ r.entries ∙ sym (ap (λ (ws : List Warded). start.entries ++ map back_of ws) same);
      stays = goes.stock ∙ r.stays;
      counted = rw same (omega (arith, counted));
      few = omega (arith, few);
    }

and_yes : (a : Bool) → (a && true) ≡ a
and_yes true = refl
and_yes false = refl

-- by the first of the rest
by_rest : (client place removed : ℕ) (answer : Bool) (start : Managed) (log after : Log) (wards left : Wards) (stock filled : Stock) (rest : List Warded)
    → (r : Removing client start place removed log wards stock) → LetsGo client (place + 1) answer (managed 0 log wards stock) (managed 0 after left filled) → Asked client place answer start r.front rest
    → r.rest ≡ rest → All (λ (w : Warded). place < w.id) rest → IsRisingBy number_of rest → Removing client start (place + 1) (removed + cond answer 1 0) after left filled
by_rest client place removed answer start log after wards left stock filled [] r goes ask is above rising =
    passes client place removed answer start log after wards left stock filled r goes (subst (λ (ws : List Warded). Asked client place answer start r.front ws) (sym is) ask)
    (subst (λ (ws : List Warded). All (λ (w : Warded). place + 1 < w.id) ws) (sym is) (All-nil (λ (w : Warded). place + 1 < w.id)))
by_rest client place removed answer start log after wards left stock filled (w ∷ more) r goes ask is above rising = by_number (w.id == place + 1) refl
  where
    by_number : (t : Bool) → (w.id == place + 1) ≡ t → Removing client start (place + 1) (removed + cond answer 1 0) after left filled
    by_number true e =
        let number : w.id ≡ place + 1 = grind (arith, nat_tests, e) in
        let there : (place + 1 == w.id) ≡ true = grind (arith, nat_tests, number) in
        let told : answer ≡ (is_with client (place + 1) start.entries && (place + 1 == w.id || has_number (segments_of more) (place + 1))) = ask.told in
        let short : answer ≡ is_with client (place + 1) start.entries = (rw there at told) ∙ and_yes (is_with client (place + 1) start.entries) in
        takes client place removed answer start log after wards left stock filled w more r goes is number rising.0 rising.1 (ap (λ (n : ℕ). is_with client n start.entries) number ∙ sym short)
    by_number false e =
        let low = All-head (λ (v : Warded). place < v.id) w more above in
        let first : place + 1 < w.id = grind (arith, nat_tests, e, low) in
        let all = All-cons (λ (v : Warded). place + 1 < v.id) w more first (All-weaker (λ (v : Warded). w.id < v.id) (λ (v : Warded). place + 1 < v.id) (λ v l. omega (arith, l, first)) more rising.0) in
        passes client place removed answer start log after wards left stock filled r goes (subst (λ (ws : List Warded). Asked client place answer start r.front ws) (sym is) ask)
        (subst (λ (ws : List Warded). All (λ (v : Warded). place + 1 < v.id) ws) (sym is) all)

one_or_none : (b : Bool) → bool_byte b ≡ cond b 1 0
one_or_none true = refl
one_or_none false = refl

pub removing_next : (client place removed : ℕ) (answer : Bool) (start : Managed) (log after : Log) (wards left : Wards) (stock filled : Stock)
    → Removing client start place removed log wards stock → live log.entries ≡ segments_of wards.sides → LetsGo client (place + 1) answer (managed 0 log wards stock) (managed 0 after left filled)
    → Removing client start (place + 1) (removed + bool_byte answer) after left filled
removing_next client place removed answer start log after wards left stock filled r lives goes =
    rw (one_or_none answer)
    (by_rest client place removed answer start log after wards left stock filled r.rest r goes (asked client place removed answer start log after wards left stock filled r lives goes) refl r.above r.rising)

-- The end

none_left : (place : ℕ) (rest : List Warded) → All (λ (w : Warded). w.id ≤ place) rest → All (λ (w : Warded). place < w.id) rest → rest ≡ []
none_left place [] below above = refl
none_left place (w ∷ rest) below above =
    let low = All-head (λ (v : Warded). v.id ≤ place) w rest below in
    let high = All-head (λ (v : Warded). place < v.id) w rest above in
    absurd (omega (arith, low, high))

latter : (P : Warded → Type 0) (front rest : List Warded) → All P (front ++ rest) → All P rest
latter P [] rest all = all
latter P (w ∷ front) rest all = latter P front rest (All-tail P w (front ++ rest) all)

pub removes : (client place removed limit : ℕ) (start now : Log) (first last : Wards) (stock filled : Stock) → live start.entries ≡ segments_of first.sides → AreDrawn (live start.entries) (grants start.entries)
    → grants start.entries ≤ place → Removing client (managed 0 start first stock) place removed now last filled → Removes client removed (managed limit start first stock) (managed limit now last filled)
removes client place removed limit start now first last stock filled lives drawn end r =
    let within = All-weaker (λ (w : Warded). w.id ≤ grants start.entries) (λ (w : Warded). w.id ≤ place) (λ w l. omega (arith, l, end)) first.sides (sides_within first.sides start.entries lives drawn) in
    let rest_in = latter (λ (w : Warded). w.id ≤ place) r.front r.rest (subst (λ (ws : List Warded). All (λ (w : Warded). w.id ≤ place) ws) r.split within) in
    let nothing : r.rest ≡ [] = none_left place r.rest rest_in r.above in
    let all : r.front ≡ first.sides = sym (append-nil r.front) ∙ ap (λ (ws : List Warded). r.front ++ ws) (sym nothing) ∙ sym r.split in
    record {
      counted = r.counted ∙ ap (λ (ws : List Warded). length (sides_with client start.entries ws)) all;
      entries = r.entries ∙ ap (λ (ws : List Warded). start.entries ++ map back_of (sides_with client start.entries ws)) all;
      limit = refl;
      sides = r.sides ∙ ap (λ (ws : List Warded). filter (without_client client start.entries) r.front ++ ws) nothing ∙ append-nil (filter (without_client client start.entries) r.front) ∙ ap (λ (ws : List Warded). filter (without_client client start.entries) ws) all;
      stock = r.stays;
    }

-- By the numbers of the client alone

clash : (b : Bool) → b ≡ true → b ≡ false → ⊥
clash true t f = cc
clash false t f = cc

not_due : (w l : Bool) → (w ≡ true → l ≡ true → ⊥) → (w && l) ≡ false
not_due true true f = absurd (f refl refl)
not_due true false f = refl
not_due false l f = refl

passes_one : (client place removed : ℕ) (start : Managed) (log : Log) (wards : Wards) (stock : Stock) → Removing client start place removed log wards stock → live log.entries ≡ segments_of wards.sides
    → (is_with client (place + 1) log.entries && has_number (live log.entries) (place + 1)) ≡ false → Removing client start (place + 1) removed log wards stock
passes_one client place removed start log wards stock r lives none =
    let goes : LetsGo client (place + 1) false (managed 0 log wards stock) (managed 0 log wards stock) = record { told = sym none; entries = refl; sides = refl; stock = refl; limit = refl } in
    let same : removed + bool_byte false ≡ removed = ap (λ (n : ℕ). removed + n) (one_or_none false) ∙ omega arith in
    subst (λ (n : ℕ). Removing client start (place + 1) n log wards stock) same (removing_next client place removed false start log log wards wards stock stock r lives goes)

-- the next numbers are not due
removing_past : (client k place removed : ℕ) (start : Managed) (log : Log) (wards : Wards) (stock : Stock) → Removing client start place removed log wards stock → live log.entries ≡ segments_of wards.sides
    → ((id : ℕ) → place < id → id ≤ place + k → (is_with client id log.entries && has_number (live log.entries) id) ≡ false) → Removing client start (place + k) removed log wards stock
removing_past client zero place removed start log wards stock r lives none = let same : place + 0 ≡ place = omega arith in rw same r
removing_past client (suc k) place removed start log wards stock r lives none =
    let same : place + suc k ≡ place + 1 + k = omega arith in
    rw same
    (removing_past client k (place + 1) removed start log wards stock (passes_one client place removed start log wards stock r lives (none (place + 1) (omega arith) (omega arith))) lives
    (λ id low high. none id (omega (arith, low)) (omega (arith, high))))

-- the least number of the client that is greater than the last one
pub removing_at : (client last id removed : ℕ) (answer : Bool) (start : Managed) (log after : Log) (wards left : Wards) (stock filled : Stock) (numbers : List (ℕ × ℕ))
    → Removing client start last removed log wards stock → live log.entries ≡ segments_of wards.sides → KeepsLive log.entries numbers → last < id
    → ((between : ℕ) → last < between → between < id → has_pair numbers client between ≡ false) → LetsGo client id answer (managed 0 log wards stock) (managed 0 after left filled)
    → Removing client start id (removed + bool_byte answer) after left filled
removing_at client last id removed answer start log after wards left stock filled numbers r lives keeps later least goes =
    let same : last + (id - 1 - last) + 1 ≡ id = omega (arith, later) in
    let past = removing_past client (id - 1 - last) last removed start log wards stock r lives
    (λ n low high. not_due (is_with client n log.entries) (has_number (live log.entries) n) (λ w l. clash (has_pair numbers client n) (keeps client n w l) (least n low (omega (arith, high, later))))) in
    subst (λ (n : ℕ). Removing client start n (removed + bool_byte answer) after left filled) same
    (removing_next client (last + (id - 1 - last)) removed answer start log after wards left stock filled past lives
    (subst (λ (n : ℕ). LetsGo client n answer (managed 0 log wards stock) (managed 0 after left filled)) (sym same) goes))

-- no number of the client is greater than the last one
pub removing_end : (client last removed limit : ℕ) (start now : Log) (first sides : Wards) (stock filled : Stock) (numbers : List (ℕ × ℕ)) → live start.entries ≡ segments_of first.sides
    → AreDrawn (live start.entries) (grants start.entries) → grants start.entries < 2 ^ 64 → Removing client (managed 0 start first stock) last removed now sides filled → live now.entries ≡ segments_of sides.sides
    → KeepsLive now.entries numbers → ((id : ℕ) → last < id → id < 2 ^ 64 → has_pair numbers client id ≡ false) → Removes client removed (managed limit start first stock) (managed limit now sides filled)
removing_end client last removed limit start now first sides stock filled numbers lives drawn few r lives_now keeps none =
    let past = removing_past client (grants start.entries - last) last removed (managed 0 start first stock) now sides filled r lives_now
    (λ n low high. not_due (is_with client n now.entries) (has_number (live now.entries) n) (λ w l. clash (has_pair numbers client n) (keeps client n w l) (none n low (omega (arith, high, low, few))))) in
    removes client (last + (grants start.entries - last)) removed limit start now first sides stock filled lives drawn (omega arith) past
