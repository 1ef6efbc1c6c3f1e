-- Each kind of step keeps the rule.
use Rattle.std.proofs.Common.{◌≡◌, ◌≢◌, ℕ, ◌≤◌, ◌*◌, ◌/◌, Bool, true, false, true≢false, List, [], ◌∷◌, ◌++◌, Some, None, ◌==◌, sym, refl, ap, ◌∙◌, subst, inl, inr, ⊎_elim, set, arith, length}
use mathlib.Core.Option.{none, some}
use lib.ListN.{get_elem?}
use prog.Atomic.{either}
use Rattle.std.proofs.lemmas.Bool.Decides.{nat_tests}
use Rattle.atomic_table.specs.Table.{Me, keeps, takes, gives, Allows, Splits, opening}
use Rattle.units.specs.declared.TheConstants.{PAGE}
use Rattle.units.specs.Moment.{IsMoment}
use Rattle.segment_rule.specs.declared.view.Stage.{Stage}
use Rattle.segment_rule.specs.declared.view.Stage.TheVariants.{New, Held, Idle, Gone}
use Rattle.segment_rule.specs.declared.view.OwnerView.{OwnerView}
use Rattle.segment_rule.specs.declared.view.WardenView.{WardenView}
use Rattle.segment_rule.specs.declared.view.View.{View}
use Rattle.segment_rule.specs.declared.view.View.TheVariants.{Owner, Warden}
use Rattle.segment_rule.specs.Views.{fresh_owner, fresh_warden, settled, parted, owner_holds, owner_loses, owner_rests, owner_stays, warden_tries, expected_word, FoundBy}
use Rattle.segment_rule.specs.Rule.{Slot, Home, IsAtHome, IsLawful, IsRuled}
use Rattle.segment_rule.specs.Kinds as kinds
use Rattle.segment_rule.specs.Seats.{owner_of, warden_of, parted_view, warden_view, OwnerMade, OwnerUnlocked, WardenMade}
use Rattle.segment_rule.proofs.Stages.{unlike}
use Rattle.segment_rule.proofs.SeatsStep.{segment, owner_first, owner_alone, OwnerMove, WardenMove, owner_allows, warden_allows}

-- times found by one moment are found by any later one
pub found_later : (a b : ℕ) (tries : List (ℕ × ℕ)) → a ≤ b → FoundBy a tries → FoundBy b tries
found_later a b [] le h = tt
found_later a b (t ∷ before) le h = ((λ even. let first : t.1 / 2 ≤ a = h.0 even in omega arith), found_later a b before le h.1)

-- the table at the start
pub begins : (id pages : ℕ) → IsRuled (opening (1 ∷ []) (None ∷ []) (Owner (fresh_owner id pages)))
begins id pages = record {
  segment = segment (fresh_owner id pages) (fresh_warden id pages) 1 (some None);
  words = refl;
  homes = refl;
  sits = inr (refl, refl, refl);
  lawful = record {
    number = refl;
    size = refl;
    made = λ e. absurd (true≢false (sym e));
    new = λ _. (refl, refl);
    held = λ e. absurd (unlike New New Held refl (λ k. omega arith) e);
    idle = λ e. absurd (unlike New New Idle refl (λ k. omega arith) e);
    gone = λ e. absurd (unlike New New Gone refl (λ k. omega arith) e);
    taken = λ e. absurd (true≢false (sym e));
    there = λ _ e. absurd (omega arith);
    found = tt;
    latest = λ t e some. tt;
  };
}

-- settle
settled_holds : (o : OwnerView) (w : WardenView) (n : ℕ) (home : Home) → o.phase ≡ New → IsLawful (segment o w n home) → IsLawful (segment (settled o) w n none)
settled_holds o w n home is law =
    let one : n ≡ 1 = (law.new is).0 in
    record {
      number = law.number;
      size = law.size;
      made = λ _. unlike Held Held New refl (λ k. omega arith);
      new = λ e. absurd (unlike Held Held New refl (λ k. omega arith) e);
      held = λ _. (one, refl);
      idle = λ e. absurd (unlike Held Held Idle refl (λ k. omega arith) e);
      gone = λ e. absurd (unlike Held Held Gone refl (λ k. omega arith) e);
      taken = λ t. let zero_there : n ≡ 0 = (law.taken t).0 in absurd (omega arith);
      there = law.there;
      found = law.found;
      latest = law.latest;
    }

settles : (slots id : ℕ) (o : OwnerView) → o.phase ≡ New → Allows IsRuled slots id (Owner o, []) 0 (λ n. n) (λ found new. OwnerMade kinds.Settles (Owner o, []) found new)
settles slots id o is = owner_allows (λ n. n) kinds.Settles slots id o [] (λ w n home law. record {
  after = settled o;
  act = takes 0 None;
  home_after = none;
  valid = ap some (law.new is).1;
  homes = refl;
  id = refl;
  pages = refl;
  apart = refl;
  law = settled_holds o w n home is law;
  made = record { from = is; moved = refl; is = refl };
})

-- the warden's seat is made
splits : (id : ℕ) (o : OwnerView) → o.apart ≡ false → o.phase ≢ New → Splits IsRuled id (Owner o) (parted_view (Owner o)) (warden_view (Owner o))
splits id o alone is s ruled at =
    ⊎_elim
    (λ (x : (ruled.segment.owner.apart ≡ true) × (s.views ≡ Owner ruled.segment.owner ∷ Warden ruled.segment.warden ∷ [])).
    let place = owner_first o ruled.segment.owner ruled.segment.warden id (subst (λ (vs : List View). get_elem? vs id ≡ some (Owner o)) x.1 at) in
    absurd (true≢false (sym x.0 ∙ (ap (λ (q : OwnerView). q.apart) place.1 ∙ alone))))
    (λ (x : (ruled.segment.owner.apart ≡ false) × (s.views ≡ Owner ruled.segment.owner ∷ []) × (ruled.segment.warden ≡ fresh_warden ruled.segment.owner.id ruled.segment.owner.pages)).
    let place = owner_alone o ruled.segment.owner id (subst (λ (vs : List View). get_elem? vs id ≡ some (Owner o)) x.1 at) in
    let n : ℕ = ruled.segment.word in
    let home : Home = ruled.segment.home in
    let law : IsLawful (segment o (fresh_warden o.id o.pages) n home) =
    subst (λ (q : OwnerView). IsLawful (segment q (fresh_warden q.id q.pages) n home)) place.1
    (subst (λ (q : WardenView). IsLawful (segment ruled.segment.owner q n home)) x.2 ruled.lawful) in
    record {
      segment = segment (parted o) (fresh_warden o.id o.pages) n home;
      words = ruled.words;
      homes = ruled.homes;
      sits = inl (refl, (λ i. set (x.1 i) (place.0 i) (parted_view (Owner o)) ++ warden_view (Owner o) ∷ []));
      lawful = record {
        number = law.number;
        size = law.size;
        made = λ _. is;
        new = law.new;
        held = law.held;
        idle = λ e. ((law.idle e).0, λ k. let h = (law.idle e).1 k in record { stamped = h.stamped; lies = h.lies; sized = h.sized });
        gone = law.gone;
        taken = law.taken;
        there = law.there;
        found = law.found;
        latest = law.latest;
      };
    })
    ruled.sits

-- an idle owner that finds 0 loses
owner_lost : (o : OwnerView) (w : WardenView) (n : ℕ) (home : Home) → n ≡ 0 → IsLawful (segment o w n home) → IsLawful (segment (owner_loses o) w n home)
owner_lost o w n home zero_there law = record {
  number = law.number;
  size = law.size;
  made = λ _. unlike Gone Gone New refl (λ k. omega arith);
  new = λ e. absurd (unlike Gone Gone New refl (λ k. omega arith) e);
  held = λ e. absurd (unlike Gone Gone Held refl (λ k. omega arith) e);
  idle = λ e. absurd (unlike Gone Gone Idle refl (λ k. omega arith) e);
  gone = λ _. zero_there;
  taken = law.taken;
  there = law.there;
  found = law.found;
  latest = law.latest;
}

-- an owner that finds its own word takes the block
owner_has : (o : OwnerView) (w : WardenView) (n : ℕ) (home : Home) → n ≢ 0 → IsLawful (segment o w n home) → IsLawful (segment (owner_holds o) w 1 none)
owner_has o w n home there law = record {
  number = law.number;
  size = law.size;
  made = λ _. unlike Held Held New refl (λ k. omega arith);
  new = λ e. absurd (unlike Held Held New refl (λ k. omega arith) e);
  held = λ _. (refl, refl);
  idle = λ e. absurd (unlike Held Held Idle refl (λ k. omega arith) e);
  gone = λ e. absurd (unlike Held Held Gone refl (λ k. omega arith) e);
  taken = λ t. absurd (there (law.taken t).0);
  there = λ _ e. absurd (omega arith);
  found = law.found;
  latest = λ t e some. let odd : 1 ≡ 2 * t = e in absurd (omega arith);
}

lock_at : (o : OwnerView) → o.phase ≡ Idle → (w : WardenView) (n : ℕ) (home : Home) → IsLawful (segment o w n home) → (test : Bool) → (n == 0) ≡ test
    → OwnerMove (λ n. either (n == 2 * o.last) 1 n) kinds.Locks o [] w n home
lock_at o idle w n home law true is =
    let zero_there : n ≡ 0 = grind (arith, nat_tests) in
    let early : 1 ≤ o.last = (law.idle idle).0.0 in
    let miss : (n == 2 * o.last) ≡ false = grind (arith, nat_tests) in
    record {
      after = owner_loses o;
      act = keeps;
      home_after = home;
      valid = tt;
      homes = refl;
      id = refl;
      pages = refl;
      apart = refl;
      law = subst (λ (b : Bool). IsLawful (segment (owner_loses o) w (either b 1 n) home)) (sym miss) (owner_lost o w n home zero_there law);
      made = subst (λ (b : Bool). kinds.Locks (segment o w n home) keeps (segment (owner_loses o) w (either b 1 n) home)) (sym miss)
          (inr (record { from = idle; found = zero_there; moved = refl; is = refl }));
    }
lock_at o idle w n home law false is =
    let there : n ≢ 0 = grind (arith, nat_tests) in
    let lies = (law.idle idle).1 there in
    let stamped : n ≡ 2 * o.last = lies.stamped in
    let hit : (n == 2 * o.last) ≡ true = grind (arith, nat_tests) in
    record {
      after = owner_holds o;
      act = takes 0 (Some o.left);
      home_after = none;
      valid = ap some lies.lies;
      homes = refl;
      id = refl;
      pages = refl;
      apart = refl;
      law = subst (λ (b : Bool). IsLawful (segment (owner_holds o) w (either b 1 n) none)) (sym hit) (owner_has o w n home there law);
      made = subst (λ (b : Bool). kinds.Locks (segment o w n home) (takes 0 (Some o.left)) (segment (owner_holds o) w (either b 1 n) none)) (sym hit)
          (inl (record { from = idle; found = stamped; moved = refl; is = refl }));
    }

-- lock wins, lock loses
locks : (slots id : ℕ) (o : OwnerView) → o.phase ≡ Idle → Allows IsRuled slots id (Owner o, []) 0 (λ n. either (n == 2 * o.last) 1 n) (λ found new. OwnerMade kinds.Locks (Owner o, []) found new)
locks slots id o idle = owner_allows (λ n. either (n == 2 * o.last) 1 n) kinds.Locks slots id o [] (λ w n home law. lock_at o idle w n home law (n == 0) refl)

-- the owner lays its block down
owner_left : (o : OwnerView) (stamp : ℕ) (b : List ℕ) → IsMoment stamp → o.last ≤ stamp → length b ≡ PAGE * o.pages
    → (w : WardenView) (n : ℕ) (home : Home) → o.phase ≡ Held → IsLawful (segment o w n home) → IsLawful (segment (owner_rests stamp b o) w (2 * stamp) (some (Some b)))
owner_left o stamp b moment later sized w n home held law =
    let one : n ≡ 1 = (law.held held).0 in
    let early : 1 ≤ stamp = moment.0 in
    let within : FoundBy stamp w.tries = found_later o.last stamp w.tries later law.found in
    record {
      number = law.number;
      size = law.size;
      made = λ _. unlike Idle Idle New refl (λ k. omega arith);
      new = λ e. absurd (unlike Idle Idle New refl (λ k. omega arith) e);
      held = λ e. absurd (unlike Idle Idle Held refl (λ k. omega arith) e);
      idle = λ _. (moment, λ _. record { stamped = refl; lies = refl; sized = sized });
      gone = λ e. absurd (unlike Idle Idle Gone refl (λ k. omega arith) e);
      taken = λ t. let zero_there : n ≡ 0 = (law.taken t).0 in absurd (omega arith);
      there = λ _ e. absurd (omega arith);
      found = within;
      latest = λ t e some. let same : 2 * stamp ≡ 2 * t = e in found_later stamp t w.tries (omega arith) within;
    }

unlocks : (slots id : ℕ) (o : OwnerView) (stamp : ℕ) (b : List ℕ) → o.phase ≡ Held → IsMoment stamp → o.last ≤ stamp → length b ≡ PAGE * o.pages
    → Allows IsRuled slots id (Owner o, (0, Some b) ∷ []) 0 (λ n. either (n == 1) (2 * stamp) n) (λ found new. OwnerMade (kinds.Unlocks stamp b) (Owner o, (0, Some b) ∷ []) found new)
unlocks slots id o stamp b held moment later sized = owner_allows (λ n. either (n == 1) (2 * stamp) n) (kinds.Unlocks stamp b) slots id o ((0, Some b) ∷ []) (λ w n home law.
    let one : n ≡ 1 = (law.held held).0 in
    let hit : (n == 1) ≡ true = grind (arith, nat_tests) in
    record {
      after = owner_rests stamp b o;
      act = gives;
      home_after = some (Some b);
      valid = tt;
      homes = refl;
      id = refl;
      pages = refl;
      apart = refl;
      law = subst (λ (t : Bool). IsLawful (segment (owner_rests stamp b o) w (either t (2 * stamp) n) (some (Some b)))) (sym hit) (owner_left o stamp b moment later sized w n home held law);
      made = subst (λ (t : Bool). kinds.Unlocks stamp b (segment o w n home) gives (segment (owner_rests stamp b o) w (either t (2 * stamp) n) (some (Some b)))) (sym hit)
          (record { from = held; found = one; moment = moment; later = later; sized = sized; moved = refl; is = refl });
    })

-- an owner that finds its segment there goes on
owner_goes_on : (o : OwnerView) (w : WardenView) (n : ℕ) (home : Home) → IsLawful (segment o w n home) → IsLawful (segment (owner_stays o) w n home)
owner_goes_on o w n home law = record {
  number = law.number;
  size = law.size;
  made = law.made;
  new = law.new;
  held = law.held;
  idle = λ e. ((law.idle e).0, λ k. let h = (law.idle e).1 k in record { stamped = h.stamped; lies = h.lies; sized = h.sized });
  gone = law.gone;
  taken = law.taken;
  there = law.there;
  found = law.found;
  latest = law.latest;
}

look_at : (o : OwnerView) → o.phase ≡ Idle → (w : WardenView) (n : ℕ) (home : Home) → IsLawful (segment o w n home) → (test : Bool) → (n == 0) ≡ test → OwnerMove (λ n. n) kinds.Looks o [] w n home
look_at o idle w n home law true is =
    let zero_there : n ≡ 0 = grind (arith, nat_tests) in
    record { after = owner_loses o; act = keeps; home_after = home; valid = tt; homes = refl; id = refl; pages = refl; apart = refl; law = owner_lost o w n home zero_there law; made = inr (record { from = idle; found = zero_there; moved = refl; is = refl }) }
look_at o idle w n home law false is =
    let there : n ≢ 0 = grind (arith, nat_tests) in
    record { after = owner_stays o; act = keeps; home_after = home; valid = tt; homes = refl; id = refl; pages = refl; apart = refl; law = owner_goes_on o w n home law; made = inl (record { from = idle; found = there; moved = refl; is = refl }) }

-- look
looks : (slots id : ℕ) (o : OwnerView) → o.phase ≡ Idle → Allows IsRuled slots id (Owner o, []) 0 (λ n. n) (λ found new. OwnerMade kinds.Looks (Owner o, []) found new)
looks slots id o idle = owner_allows (λ n. n) kinds.Looks slots id o [] (λ w n home law. look_at o idle w n home law (n == 0) refl)

-- what a warden finds that has not taken the block: the word of a held segment, or that of an idle owner's last unlock
pub finds : (w : WardenView) (o : OwnerView) (n : ℕ) (home : Home) → w.taken ≡ false → IsLawful (segment o w n home) → (phase : Stage) → o.phase ≡ phase → n ≢ 1 → (o.phase ≡ Idle) × IsAtHome (segment o w n home)
finds w o n home free law New is even = absurd (even (law.new is).0)
finds w o n home free law Held is even = absurd (even (law.held is).0)
finds w o n home free law Idle is even = (is, (law.idle is).1 (law.there free))
finds w o n home free law Gone is even = absurd (law.there free (law.gone is))

-- a time that the warden finds is the owner's last
time_found : (w : WardenView) (o : OwnerView) (n : ℕ) (home : Home) → w.taken ≡ false → IsLawful (segment o w n home) → n ≢ 1 → n / 2 ≤ o.last
time_found w o n home free law even = let h : n ≡ 2 * o.last = (finds w o n home free law o.phase refl even).1.stamped in omega arith

-- the warden has taken the block
warden_took : (w : WardenView) (now : ℕ) (o : OwnerView) (n : ℕ) (home : Home) → n ≢ 1 → n / 2 ≤ o.last → o.phase ≡ Idle → IsLawful (segment o w n home) → IsLawful (segment o (warden_tries now n true w) 0 none)
warden_took w now o n home even within idle law = record {
  number = law.number;
  size = law.size;
  made = law.made;
  new = λ e. absurd (unlike o.phase Idle New idle (λ k. omega arith) e);
  held = λ e. absurd (unlike o.phase Idle Held idle (λ k. omega arith) e);
  idle = λ e. ((law.idle e).0, λ there. absurd (there refl));
  gone = λ _. refl;
  taken = λ _. (refl, refl);
  there = λ e. absurd (true≢false e);
  found = ((λ _. within), law.found);
  latest = λ t e some. let z : 0 ≡ 2 * t = e in absurd (omega arith);
}

warden_lost : (w : WardenView) (now : ℕ) (o : OwnerView) (n : ℕ) (home : Home) → w.taken ≡ false → IsLawful (segment o w n home) → IsLawful (segment o (warden_tries now n false w) n home)
warden_lost w now o n home free law = record {
  number = law.number;
  size = law.size;
  made = law.made;
  new = law.new;
  held = law.held;
  idle = λ e. ((law.idle e).0, λ k. let h = (law.idle e).1 k in record { stamped = h.stamped; lies = h.lies; sized = h.sized });
  gone = law.gone;
  taken = λ e. absurd (true≢false (sym e));
  there = λ _. law.there free;
  found = ((λ even. time_found w o n home free law even), law.found);
  latest = λ t e some. let same : n ≡ 2 * t = e in ((λ _. omega arith), law.latest t e some);
}

try_word : (v : WardenView) (now expected : ℕ) → IsMoment now → v.taken ≡ false → expected ≡ expected_word v.tries
    → (o : OwnerView) (n : ℕ) (home : Home) → o.apart ≡ true → IsLawful (segment o v n home) → (test : Bool) → (n == expected) ≡ test
    → WardenMove (λ n. either (n == expected) 0 n) (kinds.Tries now) v [] o n home
try_word v now expected moment free guess o n home apart law true is =
    let hit : n ≡ expected = grind (arith, nat_tests) in
    let even : n ≢ 1 = λ e. let twice : expected ≡ expected_word v.tries = guess in absurd (omega arith) in
    let found = finds v o n home free law o.phase refl even in
    record {
      after = warden_tries now n true v;
      act = takes 0 (Some o.left);
      home_after = none;
      valid = ap some found.1.lies;
      homes = refl;
      law = subst (λ (b : Bool). IsLawful (segment o (warden_tries now n true v) (either b 0 n) none)) (sym is)
          (warden_took v now o n home even (time_found v o n home free law even) found.0 law);
      made = subst (λ (b : Bool). kinds.Tries now (segment o v n home) (takes 0 (Some o.left)) (segment o (warden_tries now n true v) (either b 0 n) none)) (sym is)
          (inl (record { apart = apart; from = free; moment = moment; found = hit ∙ guess; moved = refl; is = refl }));
    }
try_word v now expected moment free guess o n home apart law false is =
    let miss : n ≢ expected = grind (arith, nat_tests) in
    record {
      after = warden_tries now n false v;
      act = keeps;
      home_after = home;
      valid = tt;
      homes = refl;
      law = subst (λ (b : Bool). IsLawful (segment o (warden_tries now n false v) (either b 0 n) home)) (sym is) (warden_lost v now o n home free law);
      made = subst (λ (b : Bool). kinds.Tries now (segment o v n home) keeps (segment o (warden_tries now n false v) (either b 0 n) home)) (sym is)
          (inr (record { apart = apart; from = free; moment = moment; found = λ e. miss (e ∙ sym guess); moved = refl; is = refl }));
    }

-- try wins, try loses
tries : (slots id : ℕ) (v : WardenView) (now expected : ℕ) → IsMoment now → v.taken ≡ false → expected ≡ expected_word v.tries
    → Allows IsRuled slots id (Warden v, []) 0 (λ n. either (n == expected) 0 n) (λ found new. WardenMade (kinds.Tries now) (Warden v, []) found new)
tries slots id v now expected moment free guess = warden_allows (λ n. either (n == expected) 0 n) (kinds.Tries now) slots id v [] (λ o n home apart law. try_word v now expected moment free guess o n home apart law (n == expected) refl)

-- the same of a seat that is known by equations
pub settles_seat : (slots id : ℕ) (me : Me Slot View) → me ≡ (Owner (owner_of me.0), []) → (owner_of me.0).phase ≡ New → Allows IsRuled slots id me 0 (λ n. n) (λ found new. OwnerMade kinds.Settles me found new)
settles_seat slots id me e is = subst (λ (x : Me Slot View). Allows IsRuled slots id x 0 (λ n. n) (λ found new. OwnerMade kinds.Settles x found new)) (sym e) (settles slots id (owner_of me.0) is)

pub splits_seat : (id : ℕ) (v : View) → v ≡ Owner (owner_of v) → (owner_of v).apart ≡ false → (owner_of v).phase ≢ New → Splits IsRuled id v (parted_view v) (warden_view v)
splits_seat id v e alone is = subst (λ (x : View). Splits IsRuled id x (parted_view x) (warden_view x)) (sym e) (splits id (owner_of v) alone is)

pub locks_seat : (slots id : ℕ) (me : Me Slot View) (old new : ℕ) → me ≡ (Owner (owner_of me.0), []) → (owner_of me.0).phase ≡ Idle → old ≡ 2 * (owner_of me.0).last → new ≡ 1
    → Allows IsRuled slots id me 0 (λ n. either (n == old) new n) (λ found new. OwnerMade kinds.Locks me found new)
locks_seat slots id me old new e idle is one = subst (λ (x : Me Slot View). Allows IsRuled slots id x 0 (λ n. either (n == old) new n) (λ found new. OwnerMade kinds.Locks x found new)) (sym e)
    (subst (λ (k : ℕ). Allows IsRuled slots id (Owner (owner_of me.0), []) 0 (λ n. either (n == k) new n) (λ found new. OwnerMade kinds.Locks (Owner (owner_of me.0), []) found new)) (sym is)
    (subst (λ (k : ℕ). Allows IsRuled slots id (Owner (owner_of me.0), []) 0 (λ n. either (n == 2 * (owner_of me.0).last) k n) (λ found new. OwnerMade kinds.Locks (Owner (owner_of me.0), []) found new)) (sym one)
    (locks slots id (owner_of me.0) idle)))

unlocks_me : (slots id : ℕ) (o : OwnerView) (stamp : ℕ) (b : List ℕ) → o.phase ≡ Held → IsMoment stamp → o.last ≤ stamp → length b ≡ PAGE * o.pages
    → Allows IsRuled slots id (Owner o, (0, Some b) ∷ []) 0 (λ n. either (n == 1) (2 * stamp) n) (λ found new. OwnerUnlocked stamp (Owner o, (0, Some b) ∷ []) found new)
unlocks_me slots id o stamp b held moment later sized s ruled long at small =
    let go = unlocks slots id o stamp b held moment later sized s ruled long at small in
    (go.0, go.1, go.2, go.3, (b, refl, go.4))

pub unlocks_seat : (slots id : ℕ) (me : Me Slot View) (old new stamp : ℕ) (b : List ℕ) → me.0 ≡ Owner (owner_of me.0) → me.1 ≡ (0, Some b) ∷ [] → (owner_of me.0).phase ≡ Held → IsMoment stamp → (owner_of me.0).last ≤ stamp
    → length b ≡ PAGE * (owner_of me.0).pages → old ≡ 1 → new ≡ 2 * stamp
    → Allows IsRuled slots id me 0 (λ n. either (n == old) new n) (λ found after. OwnerUnlocked (new / 2) me found after)
unlocks_seat slots id me old new stamp b e out held moment later sized one is =
    let whole : me ≡ (Owner (owner_of me.0), (0, Some b) ∷ []) = λ i. (e i, out i) in
    let half : stamp ≡ new / 2 = omega arith in
    subst (λ (x : Me Slot View). Allows IsRuled slots id x 0 (λ n. either (n == old) new n) (λ found after. OwnerUnlocked (new / 2) x found after)) (sym whole)
    (subst (λ (k : ℕ). Allows IsRuled slots id (Owner (owner_of me.0), (0, Some b) ∷ []) 0 (λ n. either (n == old) new n) (λ found after. OwnerUnlocked k (Owner (owner_of me.0), (0, Some b) ∷ []) found after)) half
    (subst (λ (k : ℕ). Allows IsRuled slots id (Owner (owner_of me.0), (0, Some b) ∷ []) 0 (λ n. either (n == old) k n) (λ found after. OwnerUnlocked stamp (Owner (owner_of me.0), (0, Some b) ∷ []) found after)) (sym is)
    (subst (λ (k : ℕ). Allows IsRuled slots id (Owner (owner_of me.0), (0, Some b) ∷ []) 0 (λ n. either (n == k) (2 * stamp) n) (λ found after. OwnerUnlocked stamp (Owner (owner_of me.0), (0, Some b) ∷ []) found after)) (sym one)
    (unlocks_me slots id (owner_of me.0) stamp b held moment later sized))))

pub looks_seat : (slots id : ℕ) (me : Me Slot View) → me ≡ (Owner (owner_of me.0), []) → (owner_of me.0).phase ≡ Idle → Allows IsRuled slots id me 0 (λ n. n) (λ found new. OwnerMade kinds.Looks me found new)
looks_seat slots id me e idle = subst (λ (x : Me Slot View). Allows IsRuled slots id x 0 (λ n. n) (λ found new. OwnerMade kinds.Looks x found new)) (sym e) (looks slots id (owner_of me.0) idle)

pub tries_seat : (slots id : ℕ) (me : Me Slot View) (now expected new : ℕ) → me ≡ (Warden (warden_of me.0), []) → IsMoment now → (warden_of me.0).taken ≡ false → expected ≡ expected_word (warden_of me.0).tries → new ≡ 0
    → Allows IsRuled slots id me 0 (λ n. either (n == expected) new n) (λ found after. WardenMade (kinds.Tries now) me found after)
tries_seat slots id me now expected new e moment free guess is = subst (λ (x : Me Slot View). Allows IsRuled slots id x 0 (λ n. either (n == expected) new n) (λ found after. WardenMade (kinds.Tries now) x found after)) (sym e)
    (subst (λ (k : ℕ). Allows IsRuled slots id (Warden (warden_of me.0), []) 0 (λ n. either (n == expected) k n) (λ found after. WardenMade (kinds.Tries now) (Warden (warden_of me.0), []) found after)) (sym is)
    (tries slots id (warden_of me.0) now expected moment free guess))
