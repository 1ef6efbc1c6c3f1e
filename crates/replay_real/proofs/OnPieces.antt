-- What a call does on one piece of one client, and that it changes nothing else.
use Rattle.std.proofs.Common.{◌≡◌, ◌≢◌, ℕ, ◌+◌, ◌-◌, ◌<◌, ◌≤◌, nat_cmp, nat_lt, Bool, true, false, cond, MatchOption, List, length, set, Option, Some, None, refl, sym, ap, ◌∙◌, subst, arith}
use Rattle.std.specs.BTreeMap.{is_at}
use Rattle.std.proofs.lemmas.Bool.Decides.{nat_tests}
use Rattle.std.proofs.lemmas.List.{get_or-set_same, get_or-set_other, get_or_past, set-get_or, length-set}
use Rattle.client.specs.Pieces.{Part}
use Rattle.replay_real.specs.declared.heaps.Heaps.{Heaps}
use Rattle.script_heaps.specs.declared.heaps.PieceOwner.{PieceOwner}
use Rattle.replay_real.specs.Served.{ServedClient, part_at}
use Rattle.replay_real.specs.PieceCalls.{slot_at, SlotCall, CallsAt, owner_at, served_at, CallsClient, OnClient, OnPiece}

-- ---- one client

-- the piece at a place from the first of those that did not go with a removal on
pub slot_is : (served : ServedClient) (place index : ℕ) → place ≡ served.before + index → slot_at served place ≡ part_at served.parts index
slot_is served place index is =
    ap (λ (b : Bool). cond b None (part_at served.parts (place - served.before))) (early (nat_lt place served.before) refl)
    ∙ ap (λ (k : ℕ). part_at served.parts k) (omega (arith, is))
  where
    early : (b : Bool) → nat_lt place served.before ≡ b → nat_lt place served.before ≡ false
    early true test = absurd (grind (arith, nat_tests, is, test))
    early false test = test

-- the piece at a place became something else
pub calls_set : (place index : ℕ) (now : Option Part) (call : SlotCall) (old new : ServedClient) → place ≡ old.before + index → index < length old.parts
    → new.before ≡ old.before → new.parts ≡ set old.parts index now → call (part_at old.parts index) now old.client new.client → CallsAt place call old new
calls_set place index now call old new is within before parts calls =
    record {
      calls = subst (λ (o : Option Part). call o (slot_at new place) old.client new.client) (sym (slot_is old place index is))
          (subst (λ (o : Option Part). call (part_at old.parts index) o old.client new.client) (sym there) calls);
      others = λ other apart. other_slot other apart (nat_lt other old.before) refl;
      before = before;
      count = ap length parts ∙ length-set old.parts index now;
    }
  where
    there : slot_at new place ≡ now
    there = slot_is new place index (is ∙ ap (λ (n : ℕ). n + index) (sym before)) ∙ ap (λ (ps : List (Option Part)). part_at ps index) parts ∙ get_or-set_same old.parts index now None within

    same_parts : (other : ℕ) → other - old.before ≢ index → part_at new.parts (other - old.before) ≡ part_at old.parts (other - old.before)
    same_parts other apart = ap (λ (ps : List (Option Part)). part_at ps (other - old.before)) parts ∙ get_or-set_other old.parts index (other - old.before) now None apart

    other_slot : (other : ℕ) → other ≢ place → (b : Bool) → nat_lt other old.before ≡ b → slot_at new other ≡ slot_at old other
    other_slot other apart true test =
        ap (λ (n : ℕ). cond (nat_lt other n) None (part_at new.parts (other - n))) before
        ∙ ap (λ (b : Bool). cond b None (part_at new.parts (other - old.before))) test
        ∙ sym (ap (λ (b : Bool). cond b None (part_at old.parts (other - old.before))) test)
    other_slot other apart false test =
        ap (λ (n : ℕ). cond (nat_lt other n) None (part_at new.parts (other - n))) before
        ∙ ap (λ (o : Option Part). cond (nat_lt other old.before) None o)
        (same_parts other (λ e. apart (let late : old.before ≤ other = grind (arith, nat_tests, test) in omega (arith, is, e, late))))

-- the client changed, and no piece did
pub calls_kept : (place index : ℕ) (call : SlotCall) (old new : ServedClient) → place ≡ old.before + index → index < length old.parts
    → new.before ≡ old.before → new.parts ≡ old.parts → call (part_at old.parts index) (part_at old.parts index) old.client new.client → CallsAt place call old new
calls_kept place index call old new is within before parts calls =
    calls_set place index (part_at old.parts index) call old new is within before (parts ∙ sym (set-get_or old.parts index None)) calls

-- a place before the first of those that did not go with a removal has no piece
pub slot_early : (served : ServedClient) (place : ℕ) → place < served.before → slot_at served place ≡ None
slot_early served place early = ap (λ (b : Bool). cond b None (part_at served.parts (place - served.before))) (test (nat_lt place served.before) refl)
  where
    test : (b : Bool) → nat_lt place served.before ≡ b → nat_lt place served.before ≡ true
    test true is = is
    test false is = absurd (grind (arith, nat_tests, is, early))

-- nor has a place past the last one
pub slot_past : (served : ServedClient) (place : ℕ) → served.before + length served.parts ≤ place → slot_at served place ≡ None
slot_past served place past =
    slot_is served place (place - served.before) (omega (arith, past)) ∙ get_or_past served.parts (place - served.before) None (omega (arith, past))

-- no piece is at the place, and nothing changed
pub calls_none : (place : ℕ) (call : SlotCall) (served : ServedClient) → slot_at served place ≡ None → call None None served.client served.client → CallsAt place call served served
calls_none place call served none calls =
    record {
      calls = subst (λ (o : Option Part). call o o served.client served.client) (sym none) calls;
      others = λ other apart. refl;
      before = refl;
      count = refl;
    }

-- ---- all clients

at_same : (a : ℕ) → is_at (nat_cmp a) a ≡ true
at_same a = grind (arith, nat_tests)

at_other : (a b : ℕ) → b ≢ a → is_at (nat_cmp a) b ≡ false
at_other a b apart = grind (arith, nat_tests, apart)

-- what a client has changed
pub on_client : (client : ℕ) (call : ServedClient → ServedClient → Type 0) (none : Type 0) (old new : Heaps) (was now : ServedClient) → Some was ≡ served_at old client
    → ((q : ℕ) → served_at new q ≡ cond (is_at (nat_cmp client) q) (Some now) (served_at old q))
    → new.owners ≡ old.owners → new.owned ≡ old.owned → new.standard ≡ old.standard → call was now → OnClient client call none old new
on_client client call none old new was now found updates owners owned standard calls =
    subst (λ (o : Option ServedClient). MatchOption o (none × (new ≡ old)) (λ s. CallsClient client call s old new)) found
    (record {
      now = now;
      is = updates client ∙ ap (λ (b : Bool). cond b (Some now) (served_at old client)) (at_same client);
      calls = calls;
      others = λ other apart. updates other ∙ ap (λ (b : Bool). cond b (Some now) (served_at old other)) (at_other client other apart);
      owners = owners;
      owned = owned;
      standard = standard;
    })

-- the client has nothing
pub on_no_client : (client : ℕ) (call : ServedClient → ServedClient → Type 0) (none : Type 0) (old new : Heaps) → None ≡ served_at old client
    → none → new ≡ old → OnClient client call none old new
on_no_client client call none old new found holds same =
    subst (λ (o : Option ServedClient). MatchOption o (none × (new ≡ old)) (λ s. CallsClient client call s old new)) found (holds, same)

-- the piece came for a client
pub on_piece : (number : ℕ) (call : SlotCall) (none : Type 0) (old new : Heaps) (owner : PieceOwner) → Some owner ≡ owner_at old number
    → OnClient owner.client (CallsAt owner.place call) none old new → OnPiece number call none old new
on_piece number call none old new owner found calls =
    subst (λ (o : Option PieceOwner). MatchOption o (none × (new ≡ old)) (λ t. OnClient t.client (CallsAt t.place call) none old new)) found calls

-- no such piece came
pub on_no_piece : (number : ℕ) (call : SlotCall) (none : Type 0) (heaps : Heaps) → None ≡ owner_at heaps number → none → OnPiece number call none heaps heaps
on_no_piece number call none heaps found holds =
    subst (λ (o : Option PieceOwner). MatchOption o (none × (heaps ≡ heaps)) (λ t. OnClient t.client (CallsAt t.place call) none heaps heaps)) found (holds, refl)

-- a call on a client changes no standard size
pub standard_kept : (client : ℕ) (call : ServedClient → ServedClient → Type 0) (none : Type 0) (old new : Heaps) → OnClient client call none old new → new.standard ≡ old.standard
standard_kept client call none old new w = by_case (served_at old client) w
  where
    by_case : (o : Option ServedClient) → MatchOption o (none × (new ≡ old)) (λ s. CallsClient client call s old new) → new.standard ≡ old.standard
    by_case None w = ap (λ (heaps : Heaps). heaps.standard) w.1
    by_case (Some was) w = w.standard
