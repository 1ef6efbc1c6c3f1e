-- What lies behind the lock keeps what was fixed.
use Rattle.std.proofs.Common.{◌≡◌, ℕ, ◌+◌, ◌^◌, ◌<◌, ◌≤◌, Bool, List, length, Option, Some, None, is_some, refl, sym, ap, ◌∙◌, subst, arith}
use Rattle.std.specs.List.{count_by}
use Rattle.std.proofs.lemmas.List.{length-append}
use Rattle.std.proofs.lemmas.List.Sums.{count_by-le-length}
use Rattle.std.specs.Prelude.{IfSome, option_map}
use Rattle.discard_book.specs.declared.entry.Entry.{Entry}
use Rattle.manager_state.specs.Managed.{Managed}
use Rattle.manager.specs.Tokens.{Tokens, with_grant, with_round}
use Rattle.manager.specs.Grows.{Grows, IsSoundDesk, GrantsNone}
use Rattle.discard_book.specs.Live.{grants}
use Rattle.return_queue.specs.declared.note.Note.{Note}
use Rattle.manager.specs.Counted.{after_notes}
use Rattle.manager.specs.Grows.{is_round}
use Rattle.manager.proofs.Growth.{grows_none, grows_more, grows_grants}
use Rattle.manager.proofs.StateGrows.{notes_grow, notes_limit}

told_more : (a b g r : ℕ) (f : Tokens → Tokens) → ((t : Tokens) → (f t).grants ≡ t.grants + a) → ((t : Tokens) → (f t).rounds ≡ t.rounds + b) → (totals : Option Tokens)
    → IfSome totals (λ t. (t.grants ≡ g) × (t.rounds ≡ r)) → IfSome (option_map f totals) (λ t. (t.grants ≡ g + a) × (t.rounds ≡ r + b))
told_more a b g r f fg fr None k = tt
told_more a b g r f fg fr (Some t) k = (fg t ∙ ap (λ n. n + a) k.0, fr t ∙ ap (λ n. n + b) k.1)

some_map : (f : Tokens → Tokens) (totals : Option Tokens) → is_some (option_map f totals) ≡ is_some totals
some_map f None = refl
some_map f (Some t) = refl

-- the state grew, and the totals were counted on by as much
kept_on : (a b : ℕ) (f : Tokens → Tokens) → ((t : Tokens) → (f t).grants ≡ t.grants + a) → ((t : Tokens) → (f t).rounds ≡ t.rounds + b)
    → (limit : ℕ) (handed : List Entry) (counts : Bool) (totals totals' : Option Tokens) (old new : Managed)
    → IsSoundDesk limit handed counts totals old → new.limit ≡ old.limit → Grows old.limit a b old.entries new.entries → totals' ≡ option_map f totals
    → IsSoundDesk limit handed counts totals' new
kept_on a b f fg fr limit handed counts totals totals' old new was l grown e = record {
  same = l ∙ was.same;
  account = record {
    granted = was.account.granted + a;
    rounds = was.account.rounds + b;
    grows = grows_more limit was.account.granted was.account.rounds a b handed old.entries new.entries was.account.grows (subst (λ (n : ℕ). Grows n a b old.entries new.entries) was.same grown);
    told = subst (λ (o : Option Tokens). IfSome o (λ t. (t.grants ≡ was.account.granted + a) × (t.rounds ≡ was.account.rounds + b))) (sym e)
        (told_more a b was.account.granted was.account.rounds f fg fr totals was.account.told);
  };
  counted = ap is_some e ∙ some_map f totals ∙ was.counted;
}

same_map : (totals : Option Tokens) → totals ≡ option_map (λ (t : Tokens). t) totals
same_map None = refl
same_map (Some t) = refl

pub kept_same : (limit : ℕ) (handed : List Entry) (counts : Bool) (totals : Option Tokens) (old new : Managed)
    → IsSoundDesk limit handed counts totals old → new.limit ≡ old.limit → Grows old.limit 0 0 old.entries new.entries → IsSoundDesk limit handed counts totals new
kept_same limit handed counts totals old new was l grown =
    kept_on 0 0 (λ t. t) (λ t. omega arith) (λ t. omega arith) limit handed counts totals totals old new was l grown (same_map totals)

pub kept_grant : (limit : ℕ) (handed : List Entry) (counts : Bool) (totals totals' : Option Tokens) (old new : Managed)
    → IsSoundDesk limit handed counts totals old → new.limit ≡ old.limit → Grows old.limit 1 0 old.entries new.entries → totals' ≡ option_map with_grant totals
    → IsSoundDesk limit handed counts totals' new
kept_grant limit handed counts totals totals' old new was l grown e =
    kept_on 1 0 with_grant (λ t. refl) (λ t. omega arith) limit handed counts totals totals' old new was l grown e

pub kept_round : (limit : ℕ) (handed : List Entry) (counts : Bool) (totals totals' : Option Tokens) (old new : Managed)
    → IsSoundDesk limit handed counts totals old → new.limit ≡ old.limit → Grows old.limit 0 1 old.entries new.entries → totals' ≡ option_map with_round totals
    → IsSoundDesk limit handed counts totals' new
kept_round limit handed counts totals totals' old new was l grown e =
    kept_on 0 1 with_round (λ t. omega arith) (λ t. refl) limit handed counts totals totals' old new was l grown e

-- returns were counted
pub kept_notes : (limit : ℕ) (handed : List Entry) (counts : Bool) (totals : Option Tokens) (old new : Managed) (notes : List Note)
    → IsSoundDesk limit handed counts totals old → new ≡ after_notes old notes → IsSoundDesk limit handed counts totals new
kept_notes limit handed counts totals old new notes was e = subst (λ (m : Managed). IsSoundDesk limit handed counts totals m) (sym e)
    (kept_same limit handed counts totals old (after_notes old notes) was (notes_limit old notes) (notes_grow old.limit old notes))

-- what holds of the queue by its name
pub to_queue : {N T : Type 0} (P : N → T → Type 0) (queue name : N) (t : T) → queue ≡ name → P name t → P queue t
to_queue P queue name t e h = subst (λ (n : _). P n t) (sym e) h

-- the totals of grants are at most the Grants of the book
few_told : (totals : Option Tokens) (g r n : ℕ) → g ≤ n → IfSome totals (λ t. (t.grants ≡ g) × (t.rounds ≡ r)) → IfSome totals (λ t. t.grants ≤ n)
few_told None g r n l h = tt
few_told (Some t) g r n l h = subst (λ (k : ℕ). k ≤ n) (sym h.0) l

few_rounds_told : (totals : Option Tokens) (g r n : ℕ) → r ≤ n → IfSome totals (λ t. (t.grants ≡ g) × (t.rounds ≡ r)) → IfSome totals (λ t. t.rounds ≤ n)
few_rounds_told None g r n l h = tt
few_rounds_told (Some t) g r n l h = subst (λ (k : ℕ). k ≤ n) (sym h.1) l

below : (totals : Option Tokens) (n : ℕ) → n + 1 < 2 ^ 64 → IfSome totals (λ t. t.grants ≤ n) → IfSome totals (λ t. t.grants + 1 < 2 ^ 64)
below None n l h = tt
below (Some t) n l h = let k = h in omega arith

below_rounds : (totals : Option Tokens) (n : ℕ) → n + 1 < 2 ^ 64 → IfSome totals (λ t. t.rounds ≤ n) → IfSome totals (λ t. t.rounds + 1 < 2 ^ 64)
below_rounds None n l h = tt
below_rounds (Some t) n l h = let k = h in omega arith

pub few_grants : (limit : ℕ) (handed : List Entry) (counts : Bool) (totals : Option Tokens) (old : Managed) (n : ℕ) → IsSoundDesk limit handed counts totals old → n ≡ grants old.entries → n + 1 < 2 ^ 64
    → IfSome totals (λ t. t.grants + 1 < 2 ^ 64)
few_grants limit handed counts totals old n was e l =
    let g = grows_grants limit was.account.granted was.account.rounds handed old.entries was.account.grows in
    below totals n l (few_told totals was.account.granted was.account.rounds n (omega arith) was.account.told)

-- an enforcement was entered, so the totals have room for it
pub few_rounds : (limit : ℕ) (handed : List Entry) (counts : Bool) (totals : Option Tokens) (old : Managed) (after : List Entry) (n : ℕ) → IsSoundDesk limit handed counts totals old
    → Grows old.limit 0 1 old.entries after → n ≡ length after → n < 2 ^ 64 → IfSome totals (λ t. t.rounds + 1 < 2 ^ 64)
few_rounds limit handed counts totals old after n was grown e l =
    let both = grows_more limit was.account.granted was.account.rounds 0 1 handed old.entries after was.account.grows (subst (λ (k : ℕ). Grows k 0 1 old.entries after) was.same grown) in
    let most : count_by (is_round limit) both.more ≤ length both.more = count_by-le-length (is_round limit) both.more in
    let long : length after ≡ length handed + length both.more = ap length both.follows ∙ length-append handed both.more in
    let enough = both.rounds_are in
    below_rounds totals was.account.rounds (omega arith) (few_rounds_told totals was.account.granted was.account.rounds was.account.rounds (omega arith) was.account.told)

-- a lower bound of the enforcements may be lowered
pub grows_fewer : (limit g r : ℕ) (xs ys : List Entry) → Grows limit g r xs ys → Grows limit g 0 xs ys
grows_fewer limit g r xs ys h = record { more = h.more; follows = h.follows; carry = h.carry; granted_is = h.granted_is; rounds_are = omega arith }

-- the totals tell what the book gained
pub whole_told : (limit : ℕ) (handed : List Entry) (counts : Bool) (totals : Option Tokens) (t : Tokens) (state : Managed) → IsSoundDesk limit handed counts totals state → totals ≡ Some t
    → Grows limit t.grants t.rounds handed state.entries
whole_told limit handed counts totals t state k e =
    let told : (t.grants ≡ k.account.granted) × (t.rounds ≡ k.account.rounds) = subst (λ (o : Option Tokens). IfSome o (λ u. (u.grants ≡ k.account.granted) × (u.rounds ≡ k.account.rounds))) e k.account.told in
    subst (λ (n : ℕ). Grows limit n t.rounds handed state.entries) (sym told.0)
    (subst (λ (n : ℕ). Grows limit k.account.granted n handed state.entries) (sym told.1) k.account.grows)

-- what was fixed at the making
pub kept_new : (limit : ℕ) (handed : List Entry) (counts : Bool) (totals : Option Tokens) (state : Managed) → state.limit ≡ limit → state.entries ≡ handed → is_some totals ≡ counts
    → IfSome totals (λ t. (t.grants ≡ 0) × (t.rounds ≡ 0)) → IsSoundDesk limit handed counts totals state
kept_new limit handed counts totals state l e c f = record {
  same = l;
  account = record { granted = 0; rounds = 0; grows = subst (λ (es : List Entry). Grows limit 0 0 handed es) (sym e) (grows_none limit handed); told = f };
  counted = c;
}

-- a call of the state that grants nothing
pub kept_by : (limit : ℕ) (handed : List Entry) (counts : Bool) (totals : Option Tokens) (old new : Managed) → IsSoundDesk limit handed counts totals old → GrantsNone old new → IsSoundDesk limit handed counts totals new
kept_by limit handed counts totals old new was k = kept_same limit handed counts totals old new was k.1 (k.0 old.limit)
