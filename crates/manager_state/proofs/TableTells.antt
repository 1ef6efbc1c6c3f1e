-- The table by number follows the book's entries.
use Rattle.std.proofs.Common.{◌≡◌, ◌≢◌, ℕ, ◌+◌, ◌-◌, ◌<◌, ◌≤◌, ◌==◌, zero, suc, nat_lt, Bool, true, false, not, cond, ◌&&◌, ◌||◌, List, [], ◌∷◌, ◌++◌, Option, length, get_or, set, map, refl, sym, ap, ap₂, ◌∙◌, arith, length-append}
use Rattle.std.proofs.lemmas.Bool.Decides.{nat_tests}
use Rattle.std.proofs.lemmas.List.{length-set, get_or_past, get_or_append_left, get_or-append_right, get_or-set_same, get_or-set_other}
use Rattle.std.proofs.lemmas.List.Folds.{list_any-append}
use Rattle.std.proofs.lemmas.List.Sums.{sum_by-append}
use Rattle.discard_book.specs.Live.{grants, is_grant}
use Rattle.discard_book.specs.declared.entry.Entry.{Entry}
use Rattle.discard_book.specs.declared.entry.Entry.TheVariants.{Grant, Reduced, Purge, Back}
use Rattle.machine.specs.Reduction.{Candidate}
use Rattle.lru_reduce.specs.Reducing.{purge_of}
use Rattle.manager_state.specs.Clients.{grants_to, gives_back, is_granted_to, was_given_back}
use Rattle.manager_state.specs.Keeping.{client_at, Tells}

-- What stands at a number

pub at_end : (table : List ℕ) (client : ℕ) → client_at (length table + 1) (table ++ client ∷ []) ≡ client
at_end table client =
    get_or-append_right (0 ∷ table) (client ∷ []) (length table + 1) (length table + 1) 0 (omega arith) (omega arith)
    ∙ (let first : length table + 1 - (length table + 1) ≡ 0 = omega arith in ap (λ (n : ℕ). get_or (client ∷ []) n 0) first)

at_past : (table : List ℕ) (id : ℕ) → length table < id → client_at id table ≡ 0
at_past table id past = get_or_past (0 ∷ table) id 0 (omega (arith, past))

at_before : (table : List ℕ) (client id : ℕ) → id ≤ length table → client_at id (table ++ client ∷ []) ≡ client_at id table
at_before table client id l = get_or_append_left (0 ∷ table) (client ∷ []) 0 id (omega (arith, l))

at_other : (table : List ℕ) (client id : ℕ) (t : Bool) → nat_lt (length table) id ≡ t → id ≢ length table + 1 → client_at id (table ++ client ∷ []) ≡ client_at id table
at_other table client id true e other =
    let past : length table < id = grind (arith, nat_tests, e) in
    let long : length (table ++ client ∷ []) ≡ length table + 1 = length-append table (client ∷ []) in
    at_past (table ++ client ∷ []) id (omega (arith, past, other, long)) ∙ sym (at_past table id past)
at_other table client id false e other =
    let l : id ≤ length table = grind (arith, nat_tests, e) in
    at_before table client id l

at_none : (table : List ℕ) (id : ℕ) → 1 ≤ id → id ≤ length table → client_at id (set table (id - 1) 0) ≡ 0
at_none table zero low high = absurd (omega (arith, low))
at_none table (suc k) low high =
    let l : k < length table = omega (arith, high) in
    let e : suc k - 1 ≡ k = omega arith in
    rw e (get_or-set_same table k 0 0 l)

at_rest : (table : List ℕ) (id other : ℕ) → 1 ≤ id → other ≢ id → client_at other (set table (id - 1) 0) ≡ client_at other table
at_rest table zero other low apart = absurd (omega (arith, low))
at_rest table (suc k) zero low apart = refl
at_rest table (suc k) (suc j) low apart =
    let e : suc k - 1 ≡ k = omega arith in
    let no : j ≢ k = λ same. apart (ap suc same) in
    rw e (get_or-set_other table k j 0 0 no)

-- Entries that grant nothing and give nothing back

pub record AreQuiet (later : List Entry) : Type 0 where
  pub none : grants later ≡ 0
  pub grants_none : (client id : ℕ) → is_granted_to client id later ≡ false
  pub gives_none : (id : ℕ) → was_given_back id later ≡ false

or_no : (a b : Bool) → b ≡ false → (a || b) ≡ a
or_no true b e = refl
or_no false b e = e

pub granted_on : (client id : ℕ) (entries later : List Entry) → is_granted_to client id later ≡ false → is_granted_to client id (entries ++ later) ≡ is_granted_to client id entries
granted_on client id entries later e = list_any-append (grants_to client id) entries later ∙ or_no _ _ e

pub back_on : (id : ℕ) (entries later : List Entry) → was_given_back id later ≡ false → was_given_back id (entries ++ later) ≡ was_given_back id entries
back_on id entries later e = list_any-append (gives_back id) entries later ∙ or_no _ _ e

grants_on : (entries later : List Entry) → grants (entries ++ later) ≡ grants entries + grants later
grants_on entries later = sum_by-append (λ (e : Entry). cond (is_grant e) 1 0) entries later

pub tells_quiet : (entries later : List Entry) (table : List ℕ) → Tells entries table → AreQuiet later → Tells (entries ++ later) table
tells_quiet entries later table tells quiet =
    let same : grants (entries ++ later) ≡ grants entries = let on = grants_on entries later in let none = quiet.none in omega (arith, on, none) in
    record {
      numbers = tells.numbers ∙ sym same;
      clients = λ client id. tells.clients client id ∙ sym (ap₂ (λ (a b : Bool). a && not b) (granted_on client id entries later (quiet.grants_none client id)) (back_on id entries later (quiet.gives_none id)));
      fresh = λ id above. back_on id entries later (quiet.gives_none id) ∙ tells.fresh id (omega (arith, above, same));
    }

pub purge_quiet : (id known : ℕ) → AreQuiet (Purge id known ∷ [])
purge_quiet id known = record { none = refl; grants_none = λ client n. refl; gives_none = λ n. refl }

-- the purges of a reduction, and its Reduced entry
reduction_none : (limit now after : ℕ) (least : Option ℕ) (cs : List Candidate) → grants (map purge_of cs ++ Reduced limit now after least ∷ []) ≡ 0
reduction_none limit now after least [] = refl
reduction_none limit now after least (c ∷ cs) =
    let rest : grants (map purge_of cs ++ Reduced limit now after least ∷ []) ≡ 0 = reduction_none limit now after least cs in
    let first : grants (purge_of c ∷ []) ≡ 0 = refl in
    grants_on (purge_of c ∷ []) (map purge_of cs ++ Reduced limit now after least ∷ []) ∙ ap₂ (λ (a b : ℕ). a + b) first rest

reduction_grants : (limit now after : ℕ) (least : Option ℕ) (cs : List Candidate) (client id : ℕ) → is_granted_to client id (map purge_of cs ++ Reduced limit now after least ∷ []) ≡ false
reduction_grants limit now after least [] client id = refl
reduction_grants limit now after least (c ∷ cs) client id = reduction_grants limit now after least cs client id

reduction_gives : (limit now after : ℕ) (least : Option ℕ) (cs : List Candidate) (id : ℕ) → was_given_back id (map purge_of cs ++ Reduced limit now after least ∷ []) ≡ false
reduction_gives limit now after least [] id = refl
reduction_gives limit now after least (c ∷ cs) id = reduction_gives limit now after least cs id

pub reduction_quiet : (limit now after : ℕ) (least : Option ℕ) (cs : List Candidate) → AreQuiet (map purge_of cs ++ Reduced limit now after least ∷ [])
reduction_quiet limit now after least cs = record {
  none = reduction_none limit now after least cs;
  grants_none = reduction_grants limit now after least cs;
  gives_none = reduction_gives limit now after least cs;
}

-- A grant

joined : (low at at_old g b same : Bool) (other : Bool) → (low && at_old) ≡ (g && not b) → at ≡ at_old → same ≡ false → (low && at) ≡ ((g || (same && other || false)) && not (b || false))
joined low at at_old g b same other e is apart = rw (is, apart, e) (plain g b)
  where
    plain : (g b : Bool) → (g && not b) ≡ ((g || false) && not (b || false))
    plain true true = refl
    plain true false = refl
    plain false b = refl

none_with : (who : ℕ) → (nat_lt 0 who && (0 == who)) ≡ false
none_with zero = refl
none_with (suc n) = let other : (0 == suc n) ≡ false = grind (arith, nat_tests) in rw other (last_false (nat_lt 0 (suc n)))
  where
    last_false : (a : Bool) → (a && false) ≡ false
    last_false true = refl
    last_false false = refl

never_zero : (new who : ℕ) → 1 ≤ new → (nat_lt 0 who && (new == who)) ≡ (new == who)
never_zero new zero some = let apart : (new == 0) ≡ false = grind (arith, nat_tests, some) in sym apart
never_zero new (suc n) some = let more : nat_lt 0 (suc n) ≡ true = grind (arith, nat_tests) in rw more refl

joined_new : (who new : ℕ) (g b : Bool) → 1 ≤ new → (nat_lt 0 who && (0 == who)) ≡ (g && not b) → b ≡ false → (nat_lt 0 who && (new == who)) ≡ ((g || (true && (new == who) || false)) && not (b || false))
joined_new who new g b some e stays = never_zero new who some ∙ plain g b (new == who) (sym e ∙ none_with who) stays
  where
    plain : (g b t : Bool) → (g && not b) ≡ false → b ≡ false → t ≡ ((g || (true && t || false)) && not (b || false))
    plain g true t gone stays = cc
    plain true false t gone stays = cc
    plain false false true gone stays = refl
    plain false false false gone stays = refl

pub tells_grant : (entries : List Entry) (table : List ℕ) (id client pages limit : ℕ) → Tells entries table → id ≡ grants entries + 1 → 1 ≤ client
    → Tells (entries ++ Grant id client pages limit ∷ []) (table ++ client ∷ [])
tells_grant entries table id client pages limit tells drawn some =
    let later : List Entry = Grant id client pages limit ∷ [] in
    let numbers = tells.numbers in
    let on : grants (entries ++ Grant id client pages limit ∷ []) ≡ grants entries + 1 = grants_on entries (Grant id client pages limit ∷ []) in
    record {
      numbers = length-append table (client ∷ []) ∙ ap (λ n. n + 1) numbers ∙ sym on;
      clients = λ who number. one who number (id == number) refl
          ∙ sym (ap₂ (λ (a b : Bool). a && not b) (list_any-append (grants_to who number) entries (Grant id client pages limit ∷ [])) (list_any-append (gives_back number) entries (Grant id client pages limit ∷ [])));
      fresh = λ number above. back_on number entries (Grant id client pages limit ∷ []) refl ∙ tells.fresh number (omega (arith, above, on));
    }
  where
    one : (who number : ℕ) (t : Bool) → (id == number) ≡ t
        → (nat_lt 0 who && (client_at number (table ++ client ∷ []) == who)) ≡ ((is_granted_to who number entries || (id == number && client == who || false)) && not (was_given_back number entries || false))
    one who number true e =
        let numbers = tells.numbers in
        let same : number ≡ length table + 1 = grind (arith, nat_tests, e, numbers, drawn) in
        let at : client_at number (table ++ client ∷ []) ≡ client = rw same (at_end table client) in
        let old = rw (at_past table number (omega (arith, same))) at (tells.clients who number) in
        rw (at, e) (joined_new who client (is_granted_to who number entries) (was_given_back number entries) some old (tells.fresh number (omega (arith, same, numbers))))
    one who number false e =
        let numbers = tells.numbers in
        let other : number ≢ length table + 1 = grind (arith, nat_tests, e, numbers, drawn) in
        joined (nat_lt 0 who) _ (client_at number table == who) (is_granted_to who number entries) (was_given_back number entries) (id == number) (client == who) (tells.clients who number) (ap (λ n. n == who) (at_other table client number (nat_lt (length table) number) refl other)) e

-- A return

pub tells_back : (entries : List Entry) (table : List ℕ) (id : ℕ) → Tells entries table → 1 ≤ id → id ≤ length table → Tells (entries ++ Back id ∷ []) (set table (id - 1) 0)
tells_back entries table id tells low high =
    let on : grants (entries ++ Back id ∷ []) ≡ grants entries + 0 = grants_on entries (Back id ∷ []) in
    let numbers = tells.numbers in
    record {
      numbers = length-set table (id - 1) 0 ∙ omega (arith, on, numbers);
      clients = λ who number. one who number (id == number) refl
          ∙ sym (ap₂ (λ (a b : Bool). a && not b) (granted_on who number entries (Back id ∷ []) refl) (list_any-append (gives_back number) entries (Back id ∷ [])));
      fresh = λ number above.
          let apart : (id == number) ≡ false = grind (arith, nat_tests, above, on, numbers, high) in
          list_any-append (gives_back number) entries (Back id ∷ []) ∙ ap₂ (λ (a b : Bool). a || (b || false)) (tells.fresh number (omega (arith, above, on))) apart;
    }
  where
    nobody : (who : ℕ) (g b : Bool) → (nat_lt 0 who && (0 == who)) ≡ (g && not (b || (true || false)))
    nobody who g b = none_with who ∙ sym (gone g b)
      where
        gone : (g b : Bool) → (g && not (b || (true || false))) ≡ false
        gone true true = refl
        gone true false = refl
        gone false b = refl

    still : (b : Bool) → (b || (false || false)) ≡ b
    still true = refl
    still false = refl

    one : (who number : ℕ) (t : Bool) → (id == number) ≡ t
        → (nat_lt 0 who && (client_at number (set table (id - 1) 0) == who)) ≡ (is_granted_to who number entries && not (was_given_back number entries || (id == number || false)))
    one who number true e =
        let same : number ≡ id = grind (arith, nat_tests, e) in
        rw (e, same, at_none table id low high) (nobody who (is_granted_to who id entries) (was_given_back id entries))
    one who number false e =
        let other : number ≢ id = grind (arith, nat_tests, e) in
        rw (e, at_rest table id number low other, still (was_given_back number entries)) (tells.clients who number)

-- Nobody's client

pub no_client : (client : ℕ) (t w : Bool) → client ≤ 0 → (nat_lt 0 client && t) ≡ w → nat_lt 0 client ≡ w
no_client zero t w low e = e
no_client (suc n) t w low e = absurd (omega (arith, low))
