-- The numbers by client keep each live one, whatever happens to the book.
use Rattle.std.proofs.Common.{◌≡◌, ℕ, ◌+◌, ◌≤◌, ◌==◌, nat_lt, Bool, true, false, not, cond, ◌&&◌, ◌||◌, List, [], ◌∷◌, ◌++◌, length, map, filter, Option, refl, sym, ap, ap₂, subst, ◌∙◌, arith, append_assoc}
use Rattle.std.proofs.lemmas.Bool.Decides.{nat_tests}
use Rattle.std.proofs.lemmas.List.{append-nil}
use Rattle.std.proofs.lemmas.List.Folds.{list_any-append}
use Rattle.machine.specs.Reduction.{Candidate, purged_by, tries}
use Rattle.segment.specs.Warded.{Warded}
use Rattle.block_pool.specs.Stock.{Stock}
use Rattle.discard_book.specs.Live.{live, has_number, grants, takes_out}
use Rattle.discard_book.specs.Log.{Log, AddsEntry}
use Rattle.discard_book.specs.declared.entry.Entry.{Entry}
use Rattle.discard_book.specs.declared.entry.Entry.TheVariants.{Grant, Reduced, Purge, Back}
use Rattle.lru_reduce.specs.Wards.{Wards, candidates_of, segments_of, total_pages}
use Rattle.lru_reduce.specs.Reducing.{ReducesTo, purge_of, gained, is_purged, left_after}
use Rattle.manager_state.specs.Clients.{grants_to, gives_back, is_granted_to, was_given_back, is_with}
use Rattle.manager_state.specs.Keeping.{client_at, Tells, has_pair, KeepsLive}
use Rattle.manager_state.proofs.TableTells.{AreQuiet, granted_on, back_on, purge_quiet, reduction_quiet, tells_grant, at_end}

-- Fewer live segments

pub keeps_fewer : (entries after : List Entry) (numbers : List (ℕ × ℕ)) → ((client id : ℕ) → is_with client id after ≡ true → is_with client id entries ≡ true)
    → ((id : ℕ) → has_number (live after) id ≡ true → has_number (live entries) id ≡ true) → KeepsLive entries numbers → KeepsLive after numbers
keeps_fewer entries after numbers with_before live_before keeps client id w l = keeps client id (with_before client id w) (live_before id l)

-- entries that grant nothing and give nothing back change no client
with_on : (client id : ℕ) (entries later : List Entry) → AreQuiet later → is_with client id (entries ++ later) ≡ is_with client id entries
with_on client id entries later quiet =
    ap₂ (λ (a b : Bool). a && not b) (granted_on client id entries later (quiet.grants_none client id)) (back_on id entries later (quiet.gives_none id))

or_later : (a b : Bool) → b ≡ true → (a || b) ≡ true
or_later true b e = refl
or_later false b e = e

or_both : (a b c : Bool) → (b ≡ true → c ≡ true) → (a || b) ≡ true → (a || c) ≡ true
or_both true b c f e = refl
or_both false b c f e = f e

in_filter : (p : ℕ × ℕ → Bool) (segments : List (ℕ × ℕ)) (id : ℕ) → has_number (filter p segments) id ≡ true → has_number segments id ≡ true
in_filter p [] id h = h
in_filter p (s ∷ segments) id h = by_head (p s) (λ more. in_filter p segments id more) h
  where
    by_head : (t : Bool) → (has_number (filter p segments) id ≡ true → has_number segments id ≡ true) → has_number (cond t (s ∷ filter p segments) (filter p segments)) id ≡ true → has_number (s ∷ segments) id ≡ true
    by_head true rest h = or_both (id == s.0) (has_number (filter p segments) id) (has_number segments id) rest h
    by_head false rest h = or_later (id == s.0) (has_number segments id) (rest h)

-- a Purge or a Back takes one out
live_on : (e : Entry) (log after : Log) (id : ℕ) → live after.entries ≡ filter (λ (s : ℕ × ℕ). not (takes_out e s.0)) (live log.entries) ++ [] → has_number (live after.entries) id ≡ true → has_number (live log.entries) id ≡ true
live_on e log after id is h =
    in_filter (λ (s : ℕ × ℕ). not (takes_out e s.0)) (live log.entries) id
    (subst (λ (ss : List (ℕ × ℕ)). has_number ss id ≡ true) (is ∙ append-nil (filter (λ (s : ℕ × ℕ). not (takes_out e s.0)) (live log.entries))) h)

pub keeps_purge : (id known : ℕ) (log after : Log) (numbers : List (ℕ × ℕ)) → AddsEntry log after (Purge id known) → KeepsLive log.entries numbers → KeepsLive after.entries numbers
keeps_purge id known log after numbers adds keeps =
    keeps_fewer log.entries after.entries numbers
    (λ client n w. sym (with_on client n log.entries (Purge id known ∷ []) (purge_quiet id known)) ∙ ap (λ (es : List Entry). is_with client n es) (sym adds.entries) ∙ w)
    (λ n l. live_on (Purge id known) log after n adds.live l) keeps

back_apart : (g b t : Bool) → (g && not (b || (t || false))) ≡ true → (g && not b) ≡ true
back_apart true true t e = e
back_apart true false t e = refl
back_apart false b t e = e

with_before_back : (client n id : ℕ) (entries : List Entry) → is_with client n (entries ++ Back id ∷ []) ≡ true → is_with client n entries ≡ true
with_before_back client n id entries w =
    back_apart (is_granted_to client n entries) (was_given_back n entries) (id == n)
    (sym (ap₂ (λ (a b : Bool). a && not b) (granted_on client n entries (Back id ∷ []) refl) (list_any-append (gives_back n) entries (Back id ∷ []))) ∙ w)

pub keeps_back : (id : ℕ) (log after : Log) (numbers : List (ℕ × ℕ)) → AddsEntry log after (Back id) → KeepsLive log.entries numbers → KeepsLive after.entries numbers
keeps_back id log after numbers adds keeps =
    keeps_fewer log.entries after.entries numbers
    (λ client n w. with_before_back client n id log.entries (ap (λ (es : List Entry). is_with client n es) (sym adds.entries) ∙ w))
    (λ n l. live_on (Back id) log after n adds.live l) keeps

-- a reduction
left_were : (now : ℕ) (found : List (Candidate × ℕ)) (sides : List Warded) (id : ℕ) → has_number (segments_of (left_after now found sides)) id ≡ true → has_number (segments_of sides) id ≡ true
left_were now found [] id h = h
left_were now found (w ∷ sides) id h = by_head (is_purged found w.id) (λ more. left_were now found sides id more) h
  where
    by_head : (t : Bool) → (has_number (segments_of (left_after now found sides)) id ≡ true → has_number (segments_of sides) id ≡ true)
        → has_number (segments_of (map (gained now found) (cond (not t) (w ∷ filter (λ (v : Warded). not (is_purged found v.id)) sides) (filter (λ (v : Warded). not (is_purged found v.id)) sides)))) id ≡ true
        → has_number (segments_of (w ∷ sides)) id ≡ true
    by_head true rest h = or_later (id == w.id) (has_number (segments_of sides) id) (rest h)
    by_head false rest h = or_both (id == w.id) (has_number (segments_of (left_after now found sides)) id) (has_number (segments_of sides) id) rest h

pub keeps_reduction : (limit now purges : ℕ) (told : Option ℕ) (log after : Log) (wards left : Wards) (pool filled : Stock) (numbers : List (ℕ × ℕ))
    → live log.entries ≡ segments_of wards.sides → ReducesTo limit now told purges wards.sides left.sides log.entries after.entries pool filled → live after.entries ≡ segments_of left.sides
    → KeepsLive log.entries numbers → KeepsLive after.entries numbers
keeps_reduction limit now purges told log after wards left pool filled numbers lives reduces live_left keeps =
    let found : List (Candidate × ℕ) = tries now (candidates_of wards.sides) reduces.words in
    let gone : List Candidate = purged_by found in
    let end : Entry = Reduced limit now (total_pages left.sides) told in
    let split : after.entries ≡ log.entries ++ (map purge_of gone ++ end ∷ []) = reduces.entries ∙ append_assoc log.entries (map purge_of gone) (end ∷ []) in
    keeps_fewer log.entries after.entries numbers
    (λ client n w. sym (with_on client n log.entries (map purge_of gone ++ end ∷ []) (reduction_quiet limit now (total_pages left.sides) told gone)) ∙ ap (λ (es : List Entry). is_with client n es) (sym split) ∙ w)
    (λ n l. ap (λ (ss : List (ℕ × ℕ)). has_number ss n) lives
    ∙ left_were now found wards.sides n (ap (λ (ws : List Warded). has_number (segments_of ws) n) (sym reduces.wardens) ∙ ap (λ (ss : List (ℕ × ℕ)). has_number ss n) (sym live_left) ∙ l)) keeps

-- A new segment

granted_apart : (g b t : Bool) → ((g || (false && t || false)) && not (b || false)) ≡ true → (g && not b) ≡ true
granted_apart true true t e = e
granted_apart true false t e = refl
granted_apart false b t e = e

with_before_grant : (who n id client pages limit : ℕ) (entries : List Entry) → (id == n) ≡ false → is_with who n (entries ++ Grant id client pages limit ∷ []) ≡ true → is_with who n entries ≡ true
with_before_grant who n id client pages limit entries apart w =
    granted_apart (is_granted_to who n entries) (was_given_back n entries) (client == who)
    (rw apart at (sym (ap₂ (λ (a b : Bool). a && not b) (list_any-append (grants_to who n) entries (Grant id client pages limit ∷ [])) (list_any-append (gives_back n) entries (Grant id client pages limit ∷ []))) ∙ w))

latter : (a b : Bool) → (a && b) ≡ true → b ≡ true
latter true b e = e
latter false b e = cc

-- the one that has the new number is the client that was granted it
who_has : (who id client pages limit : ℕ) (entries : List Entry) (table : List ℕ) → Tells entries table → id ≡ grants entries + 1 → 1 ≤ client
    → is_with who id (entries ++ Grant id client pages limit ∷ []) ≡ true → who ≡ client
who_has who id client pages limit entries table tells next some w =
    let numbers = tells.numbers in
    let after = tells_grant entries table id client pages limit tells next some in
    let place : id ≡ length table + 1 = omega (arith, next, numbers) in
    let at : client_at id (table ++ client ∷ []) ≡ client = rw place (at_end table client) in
    let same : (client_at id (table ++ client ∷ []) == who) ≡ true = latter (nat_lt 0 who) _ (after.clients who id ∙ w) in
    grind (arith, nat_tests, same, at)

last_or_before : (id n pages : ℕ) (segments : List (ℕ × ℕ)) → (n == id) ≡ false → has_number (segments ++ (id, pages) ∷ []) n ≡ true → has_number segments n ≡ true
last_or_before id n pages segments apart h =
    (sym (ap (λ (b : Bool). has_number segments n || b) (ap (λ (b : Bool). b || false) apart) ∙ or_none (has_number segments n))) ∙ sym (list_any-append (λ (s : ℕ × ℕ). n == s.0) segments ((id, pages) ∷ [])) ∙ h
  where
    or_none : (a : Bool) → (a || false) ≡ a
    or_none true = refl
    or_none false = refl

pub keeps_grant : (id client pages limit : ℕ) (log after : Log) (table : List ℕ) (numbers : List (ℕ × ℕ)) → Tells log.entries table → id ≡ grants log.entries + 1 → 1 ≤ client
    → AddsEntry log after (Grant id client pages limit) → has_pair numbers client (length table + 1) ≡ true → KeepsLive log.entries numbers → KeepsLive after.entries numbers
keeps_grant id client pages limit log after table numbers tells next some adds comes keeps who n w l = by_number (id == n) refl
  where
    with_after : is_with who n (log.entries ++ Grant id client pages limit ∷ []) ≡ true
    with_after = ap (λ (es : List Entry). is_with who n es) (sym adds.entries) ∙ w

    live_after_it : has_number (filter (λ (s : ℕ × ℕ). true) (live log.entries) ++ (id, pages) ∷ []) n ≡ true
    live_after_it = ap (λ (ss : List (ℕ × ℕ)). has_number ss n) (sym adds.live) ∙ l

    by_number : (t : Bool) → (id == n) ≡ t → has_pair numbers who n ≡ true
    by_number true e =
        let told = tells.numbers in
        let same : n ≡ id = grind (arith, nat_tests, e) in
        let place : n ≡ length table + 1 = omega (arith, same, next, told) in
        let owner : who ≡ client = who_has who id client pages limit log.entries table tells next some (ap (λ (m : ℕ). is_with who m (log.entries ++ Grant id client pages limit ∷ [])) (sym same) ∙ with_after) in
        rw (owner, place) comes
    by_number false e =
        let apart : (n == id) ≡ false = grind (arith, nat_tests, e) in
        keeps who n (with_before_grant who n id client pages limit log.entries e with_after)
        (in_filter (λ (s : ℕ × ℕ). true) (live log.entries) n (last_or_before id n pages (filter (λ (s : ℕ × ℕ). true) (live log.entries)) apart live_after_it))
