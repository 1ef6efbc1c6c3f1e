-- What a run comes to, of what its workers ended with and of the removal of its clients.
use Rattle.std.proofs.Common.{◌≡◌, ℕ, ◌+◌, ◌-◌, ◌≤◌, Bool, true, false, ◌&&◌, cond, List, [], ◌∷◌, ◌++◌, map, refl, sym, ap, ◌∙◌, subst, arith, append_assoc}
use Rattle.std.specs.List.{count_by}
use Rattle.std.proofs.lemmas.List.Sums.{sum_by-append}
use Rattle.discard_book.specs.declared.entry.Entry.{Entry}
use Rattle.discard_book.specs.declared.entry.Entry.TheVariants as entry
use Rattle.discard_book.specs.Live.{is_grant}
use Rattle.tile_source.specs.Tile.{reply}
use Rattle.manager_state.specs.Managed.{Managed}
use Rattle.manager.specs.Tokens.{Tokens}
use Rattle.manager.specs.Grows.{carries, is_round, all_carry, Grows}
use Rattle.serve_texts.specs.Reply.{tiles_of}
use Rattle.serve_session.specs.declared.served.ServedClient.{ServedClient}
use Rattle.serve_session.specs.Running.{ServingValue}
use Rattle.serve_session.specs.Tiling.{replies_to}
use Rattle.serve_session.specs.Served.{AreServed, all_grants}
use Rattle.serve_run.specs.Removing.{GainsBacks, RemovesAll}
use Rattle.serve_run.specs.Working.{HasTaken}
use Rattle.serve_run.specs.Served.{Serves}

count_by-append : (test : Entry → Bool) (xs ys : List Entry) → count_by test (xs ++ ys) ≡ count_by test xs + count_by test ys
count_by-append test xs ys = sum_by-append (λ (e : Entry). cond (test e) 1 0) xs ys

all_carry-append : (limit : ℕ) (xs ys : List Entry) → all_carry limit xs ≡ true → all_carry limit ys ≡ true → all_carry limit (xs ++ ys) ≡ true
all_carry-append limit [] ys first second = second
all_carry-append limit (x ∷ xs) ys first second =
    elim (carries limit x) as (λ b. (b && all_carry limit xs) ≡ true → (b && all_carry limit (xs ++ ys)) ≡ true)
    [ true ↦ λ rest. all_carry-append limit xs ys rest second | false ↦ λ none. none ]
    first

backs_carry : (limit : ℕ) (ids : List ℕ) → all_carry limit (map entry.Back ids) ≡ true
backs_carry limit [] = refl
backs_carry limit (id ∷ ids) = backs_carry limit ids

zero_more : (n : ℕ) → 0 + n ≡ n
zero_more n = omega arith

-- no Back passes such a test
backs_count : (test : Entry → Bool) (none : (id : ℕ) → test (entry.Back id) ≡ false) (ids : List ℕ) → count_by test (map entry.Back ids) ≡ 0
backs_count test none [] = refl
backs_count test none (id ∷ ids) = let rest : List Entry = map entry.Back ids in
    count_by-append test (entry.Back id ∷ []) rest ∙ ap (λ (b : Bool). (0 + cond {A = ℕ} b 1 0) + count_by test rest) (none id) ∙ zero_more (count_by test rest) ∙ backs_count test none ids

-- A book that grew has grown so too where it gained Backs.
grows_backs : (limit a b : ℕ) (ids : List ℕ) (xs ys zs : List Entry) → Grows limit a b xs ys → GainsBacks ids ys zs → Grows limit a b xs zs
grows_backs limit a b ids xs ys zs grown gained =
    let backs : List Entry = map entry.Back ids in
    record {
      more = grown.more ++ backs;
      follows = gained ∙ ap (λ (es : List Entry). es ++ backs) grown.follows ∙ append_assoc xs grown.more backs;
      carry = all_carry-append limit grown.more backs grown.carry (backs_carry limit ids);
      granted_is = omega (arith, count_by-append is_grant grown.more backs, backs_count is_grant (λ id. refl) ids, grown.granted_is);
      rounds_are = omega (arith, count_by-append (is_round limit) grown.more backs, backs_count (is_round limit) (λ id. refl) ids, grown.rounds_are);
    }

grows_is : (l m a b p q : ℕ) (xs ws ys : List Entry) → Grows l a b xs ys → l ≡ m → a ≡ p → b ≡ q → xs ≡ ws → Grows m p q ws ys
grows_is l m a b p q xs ws ys grown limit_is granted_is rounds_are before =
    record {
      more = grown.more;
      follows = grown.follows ∙ ap (λ (es : List Entry). es ++ grown.more) before;
      carry = subst (λ (n : ℕ). all_carry n grown.more ≡ true) limit_is grown.carry;
      granted_is = grown.granted_is ∙ granted_is;
      rounds_are = subst (λ (n : ℕ). q ≤ count_by (is_round n) grown.more) limit_is (subst (λ (n : ℕ). n ≤ count_by (is_round l) grown.more) rounds_are grown.rounds_are);
    }

-- The run was served: its clients by their workers, and nothing is granted once all clients are removed.
pub run_served : (run : ServingValue) (start shares : Tokens) (clients : List ServedClient)
    (limit : ℕ) (handed : List Entry) (finished ended : Managed) (replies : List ℕ) (ends : List ServedClient)
    → HasTaken run run.cfg.clients start shares clients
    → start.grants ≡ 0 → start.rounds ≡ run.cfg.rounds
    → run.tiling.side ≡ run.cfg.side
    → limit ≡ run.cfg.limit → handed ≡ []
    → finished.limit ≡ limit → Grows limit shares.grants shares.rounds handed finished.entries
    → RemovesAll finished ended
    → replies ≡ replies_to run.tiling (tiles_of run.requests)
    → ends ≡ clients
    → Serves run.cfg run.tiling.image run.requests (record { replies = replies; clients = ends; state = ended })
run_served run start shares clients limit handed finished ended replies ends taken no_grants all_rounds side limit_is handed_is limited grown removed replies_are ends_are =
    record {
      replies = replies_are ∙ ap (λ (n : ℕ). reply run.tiling.image n (tiles_of run.requests)) side;
      clients = subst (λ (cs : List ServedClient). AreServed run.cfg run.requests cs) (sym ends_are) (record { all = taken.clients_are; each = taken.served });
      limit = removed.limit ∙ limited ∙ limit_is;
      legal = removed.legal;
      grown = subst (λ (cs : List ServedClient). Grows run.cfg.limit (all_grants cs) run.cfg.rounds [] ended.entries) (sym ends_are)
          (grows_is limit run.cfg.limit shares.grants shares.rounds (all_grants clients) run.cfg.rounds handed [] ended.entries
          (grows_backs limit shares.grants shares.rounds removed.ids handed finished.entries ended.entries grown removed.backs)
          limit_is
          (taken.grants ∙ ap (λ (n : ℕ). n + all_grants clients) no_grants ∙ zero_more (all_grants clients))
          (taken.rounds ∙ all_rounds)
          handed_is);
      none = removed.none;
      once = removed.once;
    }

-- what was taken in of all clients, when the shares before were all but theirs
pub taken_from : (run : ServingValue) (n whole : ℕ) (start now : Tokens) (clients : List ServedClient)
    → HasTaken run n start now clients → start.parts + n ≡ whole → start.grants ≡ 0 → start.rounds ≡ run.cfg.rounds
    → HasTaken run n (record { parts = whole - n; grants = 0; rounds = run.cfg.rounds }) now clients
taken_from run n whole start now clients taken parts_are no_grants all_rounds =
    record {
      clients_are = taken.clients_are;
      served = taken.served;
      parts = omega (arith, taken.parts, parts_are);
      grants = omega (arith, taken.grants, no_grants);
      few = taken.few;
      rounds = taken.rounds ∙ all_rounds;
    }
