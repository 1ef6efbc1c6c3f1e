-- What is kept of a client changes as what it has.
use Rattle.std.proofs.Common.{◌≡◌, ℕ, ◌==◌, nat_cmp, Bool, true, false, cond, ◌||◌, List, [], ◌∷◌, ◌++◌, length, get_or, Option, Some, None, unwrap_or, refl, sym, ap, ◌∙◌, arith}
use Rattle.std.specs.BTreeMap.{is_at}
use Rattle.std.specs.Map.{lookup}
use Rattle.std.proofs.lemmas.Bool.{eqb-true, eq-eqb}
use Rattle.std.proofs.lemmas.Bool.Decides.{nat_tests}
use Rattle.span_heap.specs.declared.run.Run.{Run}
use Rattle.span_heap.specs.Runs.{front_of}
use Rattle.span_heap.specs.Changes.{whole_of}
use Rattle.script_heaps.specs.declared.heaps.ScriptHeaps.{ScriptHeaps}
use Rattle.script_heaps.specs.declared.heaps.PieceOwner.{PieceOwner}
use Rattle.script_heaps.specs.Holding.{Holding, nothing, lost_all, without_all, adopted, with_piece}
use Rattle.script_heaps.specs.Heaps.{Heaps, with_client, with_next, with_owned}
use Rattle.script_heaps.specs.Showing.{Shows, IsMarked, kept_at}

-- a map's own test of two numbers
at_is : (a b : ℕ) → is_at (nat_cmp a) b ≡ (a == b)
at_is a b = grind (arith, nat_tests)

-- what is found of a client, if anything
abbrev pub found_at : List (ℕ × Holding) → ℕ → Option Holding
found_at clients client = lookup (is_at (nat_cmp client)) clients

-- a client has what is found of it
pub client_found : (kept : ScriptHeaps) (heaps : Heaps) (client : ℕ) (now : Holding) → Some now ≡ found_at kept.clients.entries client → Shows kept heaps → heaps.clients client ≡ now
client_found kept heaps client now found shows = sym (shows.clients client) ∙ ap (λ o. unwrap_or o nothing) (sym found)

-- a client of which nothing is found has nothing
pub client_missing : (kept : ScriptHeaps) (heaps : Heaps) (client : ℕ) → None ≡ found_at kept.clients.entries client → Shows kept heaps → heaps.clients client ≡ nothing
client_missing kept heaps client found shows = sym (shows.clients client) ∙ ap (λ o. unwrap_or o nothing) (sym found)

-- one client has something else
pub clients_changed : (old new : List (ℕ × Holding)) (heaps : Heaps) (client : ℕ) (is : Holding)
    → ((q : ℕ) → found_at new q ≡ cond (is_at (nat_cmp client) q) (Some is) (found_at old q))
    → ((c : ℕ) → kept_at old c ≡ heaps.clients c) → (c : ℕ) → kept_at new c ≡ (with_client heaps client is).clients c
clients_changed old new heaps client is updates were c =
    ap (λ o. unwrap_or o nothing) (updates c ∙ ap (λ b. cond b (Some is) (found_at old c)) (at_is client c)) ∙ by_test (client == c)
  where
    by_test : (b : Bool) → unwrap_or (cond b (Some is) (found_at old c)) nothing ≡ cond b is (heaps.clients c)
    by_test true = refl
    by_test false = were c

pub shows_changed : (old new : ScriptHeaps) (heaps : Heaps) (client : ℕ) (is : Holding)
    → ((q : ℕ) → found_at new.clients.entries q ≡ cond (is_at (nat_cmp client) q) (Some is) (found_at old.clients.entries q))
    → new.owners.items ≡ old.owners.items → new.owned.items ≡ old.owned.items → Shows old heaps → Shows new (with_client heaps client is)
shows_changed old new heaps client is updates owners owned shows =
    record {
      clients = clients_changed old.clients.entries new.clients.entries heaps client is updates shows.clients;
      owners = owners ∙ shows.owners;
      owned = λ id. ap (λ (flags : List Bool). get_or flags id false) owned ∙ shows.owned id;
    }

-- a client that has nothing has nothing
pub shows_same : (old new : ScriptHeaps) (heaps : Heaps) (client : ℕ) (is : Holding) → is ≡ nothing → None ≡ found_at old.clients.entries client
    → new.clients.entries ≡ old.clients.entries → new.owners.items ≡ old.owners.items → new.owned.items ≡ old.owned.items → Shows old heaps → Shows new (with_client heaps client is)
shows_same old new heaps client is none found entries owners owned shows =
    record {
      clients = λ c. ap (λ (cs : List (ℕ × Holding)). kept_at cs c) entries ∙ by_test (client == c) c refl;
      owners = owners ∙ shows.owners;
      owned = λ id. ap (λ (flags : List Bool). get_or flags id false) owned ∙ shows.owned id;
    }
  where
    by_test : (b : Bool) (c : ℕ) → (client == c) ≡ b → kept_at old.clients.entries c ≡ cond b is (heaps.clients c)
    by_test true c test = ap (kept_at old.clients.entries) (sym (eqb-true client c test)) ∙ (ap (λ o. unwrap_or o nothing) (sym found) ∙ sym none)
    by_test false c test = shows.clients c

-- nothing changed
pub shows_kept : (old new : ScriptHeaps) (heaps : Heaps) → new.clients.entries ≡ old.clients.entries → new.owners.items ≡ old.owners.items → new.owned.items ≡ old.owned.items → Shows old heaps → Shows new heaps
shows_kept old new heaps entries owners owned shows =
    record {
      clients = λ c. ap (λ (cs : List (ℕ × Holding)). kept_at cs c) entries ∙ shows.clients c;
      owners = owners ∙ shows.owners;
      owned = λ id. ap (λ (flags : List Bool). get_or flags id false) owned ∙ shows.owned id;
    }

-- what has nothing loses nothing
pub nothing_lost : (ids : List ℕ) → lost_all nothing ids ≡ nothing
nothing_lost [] = refl
nothing_lost (id ∷ ids) = nothing_lost ids

pub nothing_left : (ids : List ℕ) → without_all nothing ids ≡ nothing
nothing_left [] = refl
nothing_left (id ∷ ids) = nothing_left ids

-- a segment came to a client, with the next piece
pub shows_adopted : (mid new : ScriptHeaps) (heaps : Heaps) (client id whole pages place : ℕ) → new.clients.entries ≡ mid.clients.entries → new.owners.items ≡ mid.owners.items ++ record { client = client; place = place } ∷ []
    → IsMarked mid.owned.items new.owned.items id → place ≡ length (heaps.clients client).pieces
    → Shows mid (with_client heaps client (with_piece (adopted (heaps.clients client) id whole pages) (front_of (whole_of id whole) pages)))
    → Shows new (with_next (with_owned (with_client heaps client (adopted (heaps.clients client) id whole pages)) id) client (front_of (whole_of id whole) pages))
shows_adopted mid new heaps client id whole pages place entries owners marked placed shows =
    let same : (client == client) ≡ true = eq-eqb client client refl in
    let now : Holding = adopted (heaps.clients client) id whole pages in
    record {
      clients = λ c. ap (λ (cs : List (ℕ × Holding)). kept_at cs c) entries ∙ (shows.clients c ∙ by_test (client == c) (heaps.clients c) now (front_of (whole_of id whole) pages) same);
      owners = owners
          ∙ (ap (λ (xs : List PieceOwner). xs ++ record { client = client; place = place } ∷ []) shows.owners
          ∙ ap (λ (n : ℕ). heaps.owners ++ record { client = client; place = n } ∷ []) (placed ∙ sym (ap (λ (t : Bool). length (cond t now (heaps.clients client)).pieces) same)));
      owned = λ other. marked other ∙ ap (λ (b : Bool). id == other || b) (shows.owned other);
    }
  where
    by_test : (b : Bool) (old is : Holding) (run : Run) → (client == client) ≡ true → cond b (with_piece is run) old ≡ cond b (with_piece (cond (client == client) is (heaps.clients client)) run) (cond b is old)
    by_test true old is run same = ap (λ (t : Bool). with_piece (cond t is (heaps.clients client)) run) (sym same)
    by_test false old is run same = refl
