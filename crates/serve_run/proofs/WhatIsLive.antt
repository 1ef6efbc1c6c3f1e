-- Whose each live number of a legal book is, and what Backs make of it.
use Rattle.std.proofs.Common.{◌≡◌, ℕ, ◌+◌, ◌==◌, ◌<◌, ◌≤◌, nat_le, Bool, true, false, not, ◌&&◌, ◌||◌, cond, List, [], ◌∷◌, ◌++◌, map, filter, take, length, get_or, refl, sym, ap, ◌∙◌, subst, arith, append_assoc, eq-eqb}
use Rattle.std.specs.List.{list_any}
use Rattle.std.proofs.lemmas.Bool.{and_parts, eqb-true, leb-true, false≢true}
use Rattle.std.proofs.Math.Bool.{or-false}
use Rattle.std.proofs.lemmas.List.{take_more, append-nil, map-append}
use Rattle.std.proofs.lemmas.List.Folds.{list_any-append}
use Rattle.segment.specs.Warded.{Warded}
use Rattle.lru_reduce.specs.Wards.{segments_of}
use Rattle.discard_book.specs.declared.entry.Entry.{Entry}
use Rattle.discard_book.specs.declared.entry.Entry.TheVariants as entry
use Rattle.discard_book.specs.Live.{takes_out, live, has_number, pages_of}
use Rattle.discard_book.specs.Legal.{fits_after, has_room, room, IsLegal}
use Rattle.discard_book.specs.Live.{grants}
use Rattle.units.specs.declared.TheConstants.{MOST_PAGES}
use Rattle.manager_state.specs.Managed.{Managed}
use Rattle.manager_state.specs.Clients.{grants_to, gives_back, is_granted_to, was_given_back, is_with}
use Rattle.manager_state.specs.Calls.{Removes, sides_with}
use Rattle.serve_run.specs.Removing.{GainsBacks, CountsOff, RemovesAll}
use Rattle.serve_run.proofs.NumbersDrawnOnce.{draws, splits, found_at, false_unless, not_live, live_behind, none_before, none_behind, none_out_before, taken_out, each_ends_once}

-- the entry that grants a number to a client draws it
grants_draws : (client id : ℕ) (e : Entry) → grants_to client id e ≡ true → draws id e ≡ true
grants_draws client id (entry.Grant number to pages limit) gives = (and_parts (number == id) (to == client) gives).0
grants_draws client id (entry.Reduced limit now after least) gives = absurd (false≢true gives)
grants_draws client id (entry.Purge number known) gives = absurd (false≢true gives)
grants_draws client id (entry.Back number) gives = absurd (false≢true gives)

-- the entry that gives a number back takes it out
gives_takes : (id : ℕ) (e : Entry) → gives_back id e ≡ true → takes_out e id ≡ true
gives_takes id (entry.Grant number to pages limit) gives = absurd (false≢true gives)
gives_takes id (entry.Reduced limit now after least) gives = absurd (false≢true gives)
gives_takes id (entry.Purge number known) gives = absurd (false≢true gives)
gives_takes id (entry.Back number) gives = gives

-- an entry that draws a number is a Grant of it to some client
pub record IsGrantOf (id : ℕ) (e : Entry) : Type 0 where
  pub client : ℕ
  pub pages : ℕ
  pub limit : ℕ
  pub is : e ≡ entry.Grant id client pages limit

grant_of : (id : ℕ) (e : Entry) → draws id e ≡ true → IsGrantOf id e
grant_of id (entry.Grant number to pages limit) draw =
    record { client = to; pages = pages; limit = limit; is = ap (λ n. entry.Grant n to pages limit) (eqb-true number id draw) }
grant_of id (entry.Reduced limit now after least) draw = absurd (false≢true draw)
grant_of id (entry.Purge number known) draw = absurd (false≢true draw)
grant_of id (entry.Back number) draw = absurd (false≢true draw)

-- a live number was drawn
pub live_drawn : (id : ℕ) (xs : List Entry) → has_number (live xs) id ≡ true → list_any (draws id) xs ≡ true
live_drawn id xs here =
    elim (list_any (draws id) xs) as (λ b. list_any (draws id) xs ≡ b → b ≡ true) [
      | true ↦ λ e. refl
      | false ↦ λ e. sym (not_live id xs e) ∙ here
    ] refl

-- In a legal book a live number was not given back.
pub live_not_back : (entries : List Entry) (id : ℕ) → IsLegal entries → has_number (live entries) id ≡ true → was_given_back id entries ≡ false
live_not_back entries id legal here =
    false_unless (was_given_back id entries) (λ back.
    let s = splits (draws id) entries (live_drawn id entries here) in
    let g = grant_of id s.here s.passes in
    let grant : Entry = entry.Grant id g.client g.pages g.limit in
    let parts : entries ≡ s.before ++ grant ∷ s.behind = s.parts ∙ ap (λ e. s.before ++ e ∷ s.behind) g.is in
    let draw : draws id grant ≡ true = eq-eqb id id refl in
    let front = none_before entries s.before s.behind grant id legal parts draw in
    let behind = none_behind entries s.before s.behind grant id legal parts draw in
    let out_front = none_out_before entries s.before s.behind grant id legal parts draw in
    let there : has_number (live (grant ∷ s.behind)) id ≡ true = sym (live_behind id s.before (grant ∷ s.behind) front) ∙ ap (λ zs. has_number (live zs) id) (sym parts) ∙ here in
    let out_behind = false_unless (list_any (λ e. takes_out e id) s.behind) (λ out.
    false≢true (sym (taken_out id g.client g.pages g.limit s.behind behind out) ∙ there)) in
    let t = splits (gives_back id) entries back in
    let out : list_any (λ e. takes_out e id) entries ≡ true =
    ap (λ zs. list_any (λ e. takes_out e id) zs) t.parts ∙ found_at (λ e. takes_out e id) t.before t.behind t.here (gives_takes id t.here t.passes) in
    let none : list_any (λ e. takes_out e id) entries ≡ false =
    ap (λ zs. list_any (λ e. takes_out e id) zs) parts
    ∙ list_any-append (λ e. takes_out e id) s.before (grant ∷ s.behind)
    ∙ ap (λ b. b || list_any (λ e. takes_out e id) s.behind) out_front
    ∙ out_behind in
    false≢true (sym none ∙ out))

-- The client of a Grant is 1 or more.
somebody : (before : List Entry) (e : Entry) (client id : ℕ) → fits_after before e ≡ true → grants_to client id e ≡ true → 1 ≤ client
somebody before (entry.Grant number to pages limit) client id fits gives =
    let wide = and_parts (number == grants before + 1 && nat_le 1 to && nat_le 1 pages && nat_le pages MOST_PAGES) (has_room before (room limit pages)) fits in
    let few = and_parts (number == grants before + 1 && nat_le 1 to && nat_le 1 pages) (nat_le pages MOST_PAGES) wide.0 in
    let some = and_parts (number == grants before + 1 && nat_le 1 to) (nat_le 1 pages) few.0 in
    let one = and_parts (number == grants before + 1) (nat_le 1 to) some.0 in
    let same : to ≡ client = eqb-true to client (and_parts (number == id) (to == client) gives).1 in
    subst (λ n. 1 ≤ n) same (leb-true 1 to one.1)
somebody before (entry.Reduced limit now after least) client id fits gives = absurd (false≢true gives)
somebody before (entry.Purge number known) client id fits gives = absurd (false≢true gives)
somebody before (entry.Back number) client id fits gives = absurd (false≢true gives)

pub clients_from_one : (entries : List Entry) (client id : ℕ) → IsLegal entries → is_granted_to client id entries ≡ true → 1 ≤ client
clients_from_one entries client id legal granted_to =
    let s = splits (grants_to client id) entries granted_to in
    somebody s.before s.here client id (legal s.before s.here s.behind s.parts) s.passes

-- a live number was granted to somebody
pub live_granted : (entries : List Entry) (id : ℕ) → has_number (live entries) id ≡ true → (client : ℕ) × (is_granted_to client id entries ≡ true)
live_granted entries id here =
    let s = splits (draws id) entries (live_drawn id entries here) in
    let g = grant_of id s.here s.passes in
    let gives : grants_to g.client id (entry.Grant id g.client g.pages g.limit) ≡ true =
    ap (λ b. b && (g.client == g.client)) (eq-eqb id id refl) ∙ eq-eqb g.client g.client refl in (
      g.client,
      ap (is_granted_to g.client id) s.parts
          ∙ found_at (grants_to g.client id) s.before s.behind s.here (ap (grants_to g.client id) g.is ∙ gives),
    )

-- Backs grant nothing
backs_grant_none : (client id : ℕ) (ids : List ℕ) → is_granted_to client id (map entry.Back ids) ≡ false
backs_grant_none client id [] = refl
backs_grant_none client id (x ∷ ids) = backs_grant_none client id ids

pub granted_before : (client id : ℕ) (ids : List ℕ) (before after : List Entry) → GainsBacks ids before after → is_granted_to client id after ≡ is_granted_to client id before
granted_before client id ids before after gains =
    ap (is_granted_to client id) gains
    ∙ list_any-append (grants_to client id) before (map entry.Back ids)
    ∙ ap (λ b. is_granted_to client id before || b) (backs_grant_none client id ids)
    ∙ or-false (is_granted_to client id before)

-- no client of one entry more is greater
pub names_more : (entries : List Entry) (i greatest n most : ℕ) (d : Entry) → i < length entries → greatest ≤ most → n ≤ most
    → ((client id : ℕ) → is_granted_to client id (take i entries) ≡ true → client ≤ greatest)
    → ((client id : ℕ) → grants_to client id (get_or entries i d) ≡ true → client ≤ n)
    → (client id : ℕ) → is_granted_to client id (take (i + 1) entries) ≡ true → client ≤ most
names_more entries i greatest n most d within low high so_far this client id gives =
    let e : Entry = get_or entries i d in
    let parts : (is_granted_to client id (take i entries) || grants_to client id e) ≡ true =
    ap (λ b. is_granted_to client id (take i entries) || b) (sym (or-false (grants_to client id e)))
    ∙ sym (list_any-append (grants_to client id) (take i entries) (e ∷ []))
    ∙ ap (is_granted_to client id) (sym (take_more entries i d within))
    ∙ gives in
    elim (is_granted_to client id (take i entries)) as (λ b. is_granted_to client id (take i entries) ≡ b → (b || grants_to client id e) ≡ true → client ≤ most) [
      | true ↦ λ was some. let least = so_far client id was in omega arith
      | false ↦ λ was some. let least = this client id some in omega arith
    ] refl parts

-- a number among some segments that pass a test is among all of them, and one with it passes
kept_number : (test : Warded → Bool) (sides : List Warded) (id : ℕ) → has_number (segments_of (filter test sides)) id ≡ true
    → (has_number (segments_of sides) id ≡ true) × ((w : Warded) × (w.id ≡ id) × (test w ≡ true))
kept_number test [] id here = absurd (false≢true here)
kept_number test (w ∷ sides) id here =
    elim (test w) as (λ b. test w ≡ b → has_number (segments_of (cond b (w ∷ filter test sides) (filter test sides))) id ≡ true
    → (has_number (segments_of (w ∷ sides)) id ≡ true) × ((v : Warded) × (v.id ≡ id) × (test v ≡ true))) [
      | true ↦ λ passes found.
          elim (id == w.id) as (λ b. (id == w.id) ≡ b → (b || has_number (segments_of (filter test sides)) id) ≡ true
          → ((b || has_number (segments_of sides) id) ≡ true) × ((v : Warded) × (v.id ≡ id) × (test v ≡ true))) [
            | true ↦ λ same some. (refl, (w, sym (eqb-true id w.id same), passes))
            | false ↦ λ other some. kept_number test sides id some
          ] refl found
      | false ↦ λ fails found.
          let rest = kept_number test sides id found in
          (elim (id == w.id) as (λ b. (b || has_number (segments_of sides) id) ≡ true) [ true ↦ refl | false ↦ rest.0 ], rest.1)
    ] refl here

-- numbers of wardens, as Backs
backs_of : (sides : List Warded) → map (λ (w : Warded). entry.Back w.id) sides ≡ map entry.Back (map (λ (w : Warded). w.id) sides)
backs_of [] = refl
backs_of (w ∷ sides) = ap (λ (es : List Entry). entry.Back w.id ∷ es) (backs_of sides)

-- what a removal of one client leaves
pub counts_off : (client removed : ℕ) (old new : Managed) → Removes client removed old new → IsLegal old.entries → live old.entries ≡ segments_of old.sides
    → IsLegal new.entries → live new.entries ≡ segments_of new.sides → CountsOff client old new
counts_off client removed old new r legal_then live_then legal_now live_now =
    let found : (id : ℕ) → has_number (live new.entries) id ≡ true
    → (has_number (segments_of old.sides) id ≡ true) × ((w : Warded) × (w.id ≡ id) × (not (is_with client w.id old.entries) ≡ true)) =
    λ id here. kept_number (λ w. not (is_with client w.id old.entries)) old.sides id
    (ap (λ sides. has_number (segments_of sides) id) (sym r.sides) ∙ ap (λ segments. has_number segments id) (sym live_now) ∙ here) in
    let was : (id : ℕ) → has_number (live new.entries) id ≡ true → has_number (live old.entries) id ≡ true =
    λ id here. ap (λ segments. has_number segments id) live_then ∙ (found id here).0 in
    record {
      ids = map (λ (w : Warded). w.id) (sides_with client old.entries old.sides);
      backs = r.entries ∙ ap (λ es. old.entries ++ es) (backs_of (sides_with client old.entries old.sides));
      limit = r.limit;
      legal = legal_now;
      was_live = was;
      others = λ id here.
          let w = (found id here).1 in
          let apart : not (is_with client id old.entries) ≡ true = subst (λ n. not (is_with client n old.entries) ≡ true) w.1 w.2 in
          let here_still : was_given_back id old.entries ≡ false = live_not_back old.entries id legal_then (was id here) in
          false_unless (is_granted_to client id old.entries) (λ gives.
          let with_it : is_with client id old.entries ≡ true =
          ap (λ b. b && not (was_given_back id old.entries)) gives ∙ ap not here_still in
          false≢true (sym (ap not with_it) ∙ apart));
    }

-- what stands between two removals: the book gained Backs alone, and what is live is of clients to come
pub record HasRemoved (removed last : ℕ) (old new : Managed) : Type 0 where
  pub ids : List ℕ
  pub backs : GainsBacks ids old.entries new.entries
  pub limit : new.limit ≡ old.limit
  pub legal : IsLegal new.entries
  pub named : (client id : ℕ) → is_granted_to client id new.entries ≡ true → client ≤ last
  pub to_come : (client id : ℕ) → has_number (live new.entries) id ≡ true → is_granted_to client id new.entries ≡ true → removed < client

pub none_removed : (last : ℕ) (old : Managed) → IsLegal old.entries → ((client id : ℕ) → is_granted_to client id old.entries ≡ true → client ≤ last) → HasRemoved 0 last old old
none_removed last old legal named = record {
  ids = [];
  backs = sym (append-nil old.entries);
  limit = refl;
  legal = legal;
  named = named;
  to_come = λ client id here gives. let some = clients_from_one old.entries client id legal gives in omega arith;
}

pub one_more_removed : (removed last : ℕ) (old between new : Managed) → HasRemoved removed last old between → CountsOff (removed + 1) between new → HasRemoved (removed + 1) last old new
one_more_removed removed last old between new so_far step =
    let gave : (client id : ℕ) → is_granted_to client id new.entries ≡ true → is_granted_to client id between.entries ≡ true =
    λ client id gives. sym (granted_before client id step.ids between.entries new.entries step.backs) ∙ gives in
    record {
      ids = so_far.ids ++ step.ids;
      backs = step.backs ∙ ap (λ es. es ++ map entry.Back step.ids) so_far.backs ∙ append_assoc old.entries (map entry.Back so_far.ids) (map entry.Back step.ids)
          ∙ ap (λ es. old.entries ++ es) (sym (map-append entry.Back so_far.ids step.ids));
      limit = step.limit ∙ so_far.limit;
      legal = step.legal;
      named = λ client id gives. so_far.named client id (gave client id gives);
      to_come = λ client id here gives.
          let low : removed < client = so_far.to_come client id (step.was_live id here) (gave client id gives) in
          let other : client ≡ removed + 1 → ⊥ = λ same.
          false≢true (sym (step.others id here) ∙ subst (λ n. is_granted_to n id between.entries ≡ true) same (gave client id gives)) in
          omega arith;
    }

-- nothing is live where no number is
none_live : (segments : List (ℕ × ℕ)) → ((id : ℕ) → has_number segments id ≡ true → ⊥) → segments ≡ []
none_live [] never = refl
none_live (segment ∷ more) never = absurd (never segment.0 (ap (λ b. b || has_number more segment.0) (eq-eqb segment.0 segment.0 refl)))

pub all_removed : (last : ℕ) (old new : Managed) → HasRemoved last last old new → RemovesAll old new
all_removed last old new done =
    let none : live new.entries ≡ [] = none_live (live new.entries) (λ id here.
    let whose = live_granted new.entries id here in
    let low = done.named whose.0 id whose.1 in
    let high = done.to_come whose.0 id here whose.1 in
    omega arith) in
    record {
      ids = done.ids;
      backs = done.backs;
      limit = done.limit;
      legal = done.legal;
      none = ap pages_of none;
      once = each_ends_once new.entries done.legal none;
    }
