-- The entries after one of them went to the front, or left.
use Rattle.std.proofs.Common.{◌≡◌, ℕ, ◌+◌, ◌≤◌, Bool, true, false, not, ◌||◌, cond, List, [], ◌∷◌, length, drop, get_or, Some, None, refl, sym, ap, subst, ◌∙◌, arith}
use Rattle.std.specs.List.{All, AllByRecursion, Contains, sum_by, IsDistinct}
use Rattle.std.specs.Map.{keys_of, lookup, lookup_entry, remove_entry}
use Rattle.std.proofs.lemmas.Bool.{or_parts}
use Rattle.std.proofs.lemmas.List.Elements.{All-head, All-tail, All-cons, All-nil, All-contains, Contains-get_or}
use Rattle.std.proofs.lemmas.List.Sums.{sum_by-cons}
use Rattle.lru.proofs.CallerLemmas.{Contains-lookup_entry, Contains-remove_entry}
use Rattle.tile_source.specs.declared.tile.Tile.{Tile}
use Rattle.span_heap.specs.declared.run.Run.{Run}
use Rattle.span_heap.specs.Run.{has_page}
use Rattle.client.specs.Seen.{Seen}
use Rattle.client.specs.Pieces.{Part, Owns}
use Rattle.tile_cache.specs.Recent.{is_same, has_tile, without}
use Rattle.tile_cache.specs.Cached.{OwnsEntries, AreFree, ShareNoPage, runs_of}
use Rattle.tile_cache.proofs.TilesAskedLast.{StandsOnce, same_is, without_absent}

abbrev pub Entry : Type 0
Entry = Tile × Part

all_from : {X : Type 0} (P : X → Type 0) (xs : List X) → ((x : X) → Contains xs x → P x) → All P xs
all_from P xs each = λ k d within. each (get_or xs k d) (Contains-get_or xs k d within)

-- a sum over the entry that is found and those without it is that over all
pub sum_found : (f : Entry → ℕ) (test : Tile → Bool) (es : List Entry) (e : Entry) → lookup_entry test es ≡ Some e → f e + sum_by f (remove_entry test es) ≡ sum_by f es
sum_found f test [] e found = cc
sum_found f test (x ∷ es) e found = go (test x.0) found (sum_found f test es e)
  where
    go : (b : Bool) → cond b (Some x) (lookup_entry test es) ≡ Some e → (lookup_entry test es ≡ Some e → f e + sum_by f (remove_entry test es) ≡ sum_by f es)
        → f e + sum_by f (cond b es (x ∷ remove_entry test es)) ≡ sum_by f (x ∷ es)
    go true is rest =
        let same : x ≡ e = cc in
        ap (λ y. f y + sum_by f es) (sym same) ∙ sym (sum_by-cons f x es)
    go false is rest = omega (arith, rest is, sum_by-cons f x es, sum_by-cons f x (remove_entry test es))

pub sum_runs : (f : Run → ℕ) (es : List Entry) → sum_by f (runs_of es) ≡ sum_by (λ (e : Entry). f e.1.run) es
sum_runs f [] = refl
sum_runs f (e ∷ es) = omega (arith, sum_runs f es, sum_by-cons f e.1.run (runs_of es), sum_by-cons (λ (e : Entry). f e.1.run) e es)

pub all_found : (P : Entry → Type 0) (test : Tile → Bool) (es : List Entry) (e : Entry) → lookup_entry test es ≡ Some e → All P es → All P (e ∷ remove_entry test es)
all_found P test es e found all =
    All-cons P e (remove_entry test es) (All-contains P es e all (Contains-lookup_entry test es e found).0) (all_from P (remove_entry test es) (λ x there. All-contains P es x all (Contains-remove_entry test es x there)))

all_runs : (P : Run → Type 0) (es : List Entry) → All P (runs_of es) → All (λ (e : Entry). P e.1.run) es
all_runs P [] all = All-nil (λ (e : Entry). P e.1.run)
all_runs P (e ∷ es) all = All-cons (λ (e : Entry). P e.1.run) e es (All-head P e.1.run (runs_of es) all) (all_runs P es (All-tail P e.1.run (runs_of es) all))

pub runs_all : (P : Run → Type 0) (es : List Entry) → All (λ (e : Entry). P e.1.run) es → All P (runs_of es)
runs_all P [] all = All-nil P
runs_all P (e ∷ es) all = All-cons P e.1.run (runs_of es) (All-head (λ (e : Entry). P e.1.run) e es all) (runs_all P es (All-tail (λ (e : Entry). P e.1.run) e es all))

pub runs_found : (P : Run → Type 0) (test : Tile → Bool) (es : List Entry) (e : Entry) → lookup_entry test es ≡ Some e → All P (runs_of es) → All P (runs_of (e ∷ remove_entry test es))
runs_found P test es e found all = runs_all P (e ∷ remove_entry test es) (all_found (λ (e : Entry). P e.1.run) test es e found (all_runs P es all))

pub keys_all : (P : Tile → Type 0) (es : List Entry) → All (λ (e : Entry). P e.0) es → All P (keys_of es)
keys_all P [] all = All-nil P
keys_all P (e ∷ es) all = All-cons P e.0 (keys_of es) (All-head (λ (e : Entry). P e.0) e es all) (keys_all P es (All-tail (λ (e : Entry). P e.0) e es all))

pub all_keys : (P : Tile → Type 0) (es : List Entry) → All P (keys_of es) → All (λ (e : Entry). P e.0) es
all_keys P [] all = All-nil (λ (e : Entry). P e.0)
all_keys P (e ∷ es) all = All-cons (λ (e : Entry). P e.0) e es (All-head P e.0 (keys_of es) all) (all_keys P es (All-tail P e.0 (keys_of es) all))

pub keys_found : (P : Tile → Type 0) (test : Tile → Bool) (es : List Entry) (e : Entry) → lookup_entry test es ≡ Some e → All P (keys_of es) → All P (keys_of (e ∷ remove_entry test es))
keys_found P test es e found all = keys_all P (e ∷ remove_entry test es) (all_found (λ (e : Entry). P e.0) test es e found (all_keys P es all))

once_found : (test : Tile → Bool) (es : List Entry) (e : Entry) → lookup_entry test es ≡ Some e → ShareNoPage (runs_of es) → ShareNoPage (runs_of (e ∷ remove_entry test es))
once_found test es e found once = λ id page.
    let f : Run → ℕ = λ r. cond {A = ℕ} (has_page id page r) 1 0 in
    omega (
      arith,
      once id page,
      sum_runs f es,
      sum_runs f (e ∷ remove_entry test es),
      sum_found (λ (e : Entry). f e.1.run) test es e found,
      sum_by-cons (λ (e : Entry). f e.1.run) e (remove_entry test es),
    )

free_tail : (es : List Entry) → AreFree es → AreFree (drop 1 es)
free_tail [] free = free
free_tail (e ∷ es) free = All-tail (λ (e : Entry). e.1.locked ≡ false) e es free

-- owned entries of which none is locked, with one of them in front
pub owned_found : (client : Seen) (test : Tile → Bool) (es : List Entry) (e : Entry) → lookup_entry test es ≡ Some e → AreFree es → OwnsEntries client es
    → OwnsEntries client (e ∷ remove_entry test es) × AreFree (remove_entry test es)
owned_found client test es e found free owned =
    let rest = All-tail (λ (e : Entry). e.1.locked ≡ false) e (remove_entry test es) (all_found (λ (e : Entry). e.1.locked ≡ false) test es e found free) in (
      record {
        owned = all_found (λ (e : Entry). Owns client e.1) test es e found owned.owned;
        free = rest;
        some = runs_found (λ (run : Run). 1 ≤ run.pages) test es e found owned.some;
        once = once_found test es e found owned.once;
      },
      rest,
    )

-- the key of what is found is the tile
pub found_key : (tile : Tile) (es : List Entry) (e : Entry) → lookup_entry (is_same tile) es ≡ Some e → e.0 ≡ tile
found_key tile es e found = same_is tile e.0 (Contains-lookup_entry (is_same tile) es e found).1

pub found_value : (test : Tile → Bool) (es : List Entry) (e : Entry) → lookup_entry test es ≡ Some e → lookup test es ≡ Some e.1
found_value test [] e found = cc
found_value test (x ∷ es) e found = go (test x.0) found (found_value test es e)
  where
    go : (b : Bool) → cond b (Some x) (lookup_entry test es) ≡ Some e → (lookup_entry test es ≡ Some e → lookup test es ≡ Some e.1) → cond b (Some x.1) (lookup test es) ≡ Some e.1
    go true is rest =
        let same : x ≡ e = cc in
        ap (λ (y : Entry). Some y.1) same
    go false is rest = rest is

pub value_found : (test : Tile → Bool) (es : List Entry) (v : Part) → lookup test es ≡ Some v → (e : Entry) × (lookup_entry test es ≡ Some e) × (e.1 ≡ v)
value_found test [] v found = cc
value_found test (x ∷ es) v found = go (test x.0) found (value_found test es v)
  where
    go : (b : Bool) → cond b (Some x.1) (lookup test es) ≡ Some v → (lookup test es ≡ Some v → (e : Entry) × (lookup_entry test es ≡ Some e) × (e.1 ≡ v))
        → (e : Entry) × (cond b (Some x) (lookup_entry test es) ≡ Some e) × (e.1 ≡ v)
    go true is rest =
        let same : x.1 ≡ v = cc in
        (x, refl, same)
    go false is rest = rest is

-- a tile is among the keys exactly where it is found
pub key_there : (tile : Tile) (es : List Entry) (v : Part) → lookup (is_same tile) es ≡ Some v → has_tile (keys_of es) tile ≡ true
key_there tile [] v found = cc
key_there tile (x ∷ es) v found = go (is_same tile x.0) found (key_there tile es v)
  where
    go : (b : Bool) → cond b (Some x.1) (lookup (is_same tile) es) ≡ Some v → (lookup (is_same tile) es ≡ Some v → has_tile (keys_of es) tile ≡ true) → (b || has_tile (keys_of es) tile) ≡ true
    go true is rest = refl
    go false is rest = rest is

pub key_absent : (tile : Tile) (es : List Entry) → lookup (is_same tile) es ≡ None → has_tile (keys_of es) tile ≡ false
key_absent tile [] none = refl
key_absent tile (x ∷ es) none = go (is_same tile x.0) none (key_absent tile es)
  where
    go : (b : Bool) → cond b (Some x.1) (lookup (is_same tile) es) ≡ None → (lookup (is_same tile) es ≡ None → has_tile (keys_of es) tile ≡ false) → (b || has_tile (keys_of es) tile) ≡ false
    go true is rest = cc
    go false is rest = rest is

pub absent_value : (tile : Tile) (es : List Entry) → has_tile (keys_of es) tile ≡ false → lookup (is_same tile) es ≡ None
absent_value tile [] absent = refl
absent_value tile (x ∷ es) absent =
    let parts = or_parts (is_same tile x.0) (has_tile (keys_of es) tile) absent in
    rw parts.0 (absent_value tile es parts.1)

-- the keys without the entry that is found
pub keys_without : (tile : Tile) (es : List Entry) → StandsOnce tile (keys_of es) → keys_of (remove_entry (is_same tile) es) ≡ without tile (keys_of es)
keys_without tile [] once = refl
keys_without tile (x ∷ es) once = go (is_same tile x.0) refl (keys_without tile es once.1)
  where
    go : (b : Bool) → is_same tile x.0 ≡ b → keys_of (remove_entry (is_same tile) es) ≡ without tile (keys_of es)
        → keys_of (cond b es (x ∷ remove_entry (is_same tile) es)) ≡ cond (not b) (x.0 ∷ without tile (keys_of es)) (without tile (keys_of es))
    go true is rest = sym (without_absent tile (keys_of es) (once.0 is))
    go false is rest = ap (λ ks. x.0 ∷ ks) rest

-- one entry fewer
pub length_without : (tile : Tile) (es : List Entry) (v : Part) → lookup (is_same tile) es ≡ Some v → length (remove_entry (is_same tile) es) + 1 ≡ length es
length_without tile [] v found = cc
length_without tile (x ∷ es) v found = go (is_same tile x.0) found (length_without tile es v)
  where
    go : (b : Bool) → cond b (Some x.1) (lookup (is_same tile) es) ≡ Some v → (lookup (is_same tile) es ≡ Some v → length (remove_entry (is_same tile) es) + 1 ≡ length es)
        → length (cond b es (x ∷ remove_entry (is_same tile) es)) + 1 ≡ length (x ∷ es)
    go true is rest = omega arith
    go false is rest = omega (arith, rest is)

-- distinct keys: the tile stands there once
none_same : (tile key : Tile) (keys : List Tile) → AllByRecursion (λ other. is_same key other ≡ false) keys → is_same tile key ≡ true → has_tile keys tile ≡ false
none_same tile key [] others is = refl
none_same tile key (k ∷ keys) others is =
    let here : is_same tile k ≡ false = subst (λ t. is_same t k ≡ false) (same_is tile key is) others.0 in
    rw here (none_same tile key keys others.1 is)

pub once_distinct : (tile : Tile) (keys : List Tile) → IsDistinct is_same keys → StandsOnce tile keys
unfolding IsDistinct
once_distinct tile [] distinct = tt
once_distinct tile (k ∷ keys) distinct = (λ is. none_same tile k keys distinct.0 is, once_distinct tile keys distinct.1)
