-- The accounts of a cache through its steps, and what they tell in the end.
use Rattle.std.proofs.Common.{◌≡◌, ℕ, ◌+◌, ◌*◌, ◌/◌, ◌<◌, ◌≤◌, ◌==◌, Bool, true, false, ◌&&◌, ◌||◌, cond, max, List, [], ◌∷◌, ◌++◌, length, map, get_or, refl, sym, ap, subst, ◌∙◌, inl, inr, arith}
use Rattle.std.specs.List.{All, sum_by, count_by, list_any}
use Rattle.std.specs.Prelude.{nat_lt, nat_le}
use Rattle.std.proofs.lemmas.Bool.{eqb-true, eq-eqb, le-ltb, ltb-false, le-leb, and_from, or_left, or_right, or_parts, cases_lt, false_from_ne_true}
use Rattle.std.proofs.lemmas.Nat.{le-div, mul-le}
use Rattle.std.proofs.lemmas.List.Elements.{All-head, All-tail, All-cons}
use Rattle.std.proofs.lemmas.List.Folds.{list_any-append}
use Rattle.std.proofs.lemmas.List.Sums.{sum_by-cons, sum_by-append, sum_by-le, get_or-le-sum_by}
use Rattle.std.proofs.lemmas.Option.{slice_get_within, get_or_from_slice_get}
use Rattle.units.specs.Count.{next_count}
use Rattle.segment.specs.Owned.{Owned}
use Rattle.span_heap.specs.declared.run.Run.{Run}
use Rattle.span_heap.specs.Run.{has_page}
use Rattle.client.specs.Gone.{Includes, has_side}
use Rattle.client.specs.Lease.{Lease}
use Rattle.client.specs.Seen.{Seen, IsUnknown, is_gone, numbers_of}
use Rattle.client.specs.Pieces.{Part, Owns, AreApart, FitsIn}
use Rattle.client.specs.Granting.{LAST_COUNT, granted_pages}
use Rattle.tile_cache.specs.Cached.{ShareNoPage}
use Rattle.tile_cache.specs.Bound.{room_in}
use Rattle.tile_cache.specs.declared.counts.Counts.{Counts}
use Rattle.tile_cache.specs.declared.counts.Shown.{Shown}
use Rattle.tile_cache.specs.declared.counts.Shown.TheVariants.{Kept, First, Rebuilt, Again}
use Rattle.tile_cache.specs.Shown.{counted}
use Rattle.tile_cache.specs.Accounts.{over_segments, misfits, Fits, IsAccounted, SameSegments, AreCounts, makes_of}
use Rattle.tile_cache.proofs.ClientSteps.{has_counted}
use Rattle.tile_cache.proofs.Segments.{OneMore}
use Rattle.tile_cache.proofs.Room.{holds, room_for}

all_none : {X : Type 0} (f : X → ℕ) (xs : List X) → sum_by f xs ≡ 0 → All (λ x. f x ≡ 0) xs
all_none f xs none = λ k d within. omega (arith, get_or-le-sum_by f xs k d within, none)

none_all : {X : Type 0} (f : X → ℕ) (xs : List X) → All (λ x. f x ≡ 0) xs → sum_by f xs ≡ 0
none_all f xs all = omega (arith, sum_by-le f 0 xs (λ k d within. omega (arith, all k d within)))

-- these runs are among the others, as often
abbrev pub AreAmong : List Run → List Run → Type 0
AreAmong few all = (f : Run → ℕ) → sum_by f few ≤ sum_by f all

fits_moved : (old new : Seen) (runs : List Run) → SameSegments old new → All (Fits old) runs → All (Fits new) runs
fits_moved old new runs same fit = λ k d within. same.sums (misfits (get_or runs k d)) ∙ fit k d within

fits_among : (client : Seen) (few all : List Run) → AreAmong few all → All (Fits client) all → All (Fits client) few
fits_among client few all among fit =
    let f : Run → ℕ = λ run. over_segments (misfits run) client in
    all_none f few (omega (arith, among f, none_all f all fit))

abbrev here : ℕ → ℕ → Run → ℕ
here id page run = cond {A = ℕ} (has_page id page run) 1 0

-- the client made a step, and some entries left
pub accounted_moved : (pages standard grants rebuilt makes : ℕ) (old new : Seen) (few all : List Run) → SameSegments old new → AreAmong few all → IsAccounted pages standard old grants rebuilt makes all → IsAccounted pages standard new grants rebuilt makes few
accounted_moved pages standard grants rebuilt makes old new few all same among was = record {
  lost = was.lost;
  gone = λ k d within. same.gone (get_or was.lost k d).segment (was.gone k d within);
  sized = was.sized;
  lost_fit = fits_moved old new was.lost same was.lost_fit;
  fit = fits_among new few all among (fits_moved old new all same was.fit);
  once = λ id page. omega (arith, was.once id page, sum_by-append (here id page) was.lost all, sum_by-append (here id page) was.lost few, among (here id page));
  counted = was.counted;
  room = λ low. rw (same.sums (λ id all. all / pages)) (was.room low);
  granted = was.granted;
  name = same.name ∙ was.name;
}

-- a piece in a segment that is gone was lost
pub accounted_lost : (pages standard grants rebuilt makes : ℕ) (client : Seen) (run : Run) (others : List Run) → is_gone client run.segment ≡ true → run.pages ≡ pages
    → IsAccounted pages standard client grants rebuilt makes (run ∷ others) → IsAccounted pages standard client grants (rebuilt + 1) makes others
accounted_lost pages standard grants rebuilt makes client run others gone size was = record {
  lost = run ∷ was.lost;
  gone = All-cons (λ (run : Run). is_gone client run.segment ≡ true) run was.lost gone was.gone;
  sized = All-cons (λ (run : Run). run.pages ≡ pages) run was.lost size was.sized;
  lost_fit = All-cons (Fits client) run was.lost (All-head (Fits client) run others was.fit) was.lost_fit;
  fit = All-tail (Fits client) run others was.fit;
  once = λ id page. omega (
    arith,
    was.once id page,
    sum_by-append (here id page) was.lost (run ∷ others),
    sum_by-cons (here id page) run others,
    sum_by-cons (here id page) run (was.lost ++ others),
    sum_by-append (here id page) was.lost others,
  );
  counted = omega (arith, was.counted);
  room = was.room;
  granted = was.granted;
  name = was.name;
}

-- other counts
pub accounted_counts : (pages standard grants rebuilt makes rebuilt' makes' : ℕ) (client : Seen) (runs : List Run) → rebuilt' ≤ rebuilt → grants ≤ makes'
    → IsAccounted pages standard client grants rebuilt makes runs → IsAccounted pages standard client grants rebuilt' makes' runs
accounted_counts pages standard grants rebuilt makes rebuilt' makes' client runs fewer enough was = record {
  lost = was.lost;
  gone = was.gone;
  sized = was.sized;
  lost_fit = was.lost_fit;
  fit = was.fit;
  once = was.once;
  counted = omega (arith, was.counted, fewer);
  room = was.room;
  granted = enough;
  name = was.name;
}

-- a run lies within its segment
misfit_none : (run : Run) (id pages : ℕ) → (id ≡ run.segment → run.first + run.pages ≤ pages) → misfits run id pages ≡ 0
misfit_none run id pages fits = go (id == run.segment) refl
  where
    go : (b : Bool) → (id == run.segment) ≡ b → cond {A = ℕ} (b && nat_lt pages (run.first + run.pages)) 1 0 ≡ 0
    go true is = rw (le-ltb pages (run.first + run.pages) (fits (eqb-true id run.segment is))) refl
    go false is = refl

fits_in : (client : Seen) (run : Run) → FitsIn client run → Fits client run
fits_in client run fits =
    omega (
      arith,
      none_all (λ (l : Lease). misfits run l.side.id l.side.pages) client.leases (λ k d within. misfit_none run (get_or client.leases k d).side.id (get_or client.leases k d).side.pages (fits.leases k d within)),
      none_all (λ (s : Owned). misfits run s.id s.pages) client.gone (λ k d within. misfit_none run (get_or client.gone k d).id (get_or client.gone k d).pages (fits.gone k d within)),
    )

-- no page of a run is in those that it shares none with
none_apart : (run : Run) (runs : List Run) (id page : ℕ) → has_page id page run ≡ true → All (AreApart run) runs → count_by (has_page id page) runs ≡ 0
none_apart run runs id page has apart = none_all (here id page) runs (λ k d within.
    let away : has_page id page (get_or runs k d) ≡ false = rw has at (apart k d within id page) in
    rw away refl)

once_with : (run : Run) (lost runs : List Run) → All (AreApart run) lost → All (AreApart run) runs → ShareNoPage (lost ++ runs) → ShareNoPage (lost ++ run ∷ runs)
once_with run lost runs lost_apart apart once = λ id page. go id page (has_page id page run) refl
  where
    go : (id page : ℕ) (b : Bool) → has_page id page run ≡ b → count_by (has_page id page) (lost ++ run ∷ runs) ≤ 1
    go id page true has =
        let one : here id page run ≡ 1 = rw has refl in
        omega (arith, one, none_apart run lost id page has lost_apart, none_apart run runs id page has apart, sum_by-append (here id page) lost (run ∷ runs), sum_by-cons (here id page) run runs)
    go id page false has =
        let none : here id page run ≡ 0 = rw has refl in
        omega (arith, none, once id page, sum_by-append (here id page) lost (run ∷ runs), sum_by-append (here id page) lost runs, sum_by-cons (here id page) run runs)

-- a new piece shares no page with a piece of the entries, nor with one that is lost
pub record IsBeside (old : Seen) (run : Run) (runs : List Run) : Type 0 where
  pub gone : (other : Run) → is_gone old other.segment ≡ true → AreApart run other
  pub apart : All (AreApart run) runs

-- a new piece came among the segments that were known
pub accounted_found : (pages standard grants rebuilt makes : ℕ) (old new : Seen) (run : Run) (runs : List Run) → SameSegments old new → FitsIn new run → IsBeside old run runs
    → IsAccounted pages standard old grants rebuilt makes runs → IsAccounted pages standard new grants rebuilt makes (run ∷ runs)
accounted_found pages standard grants rebuilt makes old new run runs same fits beside was = record {
  lost = was.lost;
  gone = λ k d within. same.gone (get_or was.lost k d).segment (was.gone k d within);
  sized = was.sized;
  lost_fit = fits_moved old new was.lost same was.lost_fit;
  fit = All-cons (Fits new) run runs (fits_in new run fits) (fits_moved old new runs same was.fit);
  once = once_with run was.lost runs (λ k d within. beside.gone (get_or was.lost k d) (was.gone k d within)) beside.apart was.once;
  counted = was.counted;
  room = λ low. rw (same.sums (λ id all. all / pages)) (was.room low);
  granted = was.granted;
  name = same.name ∙ was.name;
}

-- 1 for a segment of this number
abbrev pub present : ℕ → ℕ → ℕ → ℕ
present id one pages = cond {A = ℕ} (one == id) 1 0

pub known_gone : (client : Seen) (id : ℕ) → is_gone client id ≡ true → 1 ≤ over_segments (present id) client
known_gone client id gone = omega (arith, has_counted client.gone id gone)

pub known_owned : (client : Seen) (part : Part) → Owns client part → 1 ≤ over_segments (present part.run.segment) client
known_owned client part owns =
    elim owns.there [
      | inl live ↦
          let tell : Lease → ℕ = λ (l : Lease). present part.run.segment l.side.id l.side.pages in
          let read = get_or_from_slice_get client.leases live.stands.place live.stands.lease live.stands.lease live.stands.stands in
          let one : tell live.stands.lease ≡ 1 = rw (eq-eqb live.stands.lease.side.id part.run.segment live.stands.number) refl in
          omega (arith, get_or-le-sum_by tell client.leases live.stands.place live.stands.lease (slice_get_within client.leases live.stands.place live.stands.lease live.stands.stands), ap tell read, one)
      | inr dead ↦ known_gone client part.run.segment dead.gone
    ]

none_present : {X : Type 0} (f : X → ℕ) (id : ℕ) (xs : List X) → list_any (λ n. n == id) (map f xs) ≡ false → sum_by (λ x. cond {A = ℕ} (f x == id) 1 0) xs ≡ 0
none_present f id [] none = refl
none_present f id (x ∷ xs) none =
    let parts = or_parts (f x == id) (list_any (λ n. n == id) (map f xs)) none in
    let away : cond {A = ℕ} (f x == id) 1 0 ≡ 0 = rw parts.0 refl in
    omega (arith, away, none_present f id xs parts.1, sum_by-cons (λ x. cond {A = ℕ} (f x == id) 1 0) x xs)

none_unknown : (client : Seen) (id : ℕ) → IsUnknown id client → over_segments (present id) client ≡ 0
none_unknown client id unknown =
    let parts = or_parts (list_any (λ n. n == id) (numbers_of client.leases)) (list_any (λ n. n == id) (map (λ (s : Owned). s.id) client.gone)) (sym (list_any-append (λ n. n == id) (numbers_of client.leases) (map (λ (s : Owned). s.id) client.gone)) ∙ unknown) in
    omega (arith, none_present (λ (l : Lease). l.side.id) id client.leases parts.0, none_present (λ (s : Owned). s.id) id client.gone parts.1)

-- each run is in a segment that the client knows
abbrev pub AreKnown : Seen → List Run → Type 0
AreKnown client runs = All (λ (run : Run). 1 ≤ over_segments (present run.segment) client) runs

fits_grown : (id size : ℕ) (old new : Seen) (runs : List Run) → OneMore id size old new → IsUnknown id old → AreKnown old runs → All (Fits old) runs → All (Fits new) runs
fits_grown id size old new runs one unknown known fit = λ k d within.
    let other : id ≡ (get_or runs k d).segment → ⊥ = λ same. absurd (omega (arith, known k d within, subst (λ n. over_segments (present n) old ≡ 0) same (none_unknown old id unknown))) in
    let more = misfit_none (get_or runs k d) id size (λ same. absurd (other same)) in
    omega (arith, one.sums (misfits (get_or runs k d)), more, fit k d within)

-- a new piece came with a segment
pub accounted_grown : (pages standard grants rebuilt makes grants' makes' id : ℕ) (first old new : Seen) (run : Run) (runs : List Run) → SameSegments first old → OneMore id (granted_pages old pages) old new → IsUnknown id old → AreKnown old runs
    → FitsIn new run → IsBeside first run runs → grants' ≡ next_count grants → grants' ≤ makes'
    → IsAccounted pages standard first grants rebuilt makes runs → IsAccounted pages standard new grants' rebuilt makes' (run ∷ runs)
accounted_grown pages standard grants rebuilt makes grants' makes' id first old new run runs same one unknown known fits beside more enough was = record {
  lost = was.lost;
  gone = λ k d within. one.gone (get_or was.lost k d).segment (same.gone (get_or was.lost k d).segment (was.gone k d within));
  sized = was.sized;
  lost_fit = fits_grown id (granted_pages old pages) old new was.lost one unknown (λ k d within. known_gone old (get_or was.lost k d).segment (same.gone (get_or was.lost k d).segment (was.gone k d within))) (fits_moved first old was.lost same was.lost_fit);
  fit = All-cons (Fits new) run runs (fits_in new run fits) (fits_grown id (granted_pages old pages) old new runs one unknown known (fits_moved first old runs same was.fit));
  once = once_with run was.lost runs (λ k d within. beside.gone (get_or was.lost k d) (was.gone k d within)) beside.apart was.once;
  counted = was.counted;
  room = λ low.
      let below : grants < LAST_COUNT = omega (arith, low, more) in
      let rose : grants' ≡ grants + 1 = omega (arith, below, more) in
      let size : granted_pages old pages / pages ≡ max standard pages / pages = ap (λ n. n / pages) (omega (arith, was.name, same.name)) in
      let next : (grants + 1) * (max standard pages / pages) ≡ grants * (max standard pages / pages) + max standard pages / pages = omega arith in
      rw rose (omega (arith, one.sums (λ id all. all / pages), same.sums (λ id all. all / pages), was.room below, size, next));
  granted = enough;
  name = one.name ∙ (same.name ∙ was.name);
}

-- the run lies within one of the segments, where one has its number and none of that number ends before it
holds_one : (run : Run) (sides : List Owned) → has_side sides run.segment ≡ true → sum_by (λ (s : Owned). misfits run s.id s.pages) sides ≡ 0 → list_any (λ (s : Owned). holds s run) sides ≡ true
holds_one run [] has none = cc
holds_one run (s ∷ sides) has none =
    go (s.id == run.segment) refl has (holds_one run sides) (omega (arith, none, sum_by-cons (λ (s : Owned). misfits run s.id s.pages) s sides)) (omega (arith, none, sum_by-cons (λ (s : Owned). misfits run s.id s.pages) s sides))
  where
    go : (b : Bool) → (s.id == run.segment) ≡ b → (b || has_side sides run.segment) ≡ true
        → (has_side sides run.segment ≡ true → sum_by (λ (s : Owned). misfits run s.id s.pages) sides ≡ 0 → list_any (λ (s : Owned). holds s run) sides ≡ true)
        → misfits run s.id s.pages ≡ 0 → sum_by (λ (s : Owned). misfits run s.id s.pages) sides ≡ 0
        → (holds s run || list_any (λ (s : Owned). holds s run) sides) ≡ true
    go true is has rest first others =
        let short : nat_lt s.pages (run.first + run.pages) ≡ false = false_from_ne_true _ (λ less.
        let one : misfits run s.id s.pages ≡ 1 = rw (is, less) refl in
        absurd (omega (arith, one, first))) in
        or_left (holds s run) (list_any (λ (s : Owned). holds s run) sides) (and_from (s.id == run.segment) (nat_le (run.first + run.pages) s.pages) is (le-leb (run.first + run.pages) s.pages (ltb-false s.pages (run.first + run.pages) short)))
    go false is has rest first others = or_right (holds s run) (list_any (λ (s : Owned). holds s run) sides) (rest has others)

sum_sides : (f : Owned → ℕ) (leases : List Lease) → sum_by f (map (λ (l : Lease). l.side) leases) ≡ sum_by (λ (l : Lease). f l.side) leases
sum_sides f [] = refl
sum_sides f (l ∷ leases) = omega (arith, sum_sides f leases, sum_by-cons f l.side (map (λ (l : Lease). l.side) leases), sum_by-cons (λ (l : Lease). f l.side) l leases)

abbrev sides_of : Seen → List Owned
sides_of client = map (λ (l : Lease). l.side) client.leases ++ client.gone

over_sides : (tells : ℕ → ℕ → ℕ) (client : Seen) → sum_by (λ (s : Owned). tells s.id s.pages) (sides_of client) ≡ over_segments tells client
over_sides tells client =
    omega (arith, sum_by-append (λ (s : Owned). tells s.id s.pages) (map (λ (l : Lease). l.side) client.leases) client.gone, sum_sides (λ (s : Owned). tells s.id s.pages) client.leases)

-- one of the segments has the number that is present
has_present : (sides : List Owned) (id : ℕ) → 1 ≤ sum_by (λ (s : Owned). present id s.id s.pages) sides → has_side sides id ≡ true
has_present [] id some = absurd (omega (arith, some))
has_present (s ∷ sides) id some = go (s.id == id) refl (has_present sides id)
  where
    go : (b : Bool) → (s.id == id) ≡ b → (1 ≤ sum_by (λ (s : Owned). present id s.id s.pages) sides → has_side sides id ≡ true) → (b || has_side sides id) ≡ true
    go true is rest = refl
    go false is rest =
        let none : present id s.id s.pages ≡ 0 = rw is refl in
        rest (omega (arith, some, none, sum_by-cons (λ (s : Owned). present id s.id s.pages) s sides))

-- what the accounts tell
module _ (pages standard : ℕ) (client : Seen) (grants rebuilt makes : ℕ) (runs : List Run) (some : 1 ≤ pages) (is : IsAccounted pages standard client grants rebuilt makes runs) where
  pub lost_bounded : (gone : List Owned) → Includes client.gone gone → rebuilt ≤ room_in pages gone
  lost_bounded gone includes =
      let fits : (k : ℕ) (d : Run) → k < length is.lost → sum_by (λ (s : Owned). misfits (get_or is.lost k d) s.id s.pages) client.gone ≡ 0 = λ k d within. omega (arith, is.lost_fit k d within) in
      let once : ShareNoPage is.lost = λ id page. omega (arith, is.once id page, sum_by-append (here id page) is.lost runs) in
      let held = room_for pages client.gone is.lost some (λ k d within. (is.sized k d within, holds_one (get_or is.lost k d) client.gone (is.gone k d within) (fits k d within))) once in
      omega (arith, is.counted, held, includes (λ (side : Owned). side.pages / pages))

  pub kept_bounded : All (λ (run : Run). run.pages ≡ pages) runs → AreKnown client runs → length runs ≤ LAST_COUNT → length runs ≤ grants * (max standard pages / pages)
  kept_bounded sized known few =
      elim (cases_lt grants LAST_COUNT) [
        | inl low ↦
            let once : ShareNoPage runs = λ id page. omega (arith, is.once id page, sum_by-append (here id page) is.lost runs) in
            let held = room_for pages (sides_of client) runs some (λ k d within. (
              sized k d within,
              holds_one (get_or runs k d) (sides_of client) (has_present (sides_of client) (get_or runs k d).segment (omega (arith, known k d within, over_sides (present (get_or runs k d).segment) client)))
                  (over_sides (misfits (get_or runs k d)) client ∙ is.fit k d within),
            )) once in
            omega (arith, held, over_sides (λ id all. all / pages) client, is.room low)
        | inr high ↦
            let least : 1 ≤ max standard pages / pages = le-div 1 (max standard pages) pages some (omega arith) in
            omega (arith, mul-le grants 1 grants (max standard pages / pages) (omega arith) least, few, high)
      ]

-- the counts after one more answer
pub few_counted : (told : Shown) (counts : Counts) → AreCounts counts → AreCounts (counted told counts)
few_counted Kept counts few = record { first = few.first; rebuilt = few.rebuilt; again = few.again }
few_counted First counts few = record { first = omega arith; rebuilt = few.rebuilt; again = few.again }
few_counted Rebuilt counts few = record { first = few.first; rebuilt = omega arith; again = few.again }
few_counted Again counts few = record { first = few.first; rebuilt = few.rebuilt; again = omega arith }

pub enough_found : (told : Shown) (counts : Counts) (grants : ℕ) → AreCounts counts → grants ≤ makes_of counts → grants ≤ makes_of (counted told counts)
enough_found Kept counts grants few enough = enough
enough_found First counts grants few enough = omega (arith, few.first, enough)
enough_found Rebuilt counts grants few enough = omega (arith, few.rebuilt, enough)
enough_found Again counts grants few enough = omega (arith, few.again, enough)

pub enough_grown : (told : Shown) (counts : Counts) (grants : ℕ) → (told ≡ Kept → ⊥) → AreCounts counts → grants ≤ makes_of counts → next_count grants ≤ makes_of (counted told counts)
enough_grown Kept counts grants made few enough = absurd (made refl)
enough_grown First counts grants made few enough = omega (arith, few.first, enough)
enough_grown Rebuilt counts grants made few enough = omega (arith, few.rebuilt, enough)
enough_grown Again counts grants made few enough = omega (arith, few.again, enough)
