-- In each state that commands lead to, each free run of a client lies in one of its segments.
use Rattle.std.proofs.Common.{◌≡◌, ℕ, zero, suc, ◌+◌, ◌==◌, nat_lt, Bool, true, false, not, cond, ◌&&◌, ◌||◌, List, [], ◌∷◌, ◌++◌, length, map, reverse, Option, Some, None, refl, sym, ap, ◌∙◌, subst}
use Rattle.std.specs.List.{All, filter, find as list_find}
use Rattle.std.proofs.lemmas.Bool.{eqb-true, eq-eqb}
use Rattle.std.proofs.lemmas.List.Elements.{All-nil, All-cons, All-append, All-head, All-tail, All-filter, filter_passes, All-weaker}
use Rattle.std.proofs.lemmas.List.Folds.{list_any-append}
use Rattle.std.proofs.lemmas.List.Sorted.{All-permutation, IsPermutation-reverse}
use Rattle.std.proofs.lemmas.Map.Views.{any-filter_same}
use Rattle.machine.specs.declared.event.Event.{Event}
use Rattle.machine.specs.declared.event.Event.TheVariants as event
use Rattle.machine.specs.History.{number_of}
use Rattle.machine.specs.Answers.{live}
use Rattle.script_text.specs.declared.command.Command.{Command}
use Rattle.script_text.specs.declared.command.Command.TheVariants.{Grant, Lock, Unlock, Write, Read, Try, Back, Reduce, Enforce, Pressure, Limit, Remove, Alloc, PieceLock, PieceUnlock, PieceWrite, PieceRead, PieceFree, Sweep, Release, Runs, Granted}
use Rattle.script_text.specs.Script.{Commands}
use Rattle.span_heap.specs.declared.run.Run.{Run}
use Rattle.span_heap.specs.Run.{lies_in, is_run, is_beside}
use Rattle.span_heap.specs.Runs.{back_of, rest_of, joined, freed, dropped}
use Rattle.span_heap.specs.Pick.{fits, is_long, exact_length, latest, pick}
use Rattle.span_heap.specs.Segment.{Segment}
use Rattle.span_heap.specs.Heap.{has_id, has_segment}
use Rattle.span_heap.specs.Changes.{whole_of, segment_of}
use Rattle.script_heaps.specs.Holding.{Holding, has, without, without_all, lost, lost_all, purged, told, taken, adopted, after_free, emptied, all_free}
use Rattle.script_heaps.specs.Heaps.{Heaps, with_client, with_next, piece_of, owner_of}
use Rattle.replay_plain.specs.declared.config.ReplayCfg.{ReplayCfg}
use Rattle.replay_plain.specs.State.{ReplayState, first_state, after_event, after_events, grants_of}
use Rattle.replay_plain.specs.Reductions.{reduction, after_reduction}
use Rattle.replay_plain.specs.Pieces.{holding_of, picked, find, found_within, found_run, is_lost, after_loss, after_sweep, after_telling, new_pages, next_run, before_adoption, after_adoption, with_new_piece, after_search, on_piece, after_piece_lock, after_piece_unlock, after_piece_write, after_piece_free, fits_in, write_of, lock_of, pages_for}
use Rattle.replay_plain.specs.SearchEnds.{RunsLieInSegments}
use Rattle.replay_plain.specs.Commands.{pressed, returns_of, after_numbered, state_after, state_after_all}
use Rattle.replay_plain.proofs.Allocating.{heaps_stay, room_heaps, turn}

-- ---- what is picked is one of the runs

found_has : (P : Run → Type 0) (test : Run → Bool) (runs : List Run) (run : Run) → All P runs → list_find test runs ≡ Some run → P run
found_has P test [] run all found = absurd cc
found_has P test (r ∷ runs) run all found = by_test (test r) (found_has P test runs run (All-tail P r runs all)) found
  where
    by_test : (b : Bool) → (list_find test runs ≡ Some run → P run) → cond b (Some r) (list_find test runs) ≡ Some run → P run
    by_test true later e = let same : r ≡ run = cc in subst P same (All-head P r runs all)
    by_test false later e = later e

latest_has : (P : Run → Type 0) (test : Run → Bool) (runs : List Run) (run : Run) → All P runs → latest test runs ≡ Some run → P run
latest_has P test runs run all found =
    found_has P test (reverse runs) run (All-permutation P runs (reverse runs) (IsPermutation-reverse runs) all) found

-- what holds of each run holds of the one that is picked
pub pick_has : (P : Run → Type 0) (runs : List Run) (n slack : ℕ) (run : Run) → All P runs → pick runs n slack ≡ Some run → P run
pick_has P runs n slack run all is = by_test (nat_lt (exact_length runs n slack) 256) is
  where
    by_test : (b : Bool) → cond b (latest (λ r. fits n slack r && (r.pages == exact_length runs n slack)) runs) (latest (λ r. fits n slack r && is_long r) runs) ≡ Some run → P run
    by_test true e = latest_has P (λ r. fits n slack r && (r.pages == exact_length runs n slack)) runs run all e
    by_test false e = latest_has P (λ r. fits n slack r && is_long r) runs run all e

-- ---- one client

-- a run of another segment than the one that leaves lies in one that stays
stays_there : (segments : List Segment) (id other : ℕ) → not (other == id) ≡ true → has_segment segments other ≡ true
    → has_segment (filter (λ (s : Segment). not (has_id id s)) segments) other ≡ true
stays_there segments id other apart there =
    any-filter_same (has_id other) (λ (s : Segment). not (has_id id s)) true (λ s is. ap (λ n. not (n == id)) (eqb-true s.id other is) ∙ apart) segments ∙ there

left_there : (segments : List Segment) (runs : List Run) (id : ℕ) → All (λ (r : Run). has_segment segments r.segment ≡ true) runs
    → All (λ (r : Run). has_segment (filter (λ (s : Segment). not (has_id id s)) segments) r.segment ≡ true) (dropped runs id)
left_there segments runs id inside = λ k d within.
    stays_there segments id _ (filter_passes (λ (r : Run). not (lies_in id r)) runs k d within)
    (All-filter (λ (r : Run). not (lies_in id r)) (λ (r : Run). has_segment segments r.segment ≡ true) runs inside k d within)

pub inside_lost : (h : Holding) (id : ℕ) → RunsLieInSegments h → RunsLieInSegments (lost h id)
inside_lost h id inside = by_test (has h id)
  where
    by_test : (b : Bool) → RunsLieInSegments (cond b (record h { segments = filter (λ (s : Segment). not (has_id id s)) h.segments; runs = dropped h.runs id; untold = h.untold ++ id ∷ [] }) h)
    by_test true = left_there h.segments h.runs id inside
    by_test false = inside

inside_without : (h : Holding) (id : ℕ) → RunsLieInSegments h → RunsLieInSegments (without h id)
inside_without h id inside = by_test (has h id)
  where
    by_test : (b : Bool) → RunsLieInSegments (cond b (record h { segments = filter (λ (s : Segment). not (has_id id s)) h.segments; runs = dropped h.runs id }) h)
    by_test true = left_there h.segments h.runs id inside
    by_test false = inside

inside_lost_all : (ids : List ℕ) (h : Holding) → RunsLieInSegments h → RunsLieInSegments (lost_all h ids)
inside_lost_all [] h inside = inside
inside_lost_all (id ∷ ids) h inside = inside_lost_all ids (lost h id) (inside_lost h id inside)

inside_without_all : (ids : List ℕ) (h : Holding) → RunsLieInSegments h → RunsLieInSegments (without_all h ids)
inside_without_all [] h inside = inside
inside_without_all (id ∷ ids) h inside = inside_without_all ids (without h id) (inside_without h id inside)

-- what is left of a run lies in its segment
rest_there : (segments : List Segment) (run : Run) (n : ℕ) → has_segment segments run.segment ≡ true → All (λ (r : Run). has_segment segments r.segment ≡ true) (rest_of run n)
rest_there segments run n there = by_test (nat_lt n run.pages)
  where
    by_test : (b : Bool) → All (λ (r : Run). has_segment segments r.segment ≡ true) (cond b (back_of run n ∷ []) [])
    by_test true = All-cons (λ (r : Run). has_segment segments r.segment ≡ true) (back_of run n) [] there (All-nil (λ (r : Run). has_segment segments r.segment ≡ true))
    by_test false = All-nil (λ (r : Run). has_segment segments r.segment ≡ true)

inside_taken : (h : Holding) (run : Run) (n : ℕ) → has h run.segment ≡ true → RunsLieInSegments h → RunsLieInSegments (taken h run n)
inside_taken h run n there inside =
    All-append (λ (r : Run). has h r.segment ≡ true) (filter (λ (r : Run). not (is_run run r)) h.runs) (rest_of run n)
    (All-filter (λ (r : Run). not (is_run run r)) (λ (r : Run). has h r.segment ≡ true) h.runs inside) (rest_there h.segments run n there)

-- a segment more
more_there : (segments : List Segment) (id pages other : ℕ) → has_segment segments other ≡ true → has_segment (segments ++ segment_of id pages ∷ []) other ≡ true
more_there segments id pages other there = list_any-append (has_id other) segments (segment_of id pages ∷ []) ∙ ap (λ b. b || has_segment (segment_of id pages ∷ []) other) there

last_there : (segments : List Segment) (id pages : ℕ) → has_segment (segments ++ segment_of id pages ∷ []) id ≡ true
last_there segments id pages = list_any-append (has_id id) segments (segment_of id pages ∷ []) ∙ by_test (has_segment segments id)
  where
    by_test : (b : Bool) → (b || has_segment (segment_of id pages ∷ []) id) ≡ true
    by_test true = refl
    by_test false = ap (λ b. b || false) (eq-eqb id id refl)

inside_adopted : (h : Holding) (id pages n : ℕ) → RunsLieInSegments h → RunsLieInSegments (adopted h id pages n)
inside_adopted h id pages n inside =
    All-append (λ (r : Run). has_segment (h.segments ++ segment_of id pages ∷ []) r.segment ≡ true) h.runs (rest_of (whole_of id pages) n)
    (All-weaker (λ (r : Run). has h r.segment ≡ true) (λ (r : Run). has_segment (h.segments ++ segment_of id pages ∷ []) r.segment ≡ true)
    (λ r there. more_there h.segments id pages r.segment there) h.runs inside)
    (rest_there (h.segments ++ segment_of id pages ∷ []) (whole_of id pages) n (last_there h.segments id pages))

inside_free : (h : Holding) (place : ℕ) (run : Run) → RunsLieInSegments h → RunsLieInSegments (after_free h place run)
inside_free h place run inside = by_test (has h run.segment) refl
  where
    by_test : (b : Bool) → has h run.segment ≡ b → All (λ (r : Run). has h r.segment ≡ true) (cond b (freed h.runs run) h.runs)
    by_test true there =
        All-append (λ (r : Run). has h r.segment ≡ true) (filter (λ (r : Run). not (is_beside run r)) h.runs) (joined h.runs run ∷ [])
        (All-filter (λ (r : Run). not (is_beside run r)) (λ (r : Run). has h r.segment ≡ true) h.runs inside)
        (All-cons (λ (r : Run). has h r.segment ≡ true) (joined h.runs run) [] there (All-nil (λ (r : Run). has h r.segment ≡ true)))
    by_test false there = inside

-- ---- all clients

-- each client's runs lie in its segments
abbrev pub AllLie : Heaps → Type 0
AllLie heaps = (client : ℕ) → RunsLieInSegments (heaps.clients client)

lie_with : (heaps : Heaps) (client : ℕ) (h : Holding) → RunsLieInSegments h → AllLie heaps → AllLie (with_client heaps client h)
lie_with heaps client h inside all = λ other. by_test (client == other) other
  where
    by_test : (b : Bool) (other : ℕ) → RunsLieInSegments (cond b h (heaps.clients other))
    by_test true other = inside
    by_test false other = all other

lie_next : (heaps : Heaps) (client : ℕ) (run : Run) → AllLie heaps → AllLie (with_next heaps client run)
lie_next heaps client run all = λ other. by_test (client == other) other
  where
    by_test : (b : Bool) (other : ℕ) → RunsLieInSegments (cond b (record (heaps.clients client) { pieces = (heaps.clients client).pieces ++ Some run ∷ [] }) (heaps.clients other))
    by_test true other = all client
    by_test false other = all other

-- events, and then what a client has changed
lie_after : (es : List Event) (state : ReplayState) (client : ℕ) (h : Holding) → RunsLieInSegments h → AllLie state.heaps → AllLie (with_client (after_events state es).heaps client h)
lie_after es state client h inside all = lie_with (after_events state es).heaps client h inside (subst AllLie (sym (heaps_stay es state)) all)

-- ---- a search and a new segment

lie_found : (most : ℕ) (state : ReplayState) (client n : ℕ) → AllLie state.heaps → AllLie (found_within most state client n).state.heaps
unfolding found_within
lie_found zero state client n all = all
lie_found (suc most) state client n all = by_pick (λ s w. lie_found most s client n w) (picked state client n) refl
  where
    by_lost : ((s : ReplayState) → AllLie s.heaps → AllLie (found_within most s client n).state.heaps) → (r : Run) → has (holding_of state client) r.segment ≡ true → (b : Bool)
        → AllLie (cond b (found_within most (after_loss state client r n) client n) (found_run state client r n)).state.heaps
    by_lost more r there true = more (after_loss state client r n) (lie_with state.heaps client _ (inside_lost (holding_of state client) r.segment (all client)) all)
    by_lost more r there false = lie_with state.heaps client _ (inside_taken (holding_of state client) r n there (all client)) all

    by_pick : ((s : ReplayState) → AllLie s.heaps → AllLie (found_within most s client n).state.heaps) → (o : Option Run) → picked state client n ≡ o → AllLie (turn most state client n o).state.heaps
    by_pick more None is = all
    by_pick more (Some r) is = by_lost more r (pick_has (λ (x : Run). has (holding_of state client) x.segment ≡ true) _ _ _ r (all client) is) (is_lost state r n)

lie_swept : (state : ReplayState) (client : ℕ) → AllLie state.heaps → AllLie (after_sweep state client).heaps
lie_swept state client all = lie_with state.heaps client _ (inside_lost_all (purged (live state.events) (holding_of state client)) (holding_of state client) (all client)) all

lie_told : (state : ReplayState) (client : ℕ) → AllLie state.heaps → AllLie (after_telling state client).heaps
lie_told state client all = lie_after (map (λ (id : ℕ). event.Back id) (holding_of state client).untold) state client (told (holding_of state client)) (all client) all

lie_new : (state : ReplayState) (client n at : ℕ) → AllLie state.heaps → AllLie (with_new_piece state client n at).heaps
lie_new state client n at all =
    lie_next (after_adoption state client n at).heaps client (next_run state n)
    (lie_with state.heaps client _ (inside_adopted (holding_of state client) (grants_of state + 1) (new_pages state n) n (all client)) all)

lie_before : (state : ReplayState) (client n at : ℕ) → AllLie state.heaps → AllLie (before_adoption state client n at).heaps
lie_before state client n at all =
    subst AllLie (sym (room_heaps (after_telling (after_sweep state client) client) (new_pages state n) at)) (lie_told (after_sweep state client) client (lie_swept state client all))

lie_searched : (o : Option Run) (state : ReplayState) (client n at : ℕ) → AllLie state.heaps → AllLie (after_search o state client n at).heaps
lie_searched None state client n at all = lie_new (before_adoption state client n at) client n at (lie_before state client n at all)
lie_searched (Some run) state client n at all = lie_next state.heaps client run all

-- ---- commands

lie_numbered : (state : ReplayState) (e : Event) → AllLie state.heaps → AllLie (after_numbered state e).heaps
lie_numbered state e all = by_test (state.heaps.owned (number_of e))
  where
    by_test : (b : Bool) → AllLie (cond b state (after_event state e)).heaps
    by_test true = all
    by_test false = all

lie_reduced : (state : ReplayState) (limit now : ℕ) → AllLie state.heaps → AllLie (after_reduction state limit now).heaps
lie_reduced state limit now all = subst AllLie (sym (heaps_stay (reduction limit now state.events) state)) all

lie_on : (o : Option Run) (state : ReplayState) (next : Run → ReplayState) → AllLie state.heaps → ((run : Run) → AllLie (next run).heaps) → AllLie (on_piece o state next).heaps
lie_on None state next all each = all
lie_on (Some run) state next all each = each run

lie_locked : (state : ReplayState) (piece : ℕ) (run : Run) → AllLie state.heaps → AllLie (after_piece_lock state piece run).heaps
lie_locked state piece run all = by_test (live state.events run.segment)
  where
    client : ℕ
    client = (owner_of state.heaps piece).client

    by_test : (b : Bool)
        → AllLie (cond b (after_event state (lock_of run)) (record (after_event state (lock_of run)) { heaps = with_client state.heaps client (lost (holding_of state client) run.segment) })).heaps
    by_test true = all
    by_test false = lie_with state.heaps client _ (inside_lost (holding_of state client) run.segment (all client)) all

lie_written : (state : ReplayState) (place : ℕ) (bytes : List ℕ) (run : Run) → AllLie state.heaps → AllLie (after_piece_write state place bytes run).heaps
lie_written state place bytes run all = by_test (fits_in run place (length bytes))
  where
    by_test : (b : Bool) → AllLie (cond b (after_event state (write_of run place bytes)) state).heaps
    by_test true = all
    by_test false = all

lie_command : (state : ReplayState) (command : Command) → AllLie state.heaps → AllLie (state_after state command).heaps
lie_command state (Grant client pages at) all = subst AllLie (sym (room_heaps state pages at)) all
lie_command state (Lock id first count) all = lie_numbered state (event.Lock id first count) all
lie_command state (Unlock id first count at) all = lie_numbered state (event.Unlock id first count at) all
lie_command state (Write id place bytes) all = lie_numbered state (event.Write id place bytes) all
lie_command state (Read id place count) all = all
lie_command state (Try id at) all = all
lie_command state (Back id) all = lie_numbered state (event.Back id) all
lie_command state (Reduce limit at) all = lie_reduced state limit at all
lie_command state (Enforce at) all = lie_reduced state state.limit at all
lie_command state (Pressure critical at) all = lie_reduced state (pressed critical state.limit) at all
lie_command state (Limit limit at) all = lie_reduced (record state { limit = limit }) limit at all
lie_command state (Remove client) all = lie_after (returns_of state client) state client (emptied (holding_of state client)) (All-nil _) all
lie_command state (Alloc client size at) all =
    lie_searched (find state client (pages_for size)).run (find state client (pages_for size)).state client (pages_for size) at (lie_found _ state client (pages_for size) all)
lie_command state (PieceLock piece) all = lie_on (piece_of state.heaps piece) state (after_piece_lock state piece) all (λ run. lie_locked state piece run all)
lie_command state (PieceUnlock piece at) all = lie_on (piece_of state.heaps piece) state (after_piece_unlock state at) all (λ run. all)
lie_command state (PieceWrite piece place bytes) all =
    lie_on (piece_of state.heaps piece) state (after_piece_write state place bytes) all (λ run. lie_written state place bytes run all)
lie_command state (PieceRead piece place count) all = all
lie_command state (PieceFree piece at) all =
    lie_on (piece_of state.heaps piece) state (after_piece_free state piece at) all
    (λ run. lie_with state.heaps (owner_of state.heaps piece).client _ (inside_free (holding_of state (owner_of state.heaps piece).client) (owner_of state.heaps piece).place run (all (owner_of state.heaps piece).client)) all)
lie_command state (Sweep client) all = lie_swept state client all
lie_command state (Release client) all =
    lie_after (map (λ (id : ℕ). event.Back id) (all_free (holding_of state client))) state client _ (inside_without_all (all_free (holding_of state client)) (holding_of state client) (all client)) all
lie_command state (Runs client) all = all
lie_command state Granted all = all

lie_commands : (commands : Commands) (state : ReplayState) → AllLie state.heaps → AllLie (state_after_all state commands).heaps
lie_commands [] state all = all
lie_commands (line ∷ lines) state all = lie_commands lines (state_after state line.1) (lie_command state line.1 all)

pub runs_lie : (cfg : ReplayCfg) (commands : Commands) (client : ℕ) → RunsLieInSegments (holding_of (state_after_all (first_state cfg) commands) client)
runs_lie cfg commands client = lie_commands commands (first_state cfg) (λ other. All-nil _) client
