-- What the commands on a client's pieces make of the state of a replay.
use Rattle.std.specs.Prelude.{ℕ, ◌+◌, ◌-◌, ◌*◌, max, min, nat_le, nat_lt, zero, suc, Bool, true, false, if◌then◌else◌, List, length, map, Option, Some, None, option_map, unwrap_or}
use Rattle.units.specs.declared.TheConstants.{PAGE}
use Rattle.machine.specs.declared.event.Event.{Event}
use Rattle.machine.specs.declared.event.Event.TheVariants as event
use Rattle.machine.specs.declared.event.Answer.{Answer}
use Rattle.machine.specs.declared.event.Answer.TheVariants as answers
use Rattle.machine.specs.Answers.{answer, live}
use Rattle.line_text.specs.declared.limits.TheConstants.{MOST_SEGMENT_PAGES}
use Rattle.span_heap.specs.declared.run.Run.{Run}
use Rattle.span_heap.specs.Run.{pages_of}
use Rattle.span_heap.specs.Runs.{front_of}
use Rattle.span_heap.specs.Pick.{pick}
use Rattle.span_heap.specs.Changes.{whole_of}
use Rattle.script_heaps.specs.Holding.{Holding, lost, lost_all, purged, told, taken, adopted, without_all, all_free, after_free}
use Rattle.script_heaps.specs.Heaps.{with_client, with_next, with_owned, owner_of}
use Rattle.replay_plain.specs.State.{ReplayState, after_event, after_events, grants_of, next_grant}
use Rattle.replay_plain.specs.Reductions.{with_room}
pub use Rattle.units.specs.Sizes.{pages_for}

-- what a client has
abbrev pub holding_of : ReplayState → ℕ → Holding
holding_of state client = state.heaps.clients client

-- the state in which a client has something else
abbrev pub with_holding : ReplayState → ℕ → Holding → ReplayState
with_holding state client holding =
    record state { heaps = with_client state.heaps client holding }

-- a lock of these pages
abbrev pub lock_of : Run → Event
lock_of run = event.Lock run.segment run.first run.pages

-- an unlock of these pages at a moment
abbrev pub unlock_of : Run → ℕ → Event
unlock_of run at = event.Unlock run.segment run.first run.pages at

-- the state in which the next piece of a client has these pages
abbrev pub with_next_piece : ReplayState → ℕ → Run → ReplayState
with_next_piece state client run = record state { heaps = with_next state.heaps client run }

-- ---- a search for pages

-- what a search came to: the state after it, and the pages that it found, locked, if any
pub record Found : Type 0 where
  pub state : ReplayState
  pub run : Option Run

-- whether an answer says that the segment is gone
abbrev pub is_gone_answer : Answer → Bool
is_gone_answer answers.Gone = true
is_gone_answer other = false

-- how many pages more than those wanted a run may have: the standard size without them
abbrev pub slack_of : ReplayState → ℕ → ℕ
slack_of state n = state.standard - n

-- the state after a lock of the first n pages of a run
abbrev pub after_ask : ReplayState → Run → ℕ → ReplayState
after_ask state run n = after_event state (lock_of (front_of run n))

-- whether such a lock finds the segment gone
abbrev pub is_lost : ReplayState → Run → ℕ → Bool
is_lost state run n = is_gone_answer (answer state.events (lock_of (front_of run n)))

-- the state after a lock that found the segment of a run gone: the segment leaves the client's
abbrev pub after_loss : ReplayState → ℕ → Run → ℕ → ReplayState
after_loss state client run n =
    with_holding (after_ask state run n) client (lost (holding_of state client) run.segment)

-- the state after a lock that holds the first n pages of a run
abbrev pub after_serving : ReplayState → ℕ → Run → ℕ → ReplayState
after_serving state client run n =
    with_holding (after_ask state run n) client (taken (holding_of state client) run n)

-- the run that a search for n pages of a client's heap picks
abbrev pub picked : ReplayState → ℕ → ℕ → Option Run
picked state client n = pick (holding_of state client).runs n (slack_of state n)

-- the state after the first n pages of a run were taken as a client's next piece
abbrev pub after_pick : ReplayState → ℕ → Run → ℕ → ReplayState
after_pick state client run n =
    with_next_piece (with_holding state client (taken (holding_of state client) run n)) client (front_of run n)

-- a search that found nothing
abbrev pub found_none : ReplayState → Found
found_none state = record { state = state; run = None }

-- a search that was served by a run
abbrev pub found_run : ReplayState → ℕ → Run → ℕ → Found
found_run state client run n =
    record { state = after_serving state client run n; run = Some (front_of run n) }

-- A search for n pages that may pick so many runs: it locks the first pages of the run that it
-- picks, and where that finds the segment gone, it goes on.
unfoldable pub found_within : ℕ → ReplayState → ℕ → ℕ → Found
found_within zero state client n = found_none state
found_within (suc most) state client n =
    unwrap_or (option_map (λ run. if is_lost state run n
    then found_within most (after_loss state client run n) client n
    else found_run state client run n)
    (picked state client n)) (found_none state)

-- A search for n pages of a client's heap. The bound never ends it, since each turn that goes on drops a run with
-- pages: it finds none only where no free run serves (`law_searches_end`).
abbrev pub find : ReplayState → ℕ → ℕ → Found
find state client n = found_within (pages_of (holding_of state client).runs) state client n

-- ---- a new segment

-- the state after a sweep: each of the client's segments that is live no more leaves
abbrev pub after_sweep : ReplayState → ℕ → ReplayState
after_sweep state client =
    let holding = holding_of state client in
    with_holding state client (lost_all holding (purged (live state.events) holding))

-- the state after the manager was told of each of the client's segments that left
abbrev pub after_telling : ReplayState → ℕ → ReplayState
after_telling state client =
    let holding = holding_of state client in
    with_holding (after_events state (map (λ id. event.Back id) holding.untold)) client (told holding)

-- how many pages a new segment has for n pages: as many, or the standard size where that is more,
-- which is within the most that a segment of a script has
abbrev pub new_pages : ReplayState → ℕ → ℕ
new_pages state n = max n (min state.standard MOST_SEGMENT_PAGES)

-- the state with room for a new segment: purged segments left and are told
abbrev pub before_adoption : ReplayState → ℕ → ℕ → ℕ → ReplayState
before_adoption state client n at =
    with_room (after_telling (after_sweep state client) client) (new_pages state n) at

-- the state after an unlock of the pages of a segment behind its first n, where there are any
abbrev pub with_free_rest : ReplayState → ℕ → ℕ → ℕ → ℕ → ReplayState
with_free_rest state id n pages at =
    if nat_lt n pages then after_event state (event.Unlock id n (pages - n) at) else state

-- the state after a grant to a client, which adopts the segment for n pages
abbrev pub after_adoption : ReplayState → ℕ → ℕ → ℕ → ReplayState
after_adoption state client n at =
    let id = grants_of state + 1 in
    let pages = new_pages state n in
    let granted = with_free_rest (after_event state (next_grant state client pages)) id n pages at in
    record granted {
      heaps = with_owned (with_client state.heaps client (adopted (holding_of state client) id pages n)) id;
    }

-- the first n pages of the segment that is granted next
abbrev pub next_run : ReplayState → ℕ → Run
next_run state n = front_of (whole_of (grants_of state + 1) (new_pages state n)) n

-- ---- commands

-- the state after a search, in which the pages that it found, if any, are the next piece of a client
abbrev pub with_found : Option Run → ReplayState → ℕ → ReplayState
with_found None state client = state
with_found (Some run) state client = with_next_piece state client run

-- the state in which a client has a piece more in a new segment, for which there is room
abbrev pub with_new_piece : ReplayState → ℕ → ℕ → ℕ → ReplayState
with_new_piece state client n at =
    with_next_piece (after_adoption state client n at) client (next_run state n)

-- the state after an allocation of n pages, by what the search came to: the pages that it found, or
-- those of a new segment
abbrev pub after_search : Option Run → ReplayState → ℕ → ℕ → ℕ → ReplayState
after_search (Some run) state client n at = with_next_piece state client run
after_search None state client n at =
    with_new_piece (before_adoption state client n at) client n at

-- the state after an allocation of n pages for a client
abbrev pub after_allocation : ReplayState → ℕ → ℕ → ℕ → ReplayState
after_allocation state client n at =
    let found = find state client n in
    after_search found.run found.state client n at

-- the state after a command on a piece of these pages, if it is there
abbrev pub on_piece : Option Run → ReplayState → (Run → ReplayState) → ReplayState
on_piece None state next = state
on_piece (Some run) state next = next run

-- the state after a lock of a piece with these pages: where its segment is live no more, that leaves
abbrev pub after_piece_lock : ReplayState → ℕ → Run → ReplayState
after_piece_lock state piece run =
    let client = (owner_of state.heaps piece).client in
    let locked = after_event state (lock_of run) in
    if live state.events run.segment then locked
    else with_holding locked client (lost (holding_of state client) run.segment)

-- the state after an unlock of a piece with these pages
abbrev pub after_piece_unlock : ReplayState → ℕ → Run → ReplayState
after_piece_unlock state at run = after_event state (unlock_of run at)

-- whether so many bytes from a place on lie within these pages
abbrev pub fits_in : Run → ℕ → ℕ → Bool
fits_in run place count = nat_le (place + count) (run.pages * PAGE)

-- the place in its segment of a byte of these pages
abbrev pub place_in : Run → ℕ → ℕ
place_in run place = run.first * PAGE + place

-- a write of bytes to these pages
abbrev pub write_of : Run → ℕ → List ℕ → Event
write_of run place bytes = event.Write run.segment (place_in run place) bytes

-- the state after a write of bytes to a piece with these pages
abbrev pub after_piece_write : ReplayState → ℕ → List ℕ → Run → ReplayState
after_piece_write state place bytes run =
    if fits_in run place (length bytes) then after_event state (write_of run place bytes) else state

-- the state after a piece with these pages was freed: it is unlocked, which changes nothing where it is
-- not locked, and its pages are free where its segment is among the client's
abbrev pub after_piece_free : ReplayState → ℕ → ℕ → Run → ReplayState
after_piece_free state piece at run =
    let owner = owner_of state.heaps piece in
    with_holding (after_event state (unlock_of run at)) owner.client
    (after_free (holding_of state owner.client) owner.place run)

-- the state after the release of a client: each of its segments that is all free leaves and is given back
abbrev pub after_release : ReplayState → ℕ → ReplayState
after_release state client =
    let holding = holding_of state client in
    with_holding (after_events state (map (λ id. event.Back id) (all_free holding))) client
    (without_all holding (all_free holding))
