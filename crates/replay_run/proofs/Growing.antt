-- The book of a replay only grows.
use Rattle.std.proofs.Common.{◌≡◌, ℕ, ◌+◌, ◌-◌, zero, suc, nat_lt, Bool, true, false, cond, List, [], ◌∷◌, ◌++◌, length, map, drop, Option, Some, None, option_map, unwrap_or, refl, sym, ap, ◌∙◌, append_assoc}
use Rattle.std.proofs.lemmas.List.{append-nil}
use Rattle.machine.specs.declared.event.Event.{Event}
use Rattle.machine.specs.declared.event.Event.TheVariants as event
use Rattle.machine.specs.History.{number_of}
use Rattle.machine.specs.Answers.{granted, live}
use Rattle.discard_book.specs.declared.entry.Entry.{Entry}
use Rattle.discard_book.specs.Legal.{room}
use Rattle.script_text.specs.declared.command.Command.{Command}
use Rattle.script_text.specs.declared.command.Command.TheVariants.{Grant, Lock, Unlock, Write, Read, Try, Back, Reduce, Enforce, Pressure, Limit, Remove, Alloc, PieceLock, PieceUnlock, PieceWrite, PieceRead, PieceFree, Sweep, Release, Runs, Granted}
use Rattle.replay_plain.specs.State.{ReplayState, after_event, after_events, entries_of, next_grant, grants_of}
use Rattle.replay_plain.specs.Reductions.{after_reduction, reduction, reduced_entry, with_room}
use Rattle.span_heap.specs.declared.run.Run.{Run}
use Rattle.span_heap.specs.Run.{pages_of}
use Rattle.span_heap.specs.Runs.{front_of}
use Rattle.script_heaps.specs.Holding.{lost, all_free}
use Rattle.script_heaps.specs.Heaps.{owner_of, piece_of}
use Rattle.replay_plain.specs.Pieces.{pages_for, holding_of, with_holding, lock_of, unlock_of, write_of, fits_in, on_piece, picked, is_lost, after_loss, found_none, found_run, found_within, find, after_sweep, after_telling, new_pages, before_adoption, with_free_rest, after_adoption, after_search, after_allocation, after_piece_lock, after_piece_unlock, after_piece_write, after_piece_free}
use Rattle.replay_plain.specs.Commands.{state_after, after_numbered, added, pressed, returns_of}

-- one state has the entries of another, and more behind them
abbrev pub Grown : ReplayState → ReplayState → Type 0
Grown old new = (more : List Entry) × (new.entries ≡ old.entries ++ more)

none_more : (state : ReplayState) → Grown state state
none_more state = ([], sym (append-nil state.entries))

and_then : (one two three : ReplayState) → Grown one two → Grown two three → Grown one three
and_then one two three a b = (a.0 ++ b.0, b.1 ∙ ap (λ xs. xs ++ b.0) a.1 ∙ append_assoc one.entries a.0 b.0)

by_event : (state : ReplayState) (e : Event) → Grown state (after_event state e)
by_event state e = (entries_of state.limit state.events e, refl)

by_events : (state : ReplayState) (events : List Event) → Grown state (after_events state events)
by_events state [] = none_more state
by_events state (e ∷ events) = and_then state (after_event state e) (after_events (after_event state e) events) (by_event state e) (by_events (after_event state e) events)

by_reduction : (state : ReplayState) (limit now : ℕ) → Grown state (after_reduction state limit now)
by_reduction state limit now =
    let tried = after_events state (reduction limit now state.events) in
    and_then state tried (after_reduction state limit now) (by_events state (reduction limit now state.events))
    (reduced_entry tried.events limit now ∷ [], refl)

by_room : (state : ReplayState) (pages now : ℕ) → Grown state (with_room state pages now)
by_room state pages now = by_test (nat_lt (room state.limit pages) (granted state.events))
  where
    by_test : (b : Bool) → Grown state (cond b (after_reduction state (room state.limit pages) now) state)
    by_test true = by_reduction state (room state.limit pages) now
    by_test false = none_more state

-- an event that happens unless a test says so
by_numbered : (state : ReplayState) (e : Event) → Grown state (after_numbered state e)
by_numbered state e = by_test (state.heaps.owned (number_of e))
  where
    by_test : (b : Bool) → Grown state (cond b state (after_event state e))
    by_test true = none_more state
    by_test false = by_event state e

by_piece : (state : ReplayState) (o : Option Run) (next : Run → ReplayState) → ((run : Run) → Grown state (next run)) → Grown state (on_piece o state next)
by_piece state None next grown = none_more state
by_piece state (Some run) next grown = grown run

by_lock : (state : ReplayState) (piece : ℕ) (run : Run) → Grown state (after_piece_lock state piece run)
by_lock state piece run = by_test (live state.events run.segment)
  where
    by_test : (b : Bool) → Grown state (cond b (after_event state (lock_of run)) (with_holding (after_event state (lock_of run)) (owner_of state.heaps piece).client (lost (holding_of state (owner_of state.heaps piece).client) run.segment)))
    by_test true = by_event state (lock_of run)
    by_test false = by_event state (lock_of run)

by_write : (state : ReplayState) (place : ℕ) (bytes : List ℕ) (run : Run) → Grown state (after_piece_write state place bytes run)
by_write state place bytes run = by_test (fits_in run place (length bytes))
  where
    by_test : (b : Bool) → Grown state (cond b (after_event state (write_of run place bytes)) state)
    by_test true = by_event state (write_of run place bytes)
    by_test false = none_more state

by_rest : (state : ReplayState) (id n pages at : ℕ) → Grown state (with_free_rest state id n pages at)
by_rest state id n pages at = by_test (nat_lt n pages)
  where
    by_test : (b : Bool) → Grown state (cond b (after_event state (event.Unlock id n (pages - n) at)) state)
    by_test true = by_event state (event.Unlock id n (pages - n) at)
    by_test false = none_more state

-- a search for pages: locks alone
by_lost : (most : ℕ) (state : ReplayState) (client n : ℕ) (run : Run) → ((s : ReplayState) → Grown s (found_within most s client n).state)
    → (b : Bool) → Grown state (cond b (found_within most (after_loss state client run n) client n) (found_run state client run n)).state
by_lost most state client n run more true =
    and_then state (after_loss state client run n) (found_within most (after_loss state client run n) client n).state
    (by_event state (lock_of (front_of run n))) (more (after_loss state client run n))
by_lost most state client n run more false = by_event state (lock_of (front_of run n))

by_pick : (most : ℕ) (state : ReplayState) (client n : ℕ) → ((s : ReplayState) → Grown s (found_within most s client n).state) → (o : Option Run)
    → Grown state (unwrap_or (option_map (λ run. cond (is_lost state run n) (found_within most (after_loss state client run n) client n) (found_run state client run n)) o) (found_none state)).state
by_pick most state client n more None = none_more state
by_pick most state client n more (Some run) = by_lost most state client n run more (is_lost state run n)

by_search : (most : ℕ) (state : ReplayState) (client n : ℕ) → Grown state (found_within most state client n).state
unfolding found_within
by_search zero state client n = none_more state
by_search (suc most) state client n = by_pick most state client n (λ s. by_search most s client n) (picked state client n)

by_telling : (state : ReplayState) (client : ℕ) → Grown state (after_telling state client)
by_telling state client = by_events state (map (λ (id : ℕ). event.Back id) (holding_of state client).untold)

by_adoption : (state : ReplayState) (client n at : ℕ) → Grown state (after_adoption state client n at)
by_adoption state client n at =
    let e = next_grant state client (new_pages state n) in
    and_then state (after_event state e) (with_free_rest (after_event state e) (grants_of state + 1) n (new_pages state n) at)
    (by_event state e) (by_rest (after_event state e) (grants_of state + 1) n (new_pages state n) at)

by_before : (state : ReplayState) (client n at : ℕ) → Grown state (before_adoption state client n at)
by_before state client n at =
    and_then state (after_telling (after_sweep state client) client) (before_adoption state client n at)
    (by_telling (after_sweep state client) client) (by_room (after_telling (after_sweep state client) client) (new_pages state n) at)

by_found : (o : Option Run) (state : ReplayState) (client n at : ℕ) → Grown state (after_search o state client n at)
by_found (Some run) state client n at = none_more state
by_found None state client n at =
    and_then state (before_adoption state client n at) (after_adoption (before_adoption state client n at) client n at)
    (by_before state client n at) (by_adoption (before_adoption state client n at) client n at)

by_allocation : (state : ReplayState) (client n at : ℕ) → Grown state (after_allocation state client n at)
by_allocation state client n at =
    and_then state (find state client n).state (after_allocation state client n at)
    (by_search (pages_of (holding_of state client).runs) state client n) (by_found (find state client n).run (find state client n).state client n at)

by_command : (state : ReplayState) (command : Command) → Grown state (state_after state command)
by_command state (Grant client pages at) = and_then state (with_room state pages at) (state_after state (Grant client pages at)) (by_room state pages at) (by_event (with_room state pages at) (next_grant (with_room state pages at) client pages))
by_command state (Lock id first count) = by_numbered state (event.Lock id first count)
by_command state (Unlock id first count at) = by_numbered state (event.Unlock id first count at)
by_command state (Write id place bytes) = by_numbered state (event.Write id place bytes)
by_command state (Read id place count) = none_more state
by_command state (Try id at) = by_event state (event.Try id at)
by_command state (Back id) = by_numbered state (event.Back id)
by_command state (Reduce limit at) = by_reduction state limit at
by_command state (Enforce at) = by_reduction state state.limit at
by_command state (Pressure critical at) = by_reduction state (pressed critical state.limit) at
by_command state (Limit limit at) = by_reduction (record state { limit = limit }) limit at
by_command state (Remove client) = by_events state (returns_of state client)
by_command state (Alloc client size at) = by_allocation state client (pages_for size) at
by_command state (PieceLock piece) = by_piece state (piece_of state.heaps piece) (after_piece_lock state piece) (by_lock state piece)
by_command state (PieceUnlock piece at) = by_piece state (piece_of state.heaps piece) (after_piece_unlock state at) (λ run. by_event state (unlock_of run at))
by_command state (PieceWrite piece place bytes) = by_piece state (piece_of state.heaps piece) (after_piece_write state place bytes) (by_write state place bytes)
by_command state (PieceRead piece place count) = none_more state
by_command state (PieceFree piece at) = by_piece state (piece_of state.heaps piece) (after_piece_free state piece at) (λ run. by_event state (unlock_of run at))
by_command state (Sweep client) = none_more state
by_command state (Release client) = by_events state (map (λ (id : ℕ). event.Back id) (all_free (holding_of state client)))
by_command state (Runs client) = none_more state
by_command state Granted = none_more state

pub drop_front : (xs ys : List Entry) → drop (length xs) (xs ++ ys) ≡ ys
drop_front [] ys = refl
drop_front (x ∷ xs) ys = drop_front xs ys

-- the entries after a command are those before it and those that it adds
pub grows : (state : ReplayState) (command : Command) → (state_after state command).entries ≡ state.entries ++ added state command
grows state command =
    let more = by_command state command in
    more.1 ∙ ap (λ xs. state.entries ++ xs) (sym (ap (drop (length state.entries)) more.1 ∙ drop_front state.entries more.0))
