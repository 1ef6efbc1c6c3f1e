-- What the calls on a client's heap make of the state that a run stands for.
use Rattle.std.proofs.Common.{◌≡◌, ◌≢◌, ℕ, ◌+◌, ◌-◌, ◌<◌, codes, nat_lt, suc, Bool, true, false, cond, List, [], ◌∷◌, ◌++◌, length, take, map, get_or, append_assoc, length-append, Option, Some, None, option_map, unwrap_or, slice_get, Result, Ok, Err, OnOk, refl, sym, ap, ◌∙◌, subst, arith}
use Rattle.std.specs.List.{flat_map}
use Rattle.std.proofs.lemmas.List.{take_more, map-append, append-nil}
use Rattle.std.proofs.lemmas.Grind.{flat_map-append}
use Rattle.std.proofs.lemmas.Option.{slice_get_within, get_or_from_slice_get, slice_get-get_or}
use Rattle.machine.specs.declared.event.Event.{Event}
use Rattle.machine.specs.declared.event.Event.TheVariants as event
use Rattle.machine.specs.declared.event.Answer.{Answer}
use Rattle.machine.specs.declared.event.Answer.TheVariants as answers
use Rattle.machine.specs.Answers.{answer, live, granted}
use Rattle.discard_book.specs.Legal.{room}
use Rattle.span_heap.specs.declared.run.Run.{Run}
use Rattle.span_heap.specs.Run.{pages_of}
use Rattle.span_heap.specs.Runs.{front_of}
use Rattle.span_heap.specs.Changes.{whole_of}
use Rattle.script_heaps.specs.Holding.{Holding, has, lost, lost_all, purged, told, adopted, without_all, all_free}
use Rattle.script_heaps.specs.Heaps.{Heaps, with_client, with_next, with_owned, owner_of, next_piece}
use Rattle.script_heaps.specs.declared.heaps.ScriptHeaps.{ScriptHeaps}
use Rattle.script_heaps.specs.Showing.{Shows}
use Rattle.replay_plain.specs.declared.run.PlainRun.{PlainRun}
use Rattle.replay_plain.specs.State.{ReplayState, after_event, after_events, grants_of, next_grant}
use Rattle.replay_plain.specs.Reductions.{reduction, after_reduction, with_room}
use Rattle.replay_plain.specs.Pieces.{Found, holding_of, picked, find, found_within, found_none, found_run, is_gone_answer, is_lost, after_loss, after_pick, with_found, lock_of, with_free_rest, with_holding, after_piece_lock, after_sweep, after_telling, after_release, new_pages, with_new_piece, before_adoption, after_adoption, next_run, after_search, after_allocation}
use Rattle.replay_plain.specs.Run.{RunStandsFor}
use Rattle.replay_plain.specs.Replies.{run_words, piece_words, searched_text, allocation_text}
use Rattle.replay_plain.specs.Searching.{Picks, PicksNext, Finds}

-- only the heaps changed
pub only_heaps : (old : PlainRun) (kept : ScriptHeaps) (state : ReplayState) (heaps : Heaps) → Shows kept heaps → RunStandsFor old state
    → RunStandsFor (record old { heaps = kept }) (record state { heaps = heaps })
only_heaps old kept state heaps shows w =
    record { segments = w.segments; known = w.known; entries = w.entries; limit = w.limit; standard = w.standard; heaps = shows }

-- ---- what events leave alone

-- events change neither the heaps nor the standard size
pub heaps_stay : (es : List Event) (state : ReplayState) → (after_events state es).heaps ≡ state.heaps
heaps_stay [] state = refl
heaps_stay (e ∷ es) state = heaps_stay es (after_event state e)

pub standard_stays : (es : List Event) (state : ReplayState) → (after_events state es).standard ≡ state.standard
standard_stays [] state = refl
standard_stays (e ∷ es) state = standard_stays es (after_event state e)

-- with other heaps the same events do the same
pub events_with : (es : List Event) (state : ReplayState) (heaps : Heaps) → after_events (record state { heaps = heaps }) es ≡ record (after_events state es) { heaps = heaps }
events_with [] state heaps = refl
events_with (e ∷ es) state heaps = events_with es (after_event state e) heaps

-- one event more
pub events_more : (es : List Event) (e : Event) (state : ReplayState) → after_events state (es ++ e ∷ []) ≡ after_event (after_events state es) e
events_more [] e state = refl
events_more (x ∷ es) e state = events_more es e (after_event state x)

-- room for a grant changes neither
pub room_standard : (state : ReplayState) (pages now : ℕ) → (with_room state pages now).standard ≡ state.standard
room_standard state pages now = by_test (nat_lt (room state.limit pages) (granted state.events))
  where
    by_test : (b : Bool) → (cond b (after_reduction state (room state.limit pages) now) state).standard ≡ state.standard
    by_test true = standard_stays (reduction (room state.limit pages) now state.events) state
    by_test false = refl

-- an unlock of the rest changes no heap
pub rest_heaps : (state : ReplayState) (id n pages at : ℕ) → (with_free_rest state id n pages at).heaps ≡ state.heaps
rest_heaps state id n pages at = by_test (nat_lt n pages)
  where
    by_test : (b : Bool) → (cond b (after_event state (event.Unlock id n (pages - n) at)) state).heaps ≡ state.heaps
    by_test true = refl
    by_test false = refl

-- ---- a search

-- what is left of a search comes to what the whole search comes to
pub record FindLeft (client n : ℕ) (first : ReplayState) (run : PlainRun) (left : ℕ) : Type 0 where
  pub state : ReplayState
  pub stands : RunStandsFor run state
  pub rest : found_within left state client n ≡ find first client n

pub find_first : (client n : ℕ) (first : ReplayState) (run : PlainRun) (left : ℕ) → RunStandsFor run first → left ≡ pages_of (holding_of first client).runs
    → FindLeft client n first run left
find_first client n first run left w is = record { state = first; stands = w; rest = ap (λ k. found_within k first client n) is }

-- the search came to this
comes_to : (client n : ℕ) (first : ReplayState) (run : PlainRun) (found : Found) → found ≡ find first client n
    → RunStandsFor run (with_found found.run found.state client) → Finds run first client n found.run
comes_to client n first run found is stands =
    record { is = ap (λ (f : Found). f.run) is; stands = subst (λ (f : Found). RunStandsFor run (with_found f.run f.state client)) is stands }

-- one turn, by what is picked
abbrev pub turn : ℕ → ReplayState → ℕ → ℕ → Option Run → Found
turn left state client n o =
    unwrap_or (option_map (λ run. cond (is_lost state run n) (found_within left (after_loss state client run n) client n) (found_run state client run n)) o) (found_none state)

-- the search picks none
pub find_missed : (client n : ℕ) (first : ReplayState) (run new : PlainRun) (left : ℕ) → ((state : ReplayState) → RunStandsFor run state → PicksNext new state client n None)
    → FindLeft client n first run (suc left) → Finds new first client n None
unfolding found_within
find_missed client n first run new left picks w = by_pick (picked w.state client n) refl (picks w.state w.stands)
  where
    by_pick : (o : Option Run) → picked w.state client n ≡ o → Picks new w.state client n o None → Finds new first client n None
    by_pick None is p = comes_to client n first new (found_none w.state) (sym (ap (turn left w.state client n) is) ∙ w.rest) p.1
    by_pick (Some r) is p = absurd cc

gone_is : (a : Answer) → a ≡ answers.Gone → is_gone_answer a ≡ true
gone_is answers.Gone e = refl
gone_is _ e = absurd cc

not_gone : (a : Answer) → a ≢ answers.Gone → is_gone_answer a ≡ false
not_gone answers.Gone differs = absurd (differs refl)
not_gone _ differs = refl

some_same : (x y : Run) → ◌≡◌ {A = Option Run} (Some x) (Some y) → x ≡ y
some_same x y e = cc

-- what a turn finds where the lock of what it picked is answered so
pub turned : (left client n : ℕ) (state : ReplayState) (r : Run) (b : Bool) → picked state client n ≡ Some r → is_lost state r n ≡ b
    → turn left state client n (picked state client n) ≡ cond b (found_within left (after_loss state client r n) client n) (found_run state client r n)
turned left client n state r b is lost =
    ap (turn left state client n) is ∙ ap (λ t. cond t (found_within left (after_loss state client r n) client n) (found_run state client r n)) lost

-- what is picked is found gone, and leaves
pub find_next : (client n : ℕ) (first : ReplayState) (run picked_run locked lost : PlainRun) (left : ℕ) (shown : Run) (a : Answer)
    → ((state : ReplayState) → RunStandsFor run state → PicksNext picked_run state client n (Some shown))
    → ((state : ReplayState) → RunStandsFor picked_run state → a ≡ answer state.events (lock_of shown))
    → ((state : ReplayState) → RunStandsFor picked_run state → RunStandsFor locked (after_event state (lock_of shown)))
    → a ≡ answers.Gone
    → ((state : ReplayState) (r : Run) (k : ℕ) → RunStandsFor locked (after_event (after_pick state client r k) (lock_of (front_of r k)))
    → has (holding_of state client) r.segment ≡ true → RunStandsFor lost (after_loss state client r k))
    → FindLeft client n first run (suc left) → FindLeft client n first lost left
unfolding found_within
find_next client n first run picked_run locked lost left shown a picks asks locks gone loses w = by_pick (picked w.state client n) refl (picks w.state w.stands)
  where
    by_pick : (o : Option Run) → picked w.state client n ≡ o → Picks picked_run w.state client n o (Some shown) → FindLeft client n first lost left
    by_pick None is p = absurd cc
    by_pick (Some r) is p =
        let same : shown ≡ front_of r n = some_same shown (front_of r n) p.0 in
        let asked : a ≡ answer w.state.events (lock_of (front_of r n)) = asks (after_pick w.state client r n) p.1 ∙ ap (λ (x : Run). answer w.state.events (lock_of x)) same in
        let is_so : is_lost w.state r n ≡ true = gone_is _ (sym asked ∙ gone) in
        record {
          state = after_loss w.state client r n;
          stands = loses w.state r n
              (subst (λ (x : Run). RunStandsFor locked (after_event (after_pick w.state client r n) (lock_of x))) same (locks (after_pick w.state client r n) p.1)) p.2;
          rest = sym (turned left client n w.state r true is is_so) ∙ w.rest;
        }

-- what is picked serves
pub find_served : (client n : ℕ) (first : ReplayState) (run picked_run locked : PlainRun) (left : ℕ) (shown : Run) (a : Answer)
    → ((state : ReplayState) → RunStandsFor run state → PicksNext picked_run state client n (Some shown))
    → ((state : ReplayState) → RunStandsFor picked_run state → a ≡ answer state.events (lock_of shown))
    → ((state : ReplayState) → RunStandsFor picked_run state → RunStandsFor locked (after_event state (lock_of shown)))
    → a ≢ answers.Gone → FindLeft client n first run (suc left) → Finds locked first client n (Some shown)
unfolding found_within
find_served client n first run picked_run locked left shown a picks asks locks held w = by_pick (picked w.state client n) refl (picks w.state w.stands)
  where
    by_pick : (o : Option Run) → picked w.state client n ≡ o → Picks picked_run w.state client n o (Some shown) → Finds locked first client n (Some shown)
    by_pick None is p = absurd cc
    by_pick (Some r) is p =
        let same : shown ≡ front_of r n = some_same shown (front_of r n) p.0 in
        let asked : a ≡ answer w.state.events (lock_of (front_of r n)) = asks (after_pick w.state client r n) p.1 ∙ ap (λ (x : Run). answer w.state.events (lock_of x)) same in
        let is_so : is_lost w.state r n ≡ false = not_gone _ (subst (λ (x : Answer). x ≢ answers.Gone) asked held) in
        subst (λ (x : Run). Finds locked first client n (Some x)) (sym same)
        (comes_to client n first locked (found_run w.state client r n) (sym (turned left client n w.state r false is is_so) ∙ w.rest)
        (subst (λ (x : Run). RunStandsFor locked (after_event (after_pick w.state client r n) (lock_of x))) same (locks (after_pick w.state client r n) p.1)))

-- there is no free page left
pub find_over : (client n : ℕ) (first : ReplayState) (run : PlainRun) → FindLeft client n first run 0 → Finds run first client n None
unfolding found_within
find_over client n first run w = comes_to client n first run (found_none w.state) w.rest w.stands

-- ---- returns, and what leaves

-- one number more was given back
pub each_more : (ids : List ℕ) (n d : ℕ) (first : ReplayState) → n < length ids
    → after_event (after_events first (map (λ (id : ℕ). event.Back id) (take n ids))) (event.Back (get_or ids n d)) ≡ after_events first (map (λ (id : ℕ). event.Back id) (take (n + 1) ids))
each_more ids n d first within =
    sym (events_more (map (λ (id : ℕ). event.Back id) (take n ids)) (event.Back (get_or ids n d)) first)
    ∙ ap (after_events first) (sym (map-append (λ (id : ℕ). event.Back id) (take n ids) (get_or ids n d ∷ [])))
    ∙ ap (λ (xs : List ℕ). after_events first (map (λ (id : ℕ). event.Back id) xs)) (sym (take_more ids n d within))

-- events happened, and then what a client has changed
pub after_es : (es : List Event) (run : PlainRun) (kept : ScriptHeaps) (state : ReplayState) (client : ℕ) (change : Holding → Holding)
    → RunStandsFor run (after_events state es)
    → ((heaps : Heaps) → Shows run.heaps heaps → Shows kept (with_client heaps client (change (heaps.clients client))))
    → RunStandsFor (record run { heaps = kept }) (with_holding (after_events state es) client (change (holding_of state client)))
after_es es run kept state client change w changes =
    only_heaps run kept (after_events state es) (with_client (after_events state es).heaps client (change (holding_of state client)))
    (subst (λ (h : Heaps). Shows kept (with_client (after_events state es).heaps client (change (h.clients client)))) (heaps_stay es state) (changes (after_events state es).heaps w.heaps))
    w

-- a piece's segment was found gone, and leaves
pub piece_lost : (run : PlainRun) (kept : ScriptHeaps) (state : ReplayState) (piece client : ℕ) (pages : Run) → live state.events pages.segment ≡ false
    → client ≡ (owner_of state.heaps piece).client → RunStandsFor run (after_event state (lock_of pages))
    → ((heaps : Heaps) → Shows run.heaps heaps → Shows kept (with_client heaps client (lost (heaps.clients client) pages.segment)))
    → RunStandsFor (record run { heaps = kept }) (after_piece_lock state piece pages)
piece_lost run kept state piece client pages dead is w loses =
    rw dead
    (only_heaps run kept (after_event state (lock_of pages)) _
    (subst (λ c. Shows kept (with_client state.heaps c (lost (holding_of state c) pages.segment))) is (loses state.heaps w.heaps)) w)

pub sweep_stands : (run : PlainRun) (kept : ScriptHeaps) (state : ReplayState) (client : ℕ) (ids : List ℕ) → ids ≡ purged (live state.events) (holding_of state client)
    → RunStandsFor run state
    → ((heaps : Heaps) → Shows run.heaps heaps → Shows kept (with_client heaps client (lost_all (heaps.clients client) ids)))
    → RunStandsFor (record run { heaps = kept }) (after_sweep state client)
sweep_stands run kept state client ids is w loses =
    only_heaps run kept state _ (subst (λ (xs : List ℕ). Shows kept (with_client state.heaps client (lost_all (holding_of state client) xs))) is (loses state.heaps w.heaps)) w

pub release_stands : (run : PlainRun) (kept : ScriptHeaps) (state : ReplayState) (client : ℕ) (ids : List ℕ) → ids ≡ all_free (holding_of state client)
    → RunStandsFor run (after_events state (map (λ (id : ℕ). event.Back id) ids))
    → ((heaps : Heaps) → Shows run.heaps heaps → Shows kept (with_client heaps client (without_all (heaps.clients client) ids)))
    → RunStandsFor (record run { heaps = kept }) (after_release state client)
release_stands run kept state client ids is w leaves =
    subst (λ (xs : List ℕ). RunStandsFor (record run { heaps = kept }) (with_holding (after_events state (map (λ (id : ℕ). event.Back id) xs)) client (without_all (holding_of state client) xs))) is
    (after_es (map (λ (id : ℕ). event.Back id) ids) run kept state client (λ h. without_all h ids) w leaves)

-- all that left are told: first they count as told, and then each is given back
pub tell_stands : (run : PlainRun) (kept : ScriptHeaps) (state : ReplayState) (client : ℕ) → RunStandsFor run state
    → ((heaps : Heaps) → Shows run.heaps heaps → Shows kept (with_client heaps client (told (heaps.clients client))))
    → RunStandsFor (record run { heaps = kept }) (with_holding state client (told (holding_of state client)))
tell_stands run kept state client w tells = only_heaps run kept state _ (tells state.heaps w.heaps) w

pub told_after : (es : List Event) (state : ReplayState) (client : ℕ) (holding : Holding)
    → after_events (with_holding state client holding) es ≡ with_holding (after_events state es) client holding
told_after es state client holding =
    events_with es state (with_client state.heaps client holding)
    ∙ ap (λ (h : Heaps). record (after_events state es) { heaps = with_client h client holding }) (sym (heaps_stay es state))

-- ---- a new segment

pub adopt_stands : (run : PlainRun) (kept : ScriptHeaps) (state : ReplayState) (client id whole n at : ℕ) → id ≡ grants_of state + 1 → whole ≡ new_pages state n
    → RunStandsFor run (with_free_rest (after_event state (next_grant state client whole)) id n whole at)
    → ((heaps : Heaps) → Shows run.heaps heaps
    → Shows kept (with_next (with_owned (with_client heaps client (adopted (heaps.clients client) id whole n)) id) client (front_of (whole_of id whole) n)))
    → RunStandsFor (record run { heaps = kept }) (with_new_piece state client n at)
adopt_stands run kept state client id whole n at id_is whole_is w adopts =
    let rest : (with_free_rest (after_event state (next_grant state client whole)) id n whole at).heaps ≡ state.heaps =
    rest_heaps (after_event state (next_grant state client whole)) id n whole at
    in
    let shows : Shows kept (with_next (with_owned (with_client state.heaps client (adopted (holding_of state client) id whole n)) id) client (front_of (whole_of id whole) n)) =
    subst (λ (h : Heaps). Shows kept (with_next (with_owned (with_client h client (adopted (h.clients client) id whole n)) id) client (front_of (whole_of id whole) n))) rest (adopts _ w.heaps)
    in
    subst (λ m. RunStandsFor (record run { heaps = kept }) (grown (grants_of state + 1) m)) whole_is
    (subst (λ i. RunStandsFor (record run { heaps = kept }) (grown i whole)) id_is (only_heaps run kept _ _ shows w))
  where
    grown : ℕ → ℕ → ReplayState
    grown i m =
        record (with_free_rest (after_event state (next_grant state client m)) i n m at) {
          heaps = with_next (with_owned (with_client state.heaps client (adopted (holding_of state client) i m n)) i) client (front_of (whole_of i m) n);
        }

-- the standard size is as before
pub standard_before : (state : ReplayState) (client m at : ℕ) → (with_room (after_telling (after_sweep state client) client) m at).standard ≡ state.standard
standard_before state client m at =
    room_standard (after_telling (after_sweep state client) client) m at
    ∙ standard_stays (map (λ (id : ℕ). event.Back id) (holding_of (after_sweep state client) client).untold) (after_sweep state client)

-- room for a grant changes no heap
pub room_heaps : (state : ReplayState) (pages now : ℕ) → (with_room state pages now).heaps ≡ state.heaps
room_heaps state pages now = by_test (nat_lt (room state.limit pages) (granted state.events))
  where
    by_test : (b : Bool) → (cond b (after_reduction state (room state.limit pages) now) state).heaps ≡ state.heaps
    by_test true = heaps_stay (reduction (room state.limit pages) now state.events) state
    by_test false = refl

-- room for a segment changes no number of a piece
owners_before : (state : ReplayState) (client m at : ℕ) → (with_room (after_telling (after_sweep state client) client) m at).heaps.owners ≡ state.heaps.owners
owners_before state client m at =
    ap (λ (h : Heaps). h.owners) (room_heaps (after_telling (after_sweep state client) client) m at)
    ∙ ap (λ (h : Heaps). h.owners) (heaps_stay (map (λ (id : ℕ). event.Back id) (holding_of (after_sweep state client) client).untold) (after_sweep state client))

one_less : (k : ℕ) → k + 1 - 1 ≡ k
one_less k = omega arith

-- a segment that comes changes no number of a piece, and its piece is one more
adoption_owners : (state : ReplayState) (client n at : ℕ) → length (after_adoption state client n at).heaps.owners ≡ next_piece state.heaps
adoption_owners state client n at = refl

pieces_more : (state : ReplayState) (client n at : ℕ) → next_piece (with_new_piece state client n at).heaps ≡ next_piece state.heaps + 1
pieces_more state client n at =
    length-append (after_adoption state client n at).heaps.owners (record { client = client; place = length ((after_adoption state client n at).heaps.clients client).pieces } ∷ [])
    ∙ ap (λ (k : ℕ). k + 1) (adoption_owners state client n at)

-- a piece in a new segment is the next one
pub new_piece_number : (state : ReplayState) (client n at number : ℕ) → number ≡ next_piece (with_new_piece (before_adoption state client n at) client n at).heaps - 1
    → number ≡ next_piece state.heaps
new_piece_number state client n at number is =
    is ∙ ap (λ (k : ℕ). k - 1) (pieces_more (before_adoption state client n at) client n at)
    ∙ one_less (next_piece (before_adoption state client n at).heaps) ∙ ap length (owners_before state client (new_pages state n) at)

-- a search that found none, and then a new segment
pub allocated : (run new : PlainRun) (state : ReplayState) (client n at : ℕ) (found : Option Run) → Finds run state client n found → found ≡ None
    → ((s : ReplayState) → RunStandsFor run s → RunStandsFor new (with_new_piece (before_adoption s client n at) client n at))
    → RunStandsFor run (find state client n).state × RunStandsFor new (after_allocation state client n at)
allocated run new state client n at found finds none begins =
    let missed : (find state client n).run ≡ None = sym finds.is ∙ none in
    let stands : RunStandsFor run (find state client n).state = subst (λ (o : Option Run). RunStandsFor run (with_found o (find state client n).state client)) missed finds.stands in
    (stands, subst (λ (o : Option Run). RunStandsFor new (after_search o (find state client n).state client n at)) (sym missed) (begins (find state client n).state stands))

-- ---- replies

pub allocated_text : (run : PlainRun) (state : ReplayState) (client n at number : ℕ) (found : Option Run) (piece : Run) → Finds run state client n found → found ≡ None
    → number ≡ next_piece (find state client n).state.heaps → piece ≡ next_run (before_adoption (find state client n).state client n at) n
    → piece_words number false piece ≡ allocation_text state client n at
allocated_text run state client n at number found piece finds none is here =
    let missed : (find state client n).run ≡ None = sym finds.is ∙ none in
    ap (λ (k : ℕ). piece_words k false piece) is
    ∙ ap (λ (r : Run). piece_words (next_piece (find state client n).state.heaps) false r) here
    ∙ sym (ap (λ (o : Option Run). searched_text o (find state client n).state client n at) missed)

pub runs_more : (runs : List Run) (n : ℕ) (run : Run) (start old new : List ℕ) → Some run ≡ slice_get runs n
    → old ≡ start ++ (codes "runs" ++ flat_map run_words (take n runs)) → new ≡ old ++ run_words run
    → new ≡ start ++ (codes "runs" ++ flat_map run_words (take (n + 1) runs))
runs_more runs n run start old new is so_far more =
    let within : n < length runs = slice_get_within runs n run (sym is) in
    let here : get_or runs n run ≡ run = get_or_from_slice_get runs n run run (sym is) in
    more ∙ ap (λ (xs : List ℕ). xs ++ run_words run) so_far
    ∙ append_assoc start (codes "runs" ++ flat_map run_words (take n runs)) (run_words run)
    ∙ ap (λ (xs : List ℕ). start ++ xs) (append_assoc (codes "runs") (flat_map run_words (take n runs)) (run_words run))
    ∙ ap (λ (xs : List ℕ). start ++ (codes "runs" ++ xs)) (sym (flat_map-append run_words (take n runs) (run ∷ []) ∙ ap (λ (xs : List ℕ). flat_map run_words (take n runs) ++ xs) (append-nil (run_words run))))
    ∙ ap (λ (xs : List Run). start ++ (codes "runs" ++ flat_map run_words xs)) (sym (take_more runs n run within ∙ ap (λ (x : Run). take n runs ++ x ∷ []) here))

pub none_past : (runs : List Run) (n : ℕ) → None ≡ slice_get runs n → n < length runs → ⊥
none_past runs n none within = let here = slice_get-get_or runs n (record { segment = 0; first = 0; pages = 0 }) within in absurd cc

-- ---- answers

pub on_ok : {T E P : Type 0} (r : Result T E) → P → OnOk r P
on_ok (Ok v) p = p
on_ok (Err e) p = tt
