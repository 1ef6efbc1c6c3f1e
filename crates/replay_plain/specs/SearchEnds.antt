-- Why a search for pages ends, with no bound on its turns.
use Rattle.std.specs.Prelude.{◌≡◌, ℕ, true, false, List, [], ◌∷◌, All, Option, Some, None}
use Rattle.span_heap.specs.declared.run.Run.{Run}
use Rattle.span_heap.specs.Changes.{NoneFits}
use Rattle.script_heaps.specs.Holding.{Holding, has}
use Rattle.replay_plain.specs.State.{ReplayState}
use Rattle.replay_plain.specs.Pieces.{Found, holding_of, slack_of, picked, is_lost, after_loss, found_none, found_run, find}

-- each free run of a client lies in one of its segments
abbrev pub RunsLieInSegments : Holding → Type 0
RunsLieInSegments holding = All (λ run. has holding run.segment ≡ true) holding.runs

-- no free run of a client has a length that serves n pages
abbrev pub NoneServes : ReplayState → ℕ → ℕ → Type 0
NoneServes state client n = NoneFits (holding_of state client).runs n (slack_of state n)

-- a search for n pages finds none only where no free run that is left serves
abbrev pub FindsNoneRightly : ReplayState → ℕ → ℕ → Type 0
FindsNoneRightly state client n = (find state client n).run ≡ None → NoneServes (find state client n).state client n

-- Where a search ends, by the run that it picks there. No free run serves, and it found none; or the run lies
-- in a segment of the client's, its lock does not find that gone, and its first n pages are what was found.
abbrev pub EndsBy : ReplayState → ℕ → ℕ → Option Run → Found → Type 0
EndsBy state client n None found = NoneServes state client n × (found ≡ found_none state)
EndsBy state client n (Some run) found =
    (has (holding_of state client) run.segment ≡ true) × (is_lost state run n ≡ false) × (found ≡ found_run state client run n)

-- A search picks each of these runs in turn, whose segment its lock finds gone, and which leaves; then it ends.
abbrev pub EndsAfter : List Run → ReplayState → ℕ → ℕ → Found → Type 0
EndsAfter [] state client n found = EndsBy state client n (picked state client n) found
EndsAfter (run ∷ later) state client n found =
    (picked state client n ≡ Some run) × (is_lost state run n ≡ true) × EndsAfter later (after_loss state client run n) client n found

-- a search for n pages goes on until it is served, or no free run serves
abbrev pub EndsInTurn : ReplayState → ℕ → ℕ → Type 0
EndsInTurn state client n = (gone : List Run) × EndsAfter gone state client n (find state client n)
