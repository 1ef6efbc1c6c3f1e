-- The tries of a reduction, one by one.
use Rattle.std.proofs.Common.{◌≡◌, ℕ, ◌+◌, ◌-◌, ◌*◌, zero, suc, List, [], ◌∷◌, ◌++◌, length, Some, None, option_map, unwrap_or, refl, sym, ap, ◌∙◌, subst, arith}
use Rattle.std.proofs.Math.Numerals.{add-one}
use Rattle.machine.specs.declared.event.Event.{Event}
use Rattle.machine.specs.declared.event.Event.TheVariants as event
use Rattle.machine.specs.Answers.{answered, granted_numbers}
use Rattle.replay_plain.specs.declared.run.PlainRun.{PlainRun}
use Rattle.replay_plain.specs.State.{ReplayState, after_event, after_events, grants_of}
use Rattle.replay_plain.specs.Reductions.{next_try, tries_within, reduction}
use Rattle.replay_plain.specs.Known.{numbers_to}
use Rattle.replay_plain.specs.Run.{RunStandsFor}

numbers_count : (n : ℕ) → length (numbers_to n) ≡ n
numbers_count zero = refl
numbers_count (suc n) = let more = numbers_count n in omega arith

-- what is left to try makes of the state what all tries make of the first
pub record TriesLeft (limit now : ℕ) (first : ReplayState) (run : PlainRun) (left : ℕ) : Type 0 where
  pub state : ReplayState
  pub stands : RunStandsFor run state
  pub rest : after_events state (tries_within left limit now state.events) ≡ after_events first (reduction limit now first.events)

pub tries_first : (limit now : ℕ) (first : ReplayState) (run : PlainRun) (left : ℕ) → RunStandsFor run first → left ≡ 2 * (length run.known.items - 1)
    → TriesLeft limit now first run left
tries_first limit now first run left w is =
    let drawn = w.known.drawn in
    let count : length (granted_numbers (answered first.events)) ≡ grants_of first = ap length w.known.numbers ∙ numbers_count (grants_of first) in
    record {
      state = first;
      stands = w;
      rest = ap (λ n. after_events first (tries_within n limit now first.events)) (omega arith);
    }

pub tries_next : (limit now : ℕ) (first : ReplayState) (old new : PlainRun) (left id : ℕ)
    → ((state : ReplayState) → RunStandsFor old state → Some id ≡ next_try limit now state.events)
    → ((state : ReplayState) → RunStandsFor old state → RunStandsFor new (after_event state (event.Try id now)))
    → TriesLeft limit now first old (left + 1) → TriesLeft limit now first new left
unfolding tries_within
tries_next limit now first old new left id tried stands w =
    record {
      state = after_event w.state (event.Try id now);
      stands = stands w.state w.stands;
      rest = ap (λ o. after_events w.state (unwrap_or (option_map (λ n. event.Try n now ∷ tries_within left limit now (w.state.events ++ event.Try n now ∷ [])) o) []))
          (tried w.state w.stands)
          ∙ ap (λ n. after_events w.state (tries_within n limit now w.state.events)) (sym (add-one left)) ∙ w.rest;
    }

-- where no try is next none is left
none_next : (limit now : ℕ) (events : List Event) (left : ℕ) → None ≡ next_try limit now events → tries_within left limit now events ≡ []
unfolding tries_within
none_next limit now events zero none = refl
none_next limit now events (suc left) none =
    sym (ap (λ o. unwrap_or (option_map (λ n. event.Try n now ∷ tries_within left limit now (events ++ event.Try n now ∷ [])) o) []) none)

pub tries_ended : (limit now : ℕ) (first : ReplayState) (run : PlainRun) (left : ℕ) → ((state : ReplayState) → RunStandsFor run state → None ≡ next_try limit now state.events)
    → TriesLeft limit now first run left → RunStandsFor run (after_events first (reduction limit now first.events))
tries_ended limit now first run left none w =
    subst (RunStandsFor run) (ap (after_events w.state) (sym (none_next limit now w.state.events left (none w.state w.stands))) ∙ w.rest) w.stands

pub tries_over : (limit now : ℕ) (first : ReplayState) (run : PlainRun) → TriesLeft limit now first run 0
    → RunStandsFor run (after_events first (reduction limit now first.events))
unfolding tries_within
tries_over limit now first run w = subst (RunStandsFor run) w.rest w.stands
