-- The returns of a client's segments, one by one.
use Rattle.std.proofs.Common.{◌≡◌, ℕ, ◌+◌, ◌<◌, ◌≤◌, ◌==◌, suc, Bool, true, false, ◌&&◌, cond, List, ◌∷◌, map, filter, refl, sym, ap, ◌∙◌, subst, arith}
use Rattle.std.specs.List.{range_with_len}
use Rattle.std.proofs.lemmas.Bool.{ne_eqb}
use Rattle.machine.specs.declared.event.Event.{Event}
use Rattle.machine.specs.declared.event.Event.TheVariants.{Back}
use Rattle.machine.specs.Answers.{answer, answered, is_plain}
use Rattle.machine.specs.History.{client_of}
use Rattle.replay_plain.specs.declared.run.PlainRun.{PlainRun}
use Rattle.replay_plain.specs.State.{ReplayState, after_event, after_events, grants_of}
use Rattle.replay_plain.specs.Commands.{is_of, returns_of}
use Rattle.replay_plain.specs.Run.{RunStandsFor}
use Rattle.replay_plain.proofs.Effects.{client_other, plain_other}
use Rattle.replay_plain.proofs.Following.{pushed, no_more}

-- the returns of those numbers of these many, from one on, that are the client's at first
abbrev pub returns_from : ReplayState → ℕ → ℕ → ℕ → List Event
returns_from first client id left = map (λ n. Back n) (filter (is_of first client) (range_with_len id left))

-- what is left to give back makes of the state what all returns make of the first
pub record ReturnsLeft (client : ℕ) (first : ReplayState) (run : PlainRun) (id : ℕ) : Type 0 where
  pub state : ReplayState
  pub stands : RunStandsFor run state
  pub rest : (left : ℕ) → id + left ≡ grants_of first + 1
      → after_events state (returns_from first client id left) ≡ after_events first (returns_of first client)
  pub same : (s : ℕ) → id ≤ s → is_of state client s ≡ is_of first client s
  pub drawn : grants_of state ≡ grants_of first

pub returns_first : (client : ℕ) (first : ReplayState) (run : PlainRun) → RunStandsFor run first → ReturnsLeft client first run 1
returns_first client first run w =
    record {
      state = first;
      stands = w;
      rest = λ left is. ap (λ n. after_events first (returns_from first client 1 n)) (omega arith);
      same = λ s h. refl;
      drawn = refl;
    }

-- one number more of the rest
front : (first : ReplayState) (client id left : ℕ) (b : Bool) → is_of first client id ≡ b
    → returns_from first client id (suc left) ≡ cond b (Back id ∷ returns_from first client (id + 1) left) (returns_from first client (id + 1) left)
front first client id left b is =
    ap (λ t. map (λ n. Back n) (cond t (id ∷ filter (is_of first client) (range_with_len (id + 1) left)) (filter (is_of first client) (range_with_len (id + 1) left)))) is
    ∙ by_test b
  where
    by_test : (t : Bool) → map (λ n. Back n) (cond t (id ∷ filter (is_of first client) (range_with_len (id + 1) left)) (filter (is_of first client) (range_with_len (id + 1) left)))
        ≡ cond t (Back id ∷ returns_from first client (id + 1) left) (returns_from first client (id + 1) left)
    by_test true = refl
    by_test false = refl

pub returns_passed : (client : ℕ) (first : ReplayState) (run : PlainRun) (id : ℕ)
    → ((state : ReplayState) → RunStandsFor run state → grants_of state ≡ grants_of first → is_of state client id ≡ false)
    → ReturnsLeft client first run id → ReturnsLeft client first run (id + 1)
returns_passed client first run id not_of w =
    let here : is_of first client id ≡ false = sym (w.same id (omega arith)) ∙ not_of w.state w.stands w.drawn in
    record {
      state = w.state;
      stands = w.stands;
      rest = λ left is. ap (after_events w.state) (sym (front first client id left false here)) ∙ w.rest (suc left) (omega arith);
      same = λ s h. w.same s (omega arith);
      drawn = w.drawn;
    }

other_same : (state : ReplayState) (client id s : ℕ) → id < s → is_of (after_event state (Back id)) client s ≡ is_of state client s
other_same state client id s h =
    let e = Back id in
    let a = answer state.events e in
    let ne : (id == s) ≡ false = ne_eqb id s (λ same. omega arith) in
    let next = pushed state.events e a refl in
    ap (λ g. client_of g s == client && is_plain g s) next
    ∙ ap (λ n. n == client && is_plain ((e, a) ∷ answered state.events) s) (client_other (answered state.events) e a s ne)
    ∙ ap (λ b. client_of (answered state.events) s == client && b) (plain_other (answered state.events) e a s ne)

pub returns_next : (client : ℕ) (first : ReplayState) (old new : PlainRun) (id : ℕ)
    → ((state : ReplayState) → RunStandsFor old state → grants_of state ≡ grants_of first → is_of state client id ≡ true)
    → ((state : ReplayState) → RunStandsFor old state → RunStandsFor new (after_event state (Back id)))
    → ReturnsLeft client first old id → ReturnsLeft client first new (id + 1)
returns_next client first old new id is_its stands w =
    let here : is_of first client id ≡ true = sym (w.same id (omega arith)) ∙ is_its w.state w.stands w.drawn in
    record {
      state = after_event w.state (Back id);
      stands = stands w.state w.stands;
      rest = λ left is. ap (after_events w.state) (sym (front first client id left true here)) ∙ w.rest (suc left) (omega arith);
      same = λ s h. other_same w.state client id s (omega arith) ∙ w.same s (omega arith);
      drawn = no_more w.state.events (Back id) refl ∙ w.drawn;
    }

pub returns_over : (client : ℕ) (first : ReplayState) (run : PlainRun) (id : ℕ) → id ≡ grants_of first + 1 → ReturnsLeft client first run id
    → RunStandsFor run (after_events first (returns_of first client))
returns_over client first run id ended w = subst (RunStandsFor run) (w.rest 0 (omega arith)) w.stands
