-- A search ends for the right reason: each turn that goes on drops a run, so the free pages are turns enough.
use Rattle.std.proofs.Common.{◌≡◌, ℕ, ◌+◌, ◌≤◌, zero, suc, Bool, true, false, cond, List, [], ◌∷◌, get_or, Option, Some, None, refl, sym, ap, ◌∙◌, subst, arith}
use Rattle.std.specs.List.{All}
use Rattle.std.proofs.lemmas.Bool.{eq-eqb}
use Rattle.std.proofs.lemmas.List.Sums.{get_or-le-sum_by}
use Rattle.span_heap.specs.declared.run.Run.{Run}
use Rattle.span_heap.specs.Run.{lies_in, pages_of}
use Rattle.span_heap.specs.Runs.{dropped}
use Rattle.span_heap.proofs.Sums.{sum_by-filter, sum_of_three_parts}
use Rattle.span_heap.proofs.SearchTakesThePick.{pick_has_pages, pick-none}
use Rattle.script_heaps.specs.Holding.{Holding, has, lost}
use Rattle.replay_plain.specs.State.{ReplayState}
use Rattle.replay_plain.specs.Pieces.{Found, holding_of, slack_of, picked, is_lost, after_loss, found_none, found_within, find}
use Rattle.replay_plain.specs.SearchEnds.{RunsLieInSegments, NoneServes, FindsNoneRightly, EndsBy, EndsAfter, EndsInTurn}
use Rattle.replay_plain.proofs.Allocating.{turned}
use Rattle.replay_plain.proofs.RunsLieInSegments.{pick_has, inside_lost}

-- where the segment of a run is dropped, the free pages are fewer by those of the run at least
abbrev DropsPages : List Run → Run → Type 0
DropsPages runs run = run.pages + pages_of (dropped runs run.segment) ≤ pages_of runs

each_drops : (runs : List Run) → All (DropsPages runs) runs
each_drops runs = λ k d within.
    let run : Run = get_or runs k d in
    let pages : Run → ℕ = λ r. r.pages in
    let there : Run → Bool = lies_in run.segment in
    let here : cond {A = ℕ} (there run) run.pages 0 ≡ run.pages = ap (λ b. cond {A = ℕ} b run.pages 0) (eq-eqb run.segment run.segment refl) in
    omega (
      arith,
      here,
      get_or-le-sum_by (λ r. cond {A = ℕ} (there r) (pages r) 0) runs k d within,
      sum_by-filter pages there runs,
      sum_of_three_parts pages (λ r. false) there (λ r is. absurd cc) runs,
    )

-- the same of the run that a search picks
picked_drops : (state : ReplayState) (client n : ℕ) (run : Run) → picked state client n ≡ Some run → DropsPages (holding_of state client).runs run
picked_drops state client n run is =
    pick_has (DropsPages (holding_of state client).runs) (holding_of state client).runs n (slack_of state n) run (each_drops (holding_of state client).runs) is

picked_pages : (state : ReplayState) (client n : ℕ) (run : Run) → picked state client n ≡ Some run → n ≤ run.pages
picked_pages state client n run is = pick_has_pages (holding_of state client).runs n (slack_of state n) run is

-- what the client has after a loss
after_is : (state : ReplayState) (client n : ℕ) (run : Run) → holding_of (after_loss state client run n) client ≡ lost (holding_of state client) run.segment
after_is state client n run = ap (λ b. cond b (lost (holding_of state client) run.segment) (holding_of state client)) (eq-eqb client client refl)

lost_runs : (h : Holding) (id : ℕ) → has h id ≡ true → (lost h id).runs ≡ dropped h.runs id
lost_runs h id there = rw there refl

-- the search ends here
ended : (state : ReplayState) (client n : ℕ) (o : Option Run) (found : Found) → picked state client n ≡ o → EndsBy state client n o found → EndsAfter [] state client n found
ended state client n o found is ends = subst (λ x. EndsBy state client n x found) (sym is) ends

none_serves : (state : ReplayState) (client n : ℕ) → picked state client n ≡ None → NoneServes state client n
none_serves state client n is = (pick-none (holding_of state client).runs n (slack_of state n)).0 is

-- so many turns are enough for a search in each state that has no more free pages
abbrev EndsWithin : ℕ → ℕ → ℕ → Type 0
EndsWithin client n most =
    (state : ReplayState) → RunsLieInSegments (holding_of state client) → pages_of (holding_of state client).runs ≤ most
    → (gone : List Run) × EndsAfter gone state client n (found_within most state client n)

-- as many turns as there are free pages are enough
ends_within : (client n most : ℕ) → 1 ≤ n → EndsWithin client n most
unfolding found_within
ends_within client n zero some state inside few = by_pick (picked state client n) refl
  where
    by_pick : (o : Option Run) → picked state client n ≡ o → (gone : List Run) × EndsAfter gone state client n (found_none state)
    by_pick None is = ([], ended state client n None _ is (none_serves state client n is, refl))
    by_pick (Some run) is = absurd (omega (arith, some, few, picked_pages state client n run is, picked_drops state client n run is))
ends_within client n (suc most) some state inside few = by_pick (ends_within client n most some) (picked state client n) refl
  where
    by_lost : EndsWithin client n most → (run : Run) → picked state client n ≡ Some run → has (holding_of state client) run.segment ≡ true → (b : Bool) → is_lost state run n ≡ b
        → (gone : List Run) × EndsAfter gone state client n (found_within (suc most) state client n)
    by_lost more run is there true gone =
        let after : ReplayState = after_loss state client run n in
        let now = after_is state client n run in
        let fewer : pages_of (holding_of after client).runs ≤ most =
        let left = ap (λ (h : Holding). pages_of h.runs) now ∙ ap pages_of (lost_runs (holding_of state client) run.segment there) in
        omega (arith, some, few, left, picked_pages state client n run is, picked_drops state client n run is) in
        let rest = more after (subst RunsLieInSegments (sym now) (inside_lost (holding_of state client) run.segment inside)) fewer in
        (run ∷ rest.0, (is, gone, subst (EndsAfter rest.0 after client n) (sym (turned most client n state run true is gone)) rest.1))
    by_lost more run is there false here = ([], ended state client n (Some run) _ is (there, here, turned most client n state run false is here))

    by_pick : EndsWithin client n most → (o : Option Run) → picked state client n ≡ o → (gone : List Run) × EndsAfter gone state client n (found_within (suc most) state client n)
    by_pick more None is = ([], ended state client n None _ is (none_serves state client n is, missed))
      where
        missed : found_within (suc most) state client n ≡ found_none state
        missed = rw is refl
    by_pick more (Some run) is = by_lost more run is (pick_has (λ (r : Run). has (holding_of state client) r.segment ≡ true) _ n (slack_of state n) run inside is) (is_lost state run n) refl

pub ends_in_turn : (state : ReplayState) (client n : ℕ) → 1 ≤ n → RunsLieInSegments (holding_of state client) → EndsInTurn state client n
ends_in_turn state client n some inside = ends_within client n _ some state inside (omega arith)

-- where it ends with none, none serves
none_after : (gone : List Run) (state : ReplayState) (client n : ℕ) (found : Found) → EndsAfter gone state client n found → found.run ≡ None → NoneServes found.state client n
none_after [] state client n found ends none = by_pick (picked state client n) ends
  where
    by_pick : (o : Option Run) → EndsBy state client n o found → NoneServes found.state client n
    by_pick None e = subst (λ (f : Found). NoneServes f.state client n) (sym e.1) e.0
    by_pick (Some run) e = let served = sym none ∙ ap (λ (f : Found). f.run) e.2 in absurd cc
none_after (run ∷ gone) state client n found ends none = none_after gone (after_loss state client run n) client n found ends.2 none

pub finds_none_rightly : (state : ReplayState) (client n : ℕ) → 1 ≤ n → RunsLieInSegments (holding_of state client) → FindsNoneRightly state client n
finds_none_rightly state client n some inside none =
    let w = ends_in_turn state client n some inside in
    none_after w.0 state client n (find state client n) w.1 none
