use Rattle.std.proofs.Common.{◌≡◌, ℕ, ◌+◌, ◌-◌, ◌<◌, ◌≤◌, [], Some, None, arith, map, false}
use Rattle.std.specs.List.{All}
use Rattle.free_lists.specs.Lists.{list_of}
use Rattle.std.proofs.lemmas.List.Elements.{All-nil}
use Rattle.span_heap.specs.Pick.{fits, pick}
use Rattle.span_heap.specs.Placed.{run_at, IsLatestLong}
use Rattle.span_heap.proofs.ByClass.{last_or-some, picks, nothing_picked, fits_exact, match_to}
use Rattle.span_heap.proofs.by_class.pick_place.Goals as goal

pub returns-in-Some : goal.returns-in-Some
returns-in-Some c = λ order by_class.
    let e = c.in-Some.ensures in
    let runs = c.args.runs.now in
    let slack = c.args.most - c.args.pages in
    let cut = last_or-some (list_of c.args.lists.now e.0) c.in-Some.place e.5 in
    let high : e.0 ≤ c.args.pages + slack = omega (arith, e.2, c.requires.order) in
    picks c.args.lists.now runs order c.args.pages slack e.0 c.in-Some.place cut.0 [] by_class c.requires.sized (omega (arith, e.1, c.requires.sized)) (omega (arith, e.3))
    (λ k low most less. e.4 k low less (omega (arith, less, e.3))) cut.1
    (fits_exact runs c.args.pages slack e.0 c.in-Some.place e.1 high e.3)
    (All-nil (λ other. fits c.args.pages slack (run_at runs other) ≡ false))

pub returns-in-None : goal.returns-in-None
returns-in-None c = λ order by_class.
    let runs = c.args.runs.now in
    let lists = c.args.lists.now in
    let n = c.args.pages in
    let slack = c.args.most - c.args.pages in
    let empty : (k : ℕ) → n ≤ k → k ≤ n + slack → k < 256 → list_of lists k ≡ [] = λ k low high less. c.in-None.ensures k low (omega (arith, high, c.requires.order)) less in
    match_to (All (λ place. fits n slack (run_at runs place) ≡ false) (list_of lists 256)) (pick (map (run_at runs) order) n slack ≡ None)
    (IsLatestLong lists runs n slack) (λ place. pick (map (run_at runs) order) n slack ≡ Some (run_at runs place)) c.pick_long.result
    (λ none. nothing_picked lists runs order n slack by_class c.requires.sized empty none)
    (λ place e. picks lists runs order n slack 256 place e.0 e.1 by_class c.requires.sized (omega arith) (omega arith) empty e.2 (λ of_class. e.3) e.4)
    c.pick_long.ensures
