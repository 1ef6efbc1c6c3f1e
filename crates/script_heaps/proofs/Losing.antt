-- A search that was lost leaves no trace but that its segment leaves.
use Rattle.std.proofs.Common.{◌≡◌, ℕ, ◌==◌, nat_lt, Bool, true, false, not, cond, ◌&&◌, List, [], ◌∷◌, ◌++◌, Option, Some, refl, sym, ap, ◌∙◌}
use Rattle.std.specs.List.{filter}
use Rattle.std.proofs.lemmas.Bool.{eq-eqb}
use Rattle.std.proofs.lemmas.List.Elements.{filter-append}
use Rattle.std.proofs.lemmas.List.{append-nil}
use Rattle.std.proofs.lemmas.Option.{same_Some}
use Rattle.span_heap.specs.declared.run.Run.{Run}
use Rattle.span_heap.specs.Run.{lies_in, is_run}
use Rattle.span_heap.specs.Runs.{front_of, back_of, rest_of, carved, dropped}
use Rattle.span_heap.specs.Segment.{Segment}
use Rattle.span_heap.specs.Heap.{Contents, has_id, has_segment}
use Rattle.script_heaps.specs.Holding.{Holding, has, lost, taken, with_piece}
use Rattle.script_heaps.specs.Sound.{seen_of}
use Rattle.script_heaps.proofs.PiecesAtPlaces.{last_same}

step : (a b : Bool) (r : Run) (rest : List Run) (id : ℕ) (left : List Run) → lies_in id r ≡ a → dropped rest id ≡ left → dropped (cond (not (a && b)) (r ∷ rest) rest) id ≡ cond (not a) (r ∷ left) left
step true true r rest id left is e = e
step true false r rest id left is e = rw is e
step false b r rest id left is e = rw is (ap (λ (xs : List Run). r ∷ xs) e)

dropped_others : (runs : List Run) (run : Run) → dropped (filter (λ (other : Run). not (is_run run other)) runs) run.segment ≡ dropped runs run.segment
dropped_others [] run = refl
dropped_others (r ∷ runs) run =
    step (r.segment == run.segment) ((r.first == run.first) && (r.pages == run.pages)) r (filter (λ (other : Run). not (is_run run other)) runs) run.segment (dropped runs run.segment) refl (dropped_others runs run)

dropped_rest : (t : Bool) (run : Run) (n : ℕ) → dropped (cond t (back_of run n ∷ []) []) run.segment ≡ []
dropped_rest true run n = rw (eq-eqb run.segment run.segment refl) refl
dropped_rest false run n = refl

-- where its segment is dropped, a run that was carved is as one that was not
pub dropped_carved : (runs : List Run) (run : Run) (n : ℕ) → dropped (carved runs run n) run.segment ≡ dropped runs run.segment
dropped_carved runs run n =
    filter-append (λ (r : Run). not (lies_in run.segment r)) (filter (λ (other : Run). not (is_run run other)) runs) (rest_of run n)
    ∙ (ap (λ (xs : List Run). dropped (filter (λ (other : Run). not (is_run run other)) runs) run.segment ++ xs) (dropped_rest (nat_lt n run.pages) run n)
    ∙ (append-nil (dropped (filter (λ (other : Run). not (is_run run other)) runs) run.segment) ∙ dropped_others runs run))

-- what is left where a segment is among a client's
lost_there : (holding : Holding) (id : ℕ) → has holding id ≡ true
    → lost holding id ≡ record { segments = filter (λ (s : Segment). not (has_id id s)) holding.segments; runs = dropped holding.runs id; untold = holding.untold ++ id ∷ []; pieces = holding.pieces }
lost_there holding id there = rw there refl

same_holding : (ss ss' : List Segment) (runs runs' : List Run) (untold untold' : List ℕ) (pieces pieces' : List (Option Run)) → ss ≡ ss' → runs ≡ runs' → untold ≡ untold' → pieces ≡ pieces'
    → ◌≡◌ {A = Holding} (record { segments = ss; runs = runs; untold = untold; pieces = pieces }) (record { segments = ss'; runs = runs'; untold = untold'; pieces = pieces' })
same_holding ss ss' runs runs' untold untold' pieces pieces' a b c d = rw (a, b, c, d) refl

pub lost_last : (heap : Contents) (untold : List ℕ) (pieces front : List (Option Run)) (span : Run) (before : Holding) (run : Run) (n : ℕ) → pieces ≡ front ++ Some span ∷ []
    → seen_of heap untold pieces ≡ with_piece (taken before run n) (front_of run n) → has before run.segment ≡ true → lost (seen_of heap untold front) span.segment ≡ lost before run.segment
lost_last heap untold pieces front span before run n popped is there =
    let segments : heap.segments ≡ before.segments = ap (λ (h : Holding). h.segments) is in
    let runs : heap.free ≡ carved before.runs run n = ap (λ (h : Holding). h.runs) is in
    let tell : untold ≡ before.untold = ap (λ (h : Holding). h.untold) is in
    let last = last_same front before.pieces (Some span) (Some (front_of run n)) (sym popped ∙ ap (λ (h : Holding). h.pieces) is) in
    let id : span.segment ≡ run.segment = ap (λ (r : Run). r.segment) (same_Some span (front_of run n) last.1) in
    let here : has (seen_of heap untold front) run.segment ≡ true = ap (λ (ss : List Segment). has_segment ss run.segment) segments ∙ there in
    ap (lost (seen_of heap untold front)) id
    ∙ (lost_there (seen_of heap untold front) run.segment here
    ∙ (same_holding _ _ _ _ _ _ _ _ (ap (λ (ss : List Segment). filter (λ (s : Segment). not (has_id run.segment s)) ss) segments)
    (ap (λ (rs : List Run). dropped rs run.segment) runs ∙ dropped_carved before.runs run n) (ap (λ (ns : List ℕ). ns ++ run.segment ∷ []) tell) last.0
    ∙ sym (lost_there before run.segment there)))
