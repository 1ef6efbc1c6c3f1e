use Rattle.std.proofs.Common.{List, Option, [], ◌∷◌, sym, ap, ◌∙◌, subst, ◌++◌}
use Rattle.std.specs.Option.{option_to_list}
use Rattle.span_heap.specs.declared.run.Run.{Run}
use Rattle.script_heaps.specs.Sound.{IsPiece}
use Rattle.script_heaps.proofs.PiecesAtPlaces.{piece_front}
use Rattle.script_heaps.proofs.KeptThrough.{kept_fewer}
use Rattle.script_heaps.proofs.Losing.{lost_last}
use Rattle.script_heaps.proofs.client_heap.ClientHeap.lose_last.Goals as goal

pub invariant_of-self : goal.invariant_of-self
invariant_of-self c =
    kept_fewer c.self.inside.heap c.self.inside.segments.items c.self.inside.pieces.items c.pop.new.self.items c.self.inside.last c.self.invariant
    (λ place run is. subst (λ (ps : List (Option Run)). IsPiece ps place run) (sym c.pop.ensures.items) (piece_front c.pop.new.self.items (option_to_list c.pop.result) place run is))

pub invariant_of-self-in_default : goal.invariant_of-self-in_default
invariant_of-self-in_default c =
    kept_fewer c.self.inside.heap c.self.inside.segments.items c.self.inside.pieces.items c.pop.new.self.items c.self.inside.last c.self.invariant
    (λ place run is. subst (λ (ps : List (Option Run)). IsPiece ps place run) (sym c.pop.ensures.items) (piece_front c.pop.new.self.items (option_to_list c.pop.result) place run is))

pub returns-in_ok-lose : goal.returns-in_ok-lose
returns-in_ok-lose c = λ before run n is there.
    c.in_ok-lose.ensures ∙ (rw c.segment.ensures
    (lost_last c.self.inside.heap c.self.inside.untold.items c.self.inside.pieces.items c.pop.new.self.items c.in-Some-Some.span before run n
    (c.in-Some-Some.ensures.items ∙ ap (λ (p : Option Run). c.pop.new.self.items ++ p ∷ []) c.in-Some-Some.field-0-is) (c.self.view_is ∙ is) there))
