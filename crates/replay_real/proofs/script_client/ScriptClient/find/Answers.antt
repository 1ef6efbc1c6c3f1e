use Rattle.std.proofs.Common.{◌++◌, ◌∷◌, [], List, Option, Some, sym, ap, ◌∙◌, subst}
use Rattle.client.specs.Pieces.{Part}
use Rattle.replay_real.specs.Served.{IsServed}
use Rattle.replay_real.proofs.Serving.{served_push}
use Rattle.replay_real.proofs.script_client.ScriptClient.find.Goals as goal

pub invariant_of-self-in-Some : goal.invariant_of-self-in-Some
invariant_of-self-in-Some c =
    subst (IsServed c.find.new.self)
    (sym (c.push_reserved.ensures.items ∙ ap (λ (xs : List (Option Part)). xs ++ Some c.in-Some.piece ∷ []) c.in_ok-reserve.ensures.items))
    (served_push c.self.inside.client c.find.new.self c.self.inside.pieces.items c.args.pages c.in-Some.piece c.requires.0 c.in-Some.ensures.stay c.in-Some.ensures.piece c.self.invariant)
