use Rattle.std.proofs.Common.{◌++◌, ◌∷◌, [], List, Option, Some, sym, ap, ◌∙◌, subst}
use Rattle.client.specs.Pieces.{Part}
use Rattle.replay_real.specs.Served.{IsServed}
use Rattle.replay_real.proofs.Serving.{served_push}
use Rattle.replay_real.proofs.script_client.ScriptClient.adopt.Goals as goal

pub invariant_of-self-2 : goal.invariant_of-self-2
invariant_of-self-2 c =
    subst (IsServed c.adopt.new.self)
    (sym (c.push_reserved.ensures.items ∙ ap (λ (xs : List (Option Part)). xs ++ Some c.in-Ok.piece ∷ []) c.in_ok-reserve.ensures.items))
    (served_push c.self.inside.client c.adopt.new.self c.self.inside.pieces.items c.args.pages c.in-Ok.piece c.requires.pages.0 c.in-Ok.ensures.stay c.in-Ok.ensures.piece c.self.invariant)
