use Rattle.std.proofs.Common.{refl}
use Rattle.script_heaps.proofs.Clients.{shows_adopted}
use Rattle.script_heaps.proofs.heaps.ScriptHeaps.adopt.Goals as goal

pub returns : goal.returns
returns c = λ heaps shows.
    shows_adopted c.adopt_first.new.self _ heaps c.args.client c.args.id c.args.whole c.args.pages c.in_ok-place.place refl c.in_ok-push.ensures.items c.in_ok-mark.ensures
    (c.in_ok-place.ensures.place heaps shows) (c.in_ok-place.ensures.adopts heaps shows)
