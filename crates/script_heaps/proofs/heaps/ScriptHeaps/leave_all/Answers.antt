use Rattle.std.proofs.Common.{◌∙◌, ap, refl}
use Rattle.script_heaps.specs.Holding.{Holding, without_all}
use Rattle.script_heaps.proofs.Clients.{client_missing, shows_same, nothing_left}
use Rattle.script_heaps.proofs.heaps.ScriptHeaps.leave_all.Goals as goal

pub returns-in-None : goal.returns-in-None
returns-in-None c = λ heaps shows.
    shows_same c.args.self.now _ heaps c.args.client (without_all (heaps.clients c.args.client) c.args.ids.now)
    (ap (λ (h : Holding). without_all h c.args.ids.now) (client_missing c.args.self.now heaps c.args.client c.in-None.ensures.value shows) ∙ nothing_left c.args.ids.now)
    c.in-None.ensures.value (ap (λ m. m.entries) c.get_mut.follows.holds-at-none) refl refl shows
