use Rattle.std.proofs.Common.{◌≡◌, subst, All, IsSome, IfSome}
use Rattle.serve_run.specs.Working.{enforced}
use Rattle.serve_run.proofs.PlacesAreDealt.{clients_left, complete_left}
use Rattle.serve_run.proofs.workers.taken_apart.Goals as goal

pub returns : goal.returns
returns g c =
    let left = clients_left (λ e. e.served) (λ worker. worker.ended) (λ worker. worker.settled) c.args.run.now c.args.workers.items c.pop.new.self.items c.in-Some.last c.requires c.in-Some.ensures.items in
    record {
      all = left.0;
      served = left.1;
      complete = complete_left (λ worker. worker.ended) c.args.run.now.cfg.clients c.args.workers.items c.pop.new.self.items c.in-Some.last c.in-Some.ensures.items left.0
          (subst (All (λ worker. IsSome worker.ended)) c.deref.ensures.value (c.are_complete.ensures c.if-not-are_complete.false));
      handle = subst (λ o. IfSome o (λ h. h ≡ enforced c.args.run.now.cfg.rounds)) c.in-Some-settled.is left.2;
    }
