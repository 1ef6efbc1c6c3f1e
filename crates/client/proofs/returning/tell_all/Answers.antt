use Rattle.std.proofs.Common.{refl, ap, sym, subst, ◌∙◌, None, ℕ}
use Rattle.client.specs.Seen.{Seen}
use Rattle.client.proofs.GivingBack.{telling_start, telling_on, telling_end}
use Rattle.client.proofs.TakingBack.{tells_first, tells_one, tells_last}
use Rattle.client.proofs.returning.tell_all.Goals as goal

pub loop-id-init : goal.loop-id-init
loop-id-init g c = record {
  took = tells_first g.G.Granter.took_back c.args.client.now c.args.granter.now;
  telling = telling_start _ _ c.number-number.ensures.told;
  grants = refl;
  greatest = refl;
  standing = refl;
}

pub loop-id-preserved : goal.loop-id-preserved
loop-id-preserved g c =
    let same = c.number-number.ensures.number ∙ sym (ap (λ (s : Seen). s.number) c.loop-id.invariant.telling.is) in
    record {
      took = tells_one g.G.Granter.took_back c.args.client.now c.args.granter.now c.loop-id.client c.untold.new.self c.loop-id.granter c.give_back.new.self c.in-Some.id c.loop-id.invariant.took (sym c.in-Some.ensures.number) c.untold.ensures.told
          (subst (λ (n : ℕ). g.G.Granter.took_back n c.in-Some.id None c.loop-id.granter c.give_back.new.self) same c.give_back.ensures.took_back);
      telling = telling_on _ c.loop-id.client c.untold.new.self c.in-Some.id _ _ _ c.loop-id.invariant.telling (sym c.in-Some.ensures.number) c.untold.ensures.told c.give_back.ensures.counted;
      grants = c.give_back.ensures.grants ∙ c.loop-id.invariant.grants;
      greatest = c.give_back.ensures.greatest ∙ c.loop-id.invariant.greatest;
      standing = c.give_back.ensures.standing ∙ c.loop-id.invariant.standing;
    }

pub returns-clause-took : goal.returns-clause-took
returns-clause-took g c = tells_last g.G.Granter.took_back c.args.client.now c.args.granter.now c.loop-id.client c.loop-id.granter c.loop-id.invariant.took (sym c.in_default.ensures.number)

pub returns-clause-returns : goal.returns-clause-returns
returns-clause-returns g c = (telling_end _ c.loop-id.client c.untold.new.self _ _ c.loop-id.invariant.telling (sym c.in_default.ensures.number) c.untold.ensures.told).1
