use Rattle.std.proofs.Common.{arith, ap, ◌∙◌, length}
use Rattle.client.specs.Seen.{Seen}
use Rattle.client.proofs.GivingBack.{balanced_told, balanced_returned, settled}
use Rattle.std.proofs.Common.{List, subst, ℕ}
use Rattle.client.specs.TakenBack.{Return, TookAll, untold_returns}
use Rattle.client.proofs.TakingBack.{untold_stay}
use Rattle.client.proofs.granted.Granted.close_with.Goals as goal

pub returns-clause-settled : goal.returns-clause-settled
returns-clause-settled g c =
    let back = balanced_returned _ _ _ _ _ _ _ _ _ _ _ c.self.invariant.0 c.give_back_all.ensures.returns c.give_back_all.ensures.grants c.give_back_all.ensures.greatest in
    let told = balanced_told _ _ _ _ _ _ _ _ _ _ _ back c.tell_all.ensures.client c.tell_all.ensures.returns c.tell_all.ensures.grants c.tell_all.ensures.greatest in
    let none = ap (λ (s : Seen). s.leases) c.tell_all.ensures.client ∙ c.give_back_all.ensures.none in
    let all = ap (λ (s : Seen). s.told) c.tell_all.ensures.client in
    let gone = ap (λ (s : Seen). length s.gone) c.tell_all.ensures.client in
    rw (← c.self.view_is) (settled _ _ _ _ _ _ c.tell_all.new.client told none (omega (arith, all, gone)))

pub returns-clause-exact : goal.returns-clause-exact
returns-clause-exact g c =
    let same = c.tell_all.ensures.grants ∙ c.give_back_all.ensures.grants in
    rw (← c.self.view_is, same) c.self.invariant.0.exact

pub returns-clause-within : goal.returns-clause-within
returns-clause-within g c = c.self.invariant.0.within

pub returns-clause-greatest : goal.returns-clause-greatest
returns-clause-greatest g c = rw (← c.self.view_is) (c.tell_all.ensures.greatest ∙ c.give_back_all.ensures.greatest)

pub returns-clause-standing : goal.returns-clause-standing
returns-clause-standing g c =
    rw (← c.self.view_is) (c.tell_all.ensures.standing ∙ (c.give_back_all.ensures.standing ∙ c.self.invariant.1))

pub returns-clause-kept : goal.returns-clause-kept
returns-clause-kept g c =
    let gone = c.into_gone.ensures.sides ∙ ap (λ (s : Seen). s.gone) c.tell_all.ensures.client in
    rw (← c.self.view_is, c.of-gone.ensures, gone) c.give_back_all.ensures.returns.gone

pub returns-clause-found : goal.returns-clause-found
returns-clause-found g c =
    let gone = c.into_gone.ensures.sides ∙ ap (λ (s : Seen). s.gone) c.tell_all.ensures.client in
    rw (← c.self.view_is, c.of-gone.ensures, gone) c.give_back_all.ensures.found

pub returns-clause-took : goal.returns-clause-took
returns-clause-took g c =
    let back = c.give_back_all.ensures.took in
    let same = untold_stay c.self.inside.client.leases c.self.inside.client c.give_back_all.new.client c.self.invariant.0.told c.give_back_all.ensures.found c.give_back_all.ensures.told in
    let told = subst (λ (n : ℕ). TookAll g.G.Granter.took_back n (untold_returns c.self.inside.client) c.give_back_all.new.granter c.tell_all.new.granter) c.give_back_all.ensures.returns.number
    (subst (λ (returns : List Return). TookAll g.G.Granter.took_back c.give_back_all.new.client.number returns c.give_back_all.new.granter c.tell_all.new.granter) same c.tell_all.ensures.took) in
    let gone = c.into_gone.ensures.sides ∙ ap (λ (s : Seen). s.gone) c.tell_all.ensures.client in
    rw (← c.self.view_is, c.of-gone.ensures, gone) (back.0, c.give_back_all.new.granter, back.1, back.2, told)
