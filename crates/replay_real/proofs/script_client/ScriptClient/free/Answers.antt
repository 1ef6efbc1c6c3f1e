use Rattle.std.proofs.Common.{Option, None, refl, subst, set, rules}
use Rattle.std.proofs.lemmas.List.{get_or_read}
use Rattle.client.specs.Pieces.{Part}
use Rattle.replay_real.specs.Served.{ServedClient, KeepsSlot}
use Rattle.replay_real.specs.PieceCalls.{CallsAt, FreesSlot}
use Rattle.replay_real.proofs.Serving.{served_set}
use Rattle.replay_real.proofs.OnPieces.{calls_set, calls_none}
use Rattle.replay_real.proofs.script_client.ScriptClient.free.Goals as goal

pub invariant_of-self : goal.invariant_of-self
invariant_of-self c =
    let at = rw (← c.self.view_is) at c.in_ok-index.ensures.some in
    served_set c.self.inside.client c.free_slot.new.client c.self.inside.pieces.items c.in_ok-index.index c.free_slot.new.slot at.0
    (subst (λ (was : Option Part). KeepsSlot c.self.inside.client c.free_slot.new.client was c.free_slot.new.slot)
    (get_or_read c.self.inside.pieces.items c.in_ok-index.index c.index_mut.result.now at.0 c.index_mut.ensures.value None) c.free_slot.ensures.keeps)
    c.self.invariant

pub returns : goal.returns
returns c =
    let at = rw (← c.self.view_is) at c.in_ok-index.ensures.some in
    let new : ServedClient = record { client = c.free_slot.new.client; parts = set c.self.inside.pieces.items c.in_ok-index.index c.free_slot.new.slot; before = c.self.inside.before } in
    record {
      frees = subst (λ (old : ServedClient). CallsAt c.args.place (FreesSlot c.args.now c.free_slot.result) old new) c.self.view_is
          (calls_set c.args.place c.in_ok-index.index c.free_slot.new.slot (FreesSlot c.args.now c.free_slot.result) _ new at.1 at.0 refl refl
          (subst (λ (was : Option Part). FreesSlot c.args.now c.free_slot.result was c.free_slot.new.slot c.self.inside.client c.free_slot.new.client)
          (get_or_read c.self.inside.pieces.items c.in_ok-index.index c.index_mut.result.now at.0 c.index_mut.ensures.value None) c.free_slot.ensures.frees));
    }

pub returns-in_err-index : goal.returns-in_err-index
returns-in_err-index c = record { frees = calls_none c.args.place _ c.args.self.now c.in_err-index.ensures.none (search rules, refl, refl) }
