use Rattle.std.proofs.Common.{Option, None, refl, subst, set}
use Rattle.std.proofs.lemmas.List.{get_or_read}
use Rattle.client.specs.Pieces.{Part}
use Rattle.replay_real.specs.Served.{ServedClient, KeepsSlot}
use Rattle.replay_real.specs.PieceCalls.{CallsAt, UnlocksSlot}
use Rattle.replay_real.proofs.Serving.{served_set}
use Rattle.replay_real.proofs.OnPieces.{calls_set, calls_none}
use Rattle.replay_real.proofs.script_client.ScriptClient.unlock.Goals as goal

pub invariant_of-self : goal.invariant_of-self
invariant_of-self c =
    let at = rw (← c.self.view_is) at c.in-Some.ensures.some in
    served_set c.self.inside.client c.unlock_slot.new.client c.self.inside.pieces.items c.in-Some.index c.unlock_slot.new.slot at.0
    (subst (λ (was : Option Part). KeepsSlot c.self.inside.client c.unlock_slot.new.client was c.unlock_slot.new.slot)
    (get_or_read c.self.inside.pieces.items c.in-Some.index c.index_mut.result.now at.0 c.index_mut.ensures.value None) c.unlock_slot.ensures.keeps)
    c.self.invariant

pub returns : goal.returns
returns c =
    let at = rw (← c.self.view_is) at c.in-Some.ensures.some in
    let new : ServedClient = record { client = c.unlock_slot.new.client; parts = set c.self.inside.pieces.items c.in-Some.index c.unlock_slot.new.slot; before = c.self.inside.before } in
    record {
      unlocks = subst (λ (old : ServedClient). CallsAt c.args.place (UnlocksSlot c.args.now c.unlock_slot.result) old new) c.self.view_is
          (calls_set c.args.place c.in-Some.index c.unlock_slot.new.slot (UnlocksSlot c.args.now c.unlock_slot.result) _ new at.1 at.0 refl refl
          (subst (λ (was : Option Part). UnlocksSlot c.args.now c.unlock_slot.result was c.unlock_slot.new.slot c.self.inside.client c.unlock_slot.new.client)
          (get_or_read c.self.inside.pieces.items c.in-Some.index c.index_mut.result.now at.0 c.index_mut.ensures.value None) c.unlock_slot.ensures.unlocks));
    }

pub returns-in_default : goal.returns-in_default
returns-in_default c = record { unlocks = calls_none c.args.place _ c.args.self.now c.in_default.ensures.none (refl, refl, refl) }
