use Rattle.std.proofs.Common.{Option, None, refl, subst}
use Rattle.std.proofs.lemmas.List.{get_or_read}
use Rattle.client.specs.Pieces.{Part}
use Rattle.replay_real.specs.Served.{ServedClient, KeepsSlot}
use Rattle.replay_real.specs.PieceCalls.{CallsAt, WritesSlot}
use Rattle.replay_real.proofs.Serving.{served_kept}
use Rattle.replay_real.proofs.OnPieces.{calls_kept, calls_none}
use Rattle.replay_real.proofs.script_client.ScriptClient.write.Goals as goal

pub invariant_of-self : goal.invariant_of-self
invariant_of-self c =
    let at = rw (← c.self.view_is) at c.in-Some.ensures.some in
    served_kept c.self.inside.client c.write_slot.new.client c.self.inside.pieces.items c.in-Some.index at.0
    (subst (λ (was : Option Part). KeepsSlot c.self.inside.client c.write_slot.new.client was was)
    (get_or_read c.self.inside.pieces.items c.in-Some.index c.index-2.result.now at.0 c.index-2.ensures None) c.write_slot.ensures.keeps)
    c.self.invariant

pub returns : goal.returns
returns c =
    let at = rw (← c.self.view_is) at c.in-Some.ensures.some in
    let new : ServedClient = record { client = c.write_slot.new.client; parts = c.self.inside.pieces.items; before = c.self.inside.before } in
    record {
      writes = subst (λ (old : ServedClient). CallsAt c.args.place (WritesSlot c.args.at c.args.bytes.now c.write_slot.result) old new) c.self.view_is
          (calls_kept c.args.place c.in-Some.index (WritesSlot c.args.at c.args.bytes.now c.write_slot.result) _ new at.1 at.0 refl refl
          (subst (λ (was : Option Part). WritesSlot c.args.at c.args.bytes.now c.write_slot.result was was c.self.inside.client c.write_slot.new.client)
          (get_or_read c.self.inside.pieces.items c.in-Some.index c.index-2.result.now at.0 c.index-2.ensures None) c.write_slot.ensures.writes));
    }

pub returns-in_default : goal.returns-in_default
returns-in_default c = record { writes = calls_none c.args.place _ c.args.self.now c.in_default.ensures.none (refl, refl, refl) }
