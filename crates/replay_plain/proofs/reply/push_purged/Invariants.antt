use Rattle.std.proofs.Common.{◌≡◌, ◌++◌, take}
use Rattle.std.specs.List.{flat_map}
use Rattle.replay_plain.specs.Replies.{purged_text}
use Rattle.replay_plain.proofs.reply.push_purged.Given as goal

abbrev pub invariant-loop-entry : goal.invariant-loop-entry
invariant-loop-entry l = l.text.items ≡ l.fn.text.items ++ flat_map purged_text (take l.entry-index l.entries)
