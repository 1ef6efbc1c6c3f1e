use Rattle.std.proofs.Common.{sym}
use Rattle.replay_plain.proofs.LiveRows.{only_use, each_dead}
use Rattle.replay_plain.proofs.rows.renew.Goals as goal

pub renew-requires-clause-known : goal.renew-requires-clause-known
renew-requires-clause-known c = only_use c.args.rows.now.items c.args.id c.in-Some.known (sym c.in-Some.ensures)

pub drop_dead-requires : goal.drop_dead-requires
drop_dead-requires c = record { each = each_dead c.args.rows.now.items c.args.id c.args.uses.now.entries (sym c.in-None.ensures) c.requires.others }
