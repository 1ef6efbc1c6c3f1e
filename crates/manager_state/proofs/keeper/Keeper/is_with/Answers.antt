use Rattle.std.proofs.Common.{◌==◌}
use Rattle.manager_state.specs.Keeping.{client_at}
use Rattle.manager_state.proofs.TableTells.{no_client}
use Rattle.manager_state.proofs.keeper.Keeper.is_with.Goals as goal

pub returns-else-client-gt0 : goal.returns-else-client-gt0
returns-else-client-gt0 c = no_client c.args.client (client_at c.args.id c.args.self.now.clients.items == c.args.client) _ c.if-client-gt0.false (c.args.self.now.agrees.told.clients c.args.client c.args.id)
