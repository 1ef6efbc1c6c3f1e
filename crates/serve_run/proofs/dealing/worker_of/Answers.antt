use Rattle.std.proofs.Common.{arith}
use Rattle.serve_session.specs.Tiling.{no_request}
use Rattle.serve_run.proofs.PlacesAreDealt.{client_at}
use Rattle.serve_run.proofs.dealing.worker_of.Goals as goal

pub returns-clause-client : goal.returns-clause-client
returns-clause-client c = let whose = client_at c.args.clients c.args.requests.now c.args.number no_request c.requires.known c.requires.within in omega (arith, whose.0)

pub returns-clause-within : goal.returns-clause-within
returns-clause-within c = let whose = client_at c.args.clients c.args.requests.now c.args.number no_request c.requires.known c.requires.within in omega (arith, whose.0, whose.1)
