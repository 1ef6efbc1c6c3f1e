use Rattle.std.proofs.Common.{◌≡◌, ℕ, ◌≤◌, true, take}
use Rattle.manager_state.specs.Clients.{is_granted_to}
use Rattle.serve_run.proofs.ending.greatest_client.Given as goal

abbrev pub invariant-loop-entry : goal.invariant-loop-entry
invariant-loop-entry l = (client id : ℕ) → is_granted_to client id (take l.entry-index l.entries) ≡ true → client ≤ l.greatest
