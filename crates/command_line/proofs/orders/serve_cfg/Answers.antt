-- The settings that the words of `serve` ask for.
use Rattle.std.proofs.Common.{refl, sym}
use Rattle.command_line.specs.Commands.{side_of}
use Rattle.command_line.specs.Settings.{clients_setting, entries_setting, keep_setting, rounds_setting, serve_limit, set_to, standard_setting}
use Rattle.command_line.proofs.Asked.{ends_now, step_on}
use Rattle.command_line.proofs.orders.serve_cfg.Goals as goal

pub returns-in_err-clients-clause-value : goal.returns-in_err-clients-clause-value
returns-in_err-clients-clause-value c = λ all given.
    rw c.from_residual.ensures (sym (ends_now (set_to clients_setting all) _ (sym (c.in_err-clients.ensures.value all given))))

pub returns-in_err-limit-clause-value : goal.returns-in_err-limit-clause-value
returns-in_err-limit-clause-value c = λ all given.
    rw c.from_residual-in_err-limit.ensures (sym (step_on (set_to clients_setting all) c.in_ok-clients.clients _ _ (sym (c.in_ok-clients.ensures.value all given))
    (ends_now (set_to serve_limit all) _ (sym (c.in_err-limit.ensures.value all given)))))

pub returns-in_err-side-clause-value : goal.returns-in_err-side-clause-value
returns-in_err-side-clause-value c = λ all given.
    rw c.from_residual-in_err-side.ensures (sym (step_on (set_to clients_setting all) c.in_ok-clients.clients _ _ (sym (c.in_ok-clients.ensures.value all given))
    (step_on (set_to serve_limit all) c.in_ok-limit.limit _ _ (sym (c.in_ok-limit.ensures.value all given))
    (ends_now (side_of all) _ (sym (c.in_err-side.ensures.value all given))))))

pub returns-in_err-entries-clause-value : goal.returns-in_err-entries-clause-value
returns-in_err-entries-clause-value c = λ all given.
    rw c.from_residual-in_err-entries.ensures (sym (step_on (set_to clients_setting all) c.in_ok-clients.clients _ _ (sym (c.in_ok-clients.ensures.value all given))
    (step_on (set_to serve_limit all) c.in_ok-limit.limit _ _ (sym (c.in_ok-limit.ensures.value all given))
    (step_on (side_of all) c.in_ok-side.side _ _ (sym (c.in_ok-side.ensures.value all given))
    (ends_now (set_to entries_setting all) _ (sym (c.in_err-entries.ensures.value all given)))))))

pub returns-in_err-rounds-clause-value : goal.returns-in_err-rounds-clause-value
returns-in_err-rounds-clause-value c = λ all given.
    rw c.from_residual-in_err-rounds.ensures (sym (step_on (set_to clients_setting all) c.in_ok-clients.clients _ _ (sym (c.in_ok-clients.ensures.value all given))
    (step_on (set_to serve_limit all) c.in_ok-limit.limit _ _ (sym (c.in_ok-limit.ensures.value all given))
    (step_on (side_of all) c.in_ok-side.side _ _ (sym (c.in_ok-side.ensures.value all given))
    (step_on (set_to entries_setting all) c.in_ok-entries.entries _ _ (sym (c.in_ok-entries.ensures.value all given))
    (ends_now (set_to rounds_setting all) _ (sym (c.in_err-rounds.ensures.value all given))))))))

pub returns-in_err-standard-clause-value : goal.returns-in_err-standard-clause-value
returns-in_err-standard-clause-value c = λ all given.
    rw c.from_residual-in_err-standard.ensures (sym (step_on (set_to clients_setting all) c.in_ok-clients.clients _ _ (sym (c.in_ok-clients.ensures.value all given))
    (step_on (set_to serve_limit all) c.in_ok-limit.limit _ _ (sym (c.in_ok-limit.ensures.value all given))
    (step_on (side_of all) c.in_ok-side.side _ _ (sym (c.in_ok-side.ensures.value all given))
    (step_on (set_to entries_setting all) c.in_ok-entries.entries _ _ (sym (c.in_ok-entries.ensures.value all given))
    (step_on (set_to rounds_setting all) c.in_ok-rounds.rounds _ _ (sym (c.in_ok-rounds.ensures.value all given))
    (ends_now (set_to standard_setting all) _ (sym (c.in_err-standard.ensures.value all given)))))))))

pub returns-in_err-keep-clause-value : goal.returns-in_err-keep-clause-value
returns-in_err-keep-clause-value c = λ all given.
    rw c.from_residual-in_err-keep.ensures (sym (step_on (set_to clients_setting all) c.in_ok-clients.clients _ _ (sym (c.in_ok-clients.ensures.value all given))
    (step_on (set_to serve_limit all) c.in_ok-limit.limit _ _ (sym (c.in_ok-limit.ensures.value all given))
    (step_on (side_of all) c.in_ok-side.side _ _ (sym (c.in_ok-side.ensures.value all given))
    (step_on (set_to entries_setting all) c.in_ok-entries.entries _ _ (sym (c.in_ok-entries.ensures.value all given))
    (step_on (set_to rounds_setting all) c.in_ok-rounds.rounds _ _ (sym (c.in_ok-rounds.ensures.value all given))
    (step_on (set_to standard_setting all) c.in_ok-standard.standard _ _ (sym (c.in_ok-standard.ensures.value all given))
    (ends_now (set_to keep_setting all) _ (sym (c.in_err-keep.ensures.value all given))))))))))

pub returns-clause-value : goal.returns-clause-value
returns-clause-value c = λ all given. sym (step_on (set_to clients_setting all) c.in_ok-clients.clients _ _ (sym (c.in_ok-clients.ensures.value all given))
    (step_on (set_to serve_limit all) c.in_ok-limit.limit _ _ (sym (c.in_ok-limit.ensures.value all given))
    (step_on (side_of all) c.in_ok-side.side _ _ (sym (c.in_ok-side.ensures.value all given))
    (step_on (set_to entries_setting all) c.in_ok-entries.entries _ _ (sym (c.in_ok-entries.ensures.value all given))
    (step_on (set_to rounds_setting all) c.in_ok-rounds.rounds _ _ (sym (c.in_ok-rounds.ensures.value all given))
    (step_on (set_to standard_setting all) c.in_ok-standard.standard _ _ (sym (c.in_ok-standard.ensures.value all given))
    (step_on (set_to keep_setting all) c.in_ok-keep.keep _ _ (sym (c.in_ok-keep.ensures.value all given))
    (refl))))))))
