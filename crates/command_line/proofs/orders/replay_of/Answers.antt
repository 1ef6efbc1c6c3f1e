-- What the words of `replay` ask for.
use Rattle.std.proofs.Common.{◌≡◌, [], refl, sym}
use Rattle.command_line.specs.Settings.{keep_setting, replay_limit, set_to, standard_setting}
use Rattle.command_line.proofs.Asked.{ends_now, no_words, replay_with_words, some_words, step_on}
use Rattle.command_line.proofs.orders.replay_of.Goals as goal

pub returns-then-is_some-clause-value : goal.returns-then-is_some-clause-value
returns-then-is_some-clause-value c = λ all given.
    sym (replay_with_words all (some_words c.positional.result all.positional (c.positional.ensures all given) c.if-is_some.ensures))

pub returns-in_err-limit-clause-value : goal.returns-in_err-limit-clause-value
returns-in_err-limit-clause-value c = λ all given.
    let words : all.positional ≡ [] = no_words c.positional.result all.positional (c.positional.ensures all given) c.if-is_some.ensures in
    rw c.from_residual.ensures (sym (rw words (ends_now (set_to replay_limit all) _ (sym (c.in_err-limit.ensures.value all given)))))

pub returns-in_err-standard-clause-value : goal.returns-in_err-standard-clause-value
returns-in_err-standard-clause-value c = λ all given.
    let words : all.positional ≡ [] = no_words c.positional.result all.positional (c.positional.ensures all given) c.if-is_some.ensures in
    rw c.from_residual-in_err-standard.ensures (sym (rw words (step_on (set_to replay_limit all) c.in_ok-limit.limit _ _ (sym (c.in_ok-limit.ensures.value all given))
    (ends_now (set_to standard_setting all) _ (sym (c.in_err-standard.ensures.value all given))))))

pub returns-in_err-keep-clause-value : goal.returns-in_err-keep-clause-value
returns-in_err-keep-clause-value c = λ all given.
    let words : all.positional ≡ [] = no_words c.positional.result all.positional (c.positional.ensures all given) c.if-is_some.ensures in
    rw c.from_residual-in_err-keep.ensures (sym (rw words (step_on (set_to replay_limit all) c.in_ok-limit.limit _ _ (sym (c.in_ok-limit.ensures.value all given))
    (step_on (set_to standard_setting all) c.in_ok-standard.standard _ _ (sym (c.in_ok-standard.ensures.value all given))
    (ends_now (set_to keep_setting all) _ (sym (c.in_err-keep.ensures.value all given)))))))

pub returns-clause-value : goal.returns-clause-value
returns-clause-value c = λ all given.
    let words : all.positional ≡ [] = no_words c.positional.result all.positional (c.positional.ensures all given) c.if-is_some.ensures in
    sym (rw words (step_on (set_to replay_limit all) c.in_ok-limit.limit _ _ (sym (c.in_ok-limit.ensures.value all given))
    (step_on (set_to standard_setting all) c.in_ok-standard.standard _ _ (sym (c.in_ok-standard.ensures.value all given))
    (step_on (set_to keep_setting all) c.in_ok-keep.keep _ _ (sym (c.in_ok-keep.ensures.value all given))
    (refl)))))
