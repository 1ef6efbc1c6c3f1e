-- A report that got its whole text.
use Rattle.std.proofs.Common.{◌≡◌, ◌≤◌, inl, ℕ, List, [], length, take, refl, sym, ap, ◌∙◌, subst, arith}
use Rattle.std.proofs.lemmas.List.{take_all}
use Rattle.discard_io.specs.declared.status.Status.{Status}
use Rattle.discard_io.specs.declared.status.Status.TheVariants.{Done}
use Rattle.discard_io.specs.Streams.{appended}
use Rattle.top_call.specs.declared.top.Run.{Run}
use Rattle.top_call.specs.Outside.{Telling}
use Rattle.top_call.specs.Report.{Told, Reports, run_text}

told_whole : (text : List ℕ) (before after : Telling) → after.written ≡ appended before.written text → (text ≡ [] → after ≡ before) → before.faults ≤ after.faults → Told text before after
told_whole text before after all nothing later =
    let whole : take (length text) text ≡ text = take_all (length text) text (omega arith) in
    record {
      front = (length text, omega arith, all ∙ ap (appended before.written) (sym whole));
      whole = inl all;
      nothing = nothing;
      later = later;
    }

-- a run that is done, and whose text was written, ends as it is
pub reports_whole : (status : Status) (run : Run) (before after : Telling) → status ≡ Done → after.written ≡ appended before.written (run_text run)
    → (run_text run ≡ [] → after ≡ before) → before.faults ≤ after.faults
    → Reports (record { status = status; run = run }) (record { status = status; run = run }) before after
reports_whole status run before after done all nothing later =
    subst (λ (s : Status). Reports (record { status = s; run = run }) (record { status = s; run = run }) before after) (sym done)
    (inl (record { as_run = refl; told = told_whole (run_text run) before after all nothing later }, all))
