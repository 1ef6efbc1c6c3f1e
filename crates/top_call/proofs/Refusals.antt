-- The report of a run leaves Usage to words that are not lawful.
use Rattle.std.proofs.Common.{inl, inr, Option, None, Some, refl, sym, subst}
use Rattle.command_line.specs.Commands.{OrderValue}
use Rattle.discard_io.specs.declared.status.Status.{Status}
use Rattle.discard_io.specs.declared.status.Status.TheVariants.{Done, WriteFault}
use Rattle.top_call.specs.Report.{EndsOn}
use Rattle.top_call.specs.Top.{TellsUsage}

pub usage_after : (order : Option OrderValue) (ran ended : Status) → EndsOn ran ended → TellsUsage order ran → TellsUsage order ended
usage_after order Done ended like tells = elim like [
  | inl is ↦ subst (λ (s : Status). TellsUsage order s) (sym is) tells
  | inr is ↦ subst (λ (s : Status). TellsUsage order s) (sym is) (lawful order tells)
]
  where
    lawful : (order : Option OrderValue) → TellsUsage order Done → TellsUsage order WriteFault
    lawful None tells = elim (tells.always refl) [
      | inl usage ↦ cc
      | inr memory ↦ cc
    ]
    lawful (Some asked) tells = record { only = λ usage. cc; always = λ none. cc }
usage_after order ran ended like tells = subst (λ (s : Status). TellsUsage order s) (sym like) tells
