-- An input that is refused.
use Rattle.std.proofs.Common.{◌≡◌, ℕ, ◌+◌, ◌<◌, ◌≤◌, true, List, [], ◌++◌, length, take, Option, Some, None, IfSome, refl, sym, ap, ◌∙◌, subst, arith, length-append, nat_lt}
use Rattle.std.proofs.lemmas.List.{take_all, append-nil}
use Rattle.std.proofs.lemmas.Bool.{lt-ltb}
use Rattle.std.proofs.Math.Seq.{take-append_seam}
use Rattle.discard_io.specs.Streams.{Took, TookAll, TookExactly, IsAtEnd}
use Rattle.line_text.specs.declared.limits.TheConstants.{MOST_TEXT_BYTES}
use Rattle.line_text.specs.declared.cause.Cause.TheVariants as cause
use Rattle.script_text.specs.Script.{IsRefused}
use Rattle.line_text.specs.Refusals.{cause_number}
use Rattle.discard_io.specs.declared.status.Status.TheVariants.{BadInput}
use Rattle.replay_plain.specs.declared.config.ReplayCfg.{ReplayCfg}
use Rattle.replay_run.specs.declared.replaying.Replayed.{Replayed}
use Rattle.replay_run.specs.Ending.{Devices, InputRefused, Ends}

-- a text that is too long is refused
long_refused : (bytes : List ℕ) → MOST_TEXT_BYTES < length bytes → IsRefused bytes MOST_TEXT_BYTES (cause_number cause.Long)
long_refused bytes long =
    let is_long : nat_lt MOST_TEXT_BYTES (length bytes) ≡ true = lt-ltb MOST_TEXT_BYTES (length bytes) long in
    rw is_long refl

-- what is said of the bytes that were taken and the rest is said of all that was left
of_all : (P : List ℕ → Type 0) (before after : Option (List ℕ)) (bytes : List ℕ) → Took before bytes after
    → ((rest : List ℕ) → after ≡ Some rest → P (bytes ++ rest)) → IfSome before P
of_all P before None bytes took says = subst (λ (left : Option (List ℕ)). IfSome left P) (sym took) tt
of_all P before (Some rest) bytes took says = subst (λ (left : Option (List ℕ)). IfSome left P) (sym took) (says rest refl)

at_end : (after : Option (List ℕ)) (rest : List ℕ) → IsAtEnd after → after ≡ Some rest → rest ≡ []
at_end after rest ended is = subst IsAtEnd is ended

append_nothing : (bytes rest : List ℕ) → rest ≡ [] → bytes ++ rest ≡ bytes
append_nothing bytes rest none = ap (λ (more : List ℕ). bytes ++ more) none ∙ append-nil bytes

-- all bytes were read, and are refused
pub whole_refused : (before after : Devices) (bytes : List ℕ) (place cause : ℕ) → TookAll before.left bytes after.left → length bytes ≤ MOST_TEXT_BYTES
    → IsRefused bytes place cause → after.written ≡ before.written → InputRefused place cause before after
whole_refused before after bytes place cause took short refused unwritten =
    record {
      bytes = bytes;
      taken = took.taken;
      refused = refused;
      within = omega arith;
      all = of_all _ before.left after.left bytes took.taken (λ rest is.
          let same : bytes ++ rest ≡ bytes = append_nothing bytes rest (at_end after.left rest took.ended is) in (
            sym (take_all (MOST_TEXT_BYTES + 1) (bytes ++ rest) (omega (arith, ap length same)) ∙ same),
            subst (λ (b : List ℕ). IsRefused b place cause) (sym same) refused,
          ));
      unwritten = unwritten;
    }

-- one byte too many was taken
pub front_refused : (before after : Devices) (why : ℕ) → why ≡ cause_number cause.Long → TookExactly before.left (MOST_TEXT_BYTES + 1) after.left
    → after.written ≡ before.written → InputRefused MOST_TEXT_BYTES why before after
front_refused before after why named took unwritten =
    let bytes = took.bytes in
    let counted = took.counted in
    subst (λ (n : ℕ). InputRefused MOST_TEXT_BYTES n before after) (sym named)
    (record {
      bytes = bytes;
      taken = took.taken;
      refused = long_refused bytes (omega arith);
      within = omega arith;
      all = of_all _ before.left after.left bytes took.taken (λ rest is. (
        sym (ap (λ (n : ℕ). take n (bytes ++ rest)) (sym counted) ∙ take-append_seam bytes rest),
        long_refused (bytes ++ rest) (omega (arith, length-append bytes rest)),
      ));
      unwritten = unwritten;
    })

-- a replay whose input is refused ends so
pub ends_refused : (cfg : ReplayCfg) (replayed : Replayed) (before after : Devices) (place cause : ℕ)
    → replayed ≡ record { status = BadInput place cause; differs = None; state = None } → InputRefused place cause before after
    → before.read_faults ≤ after.read_faults → before.write_faults ≤ after.write_faults → Ends cfg replayed before after
ends_refused cfg replayed before after place cause is refused reads writes =
    subst (λ (answer : Replayed). Ends cfg answer before after) (sym is)
    (record { by_status = refused; differs = tt; state = tt; reads = reads; writes = writes })
