-- An input that is refused.
use Rattle.std.proofs.Common.{◌≡◌, ℕ, ◌+◌, ◌<◌, ◌≤◌, true, List, [], ◌++◌, length, take, Option, Some, None, IfSome, refl, sym, ap, ◌∙◌, subst, arith, length-append, nat_lt}
use Rattle.std.proofs.lemmas.List.{take_all, append-nil}
use Rattle.std.proofs.lemmas.Bool.{lt-ltb}
use Rattle.std.proofs.Math.Seq.{take-append_seam}
use Rattle.discard_io.specs.Streams.{Took, TookAll, TookExactly, IsAtEnd}
use Rattle.line_text.specs.declared.cause.Cause.TheVariants as cause
use Rattle.line_text.specs.Refusals.{cause_number}
use Rattle.line_text.specs.declared.limits.TheConstants.{MOST_TEXT_BYTES}
use Rattle.top_call.specs.ServeRun.{AreRefused, WasRefused}

-- a text that is too long is refused
long_refused : (clients : ℕ) (bytes : List ℕ) → MOST_TEXT_BYTES < length bytes → AreRefused clients bytes MOST_TEXT_BYTES (cause_number cause.Long)
long_refused clients bytes long =
    let is_long : nat_lt MOST_TEXT_BYTES (length bytes) ≡ true = lt-ltb MOST_TEXT_BYTES (length bytes) long in
    rw is_long refl

-- what is said of the bytes that were taken and the rest is said of all that was left
of_all : (P : List ℕ → Type 0) (before after : Option (List ℕ)) (bytes : List ℕ) → Took before bytes after
    → ((rest : List ℕ) → after ≡ Some rest → P (bytes ++ rest)) → IfSome before P
of_all P before None bytes took says = subst (λ (left : Option (List ℕ)). IfSome left P) (sym took) tt
of_all P before (Some rest) bytes took says = subst (λ (left : Option (List ℕ)). IfSome left P) (sym took) (says rest refl)

at_end : (after : Option (List ℕ)) (rest : List ℕ) → IsAtEnd after → after ≡ Some rest → rest ≡ []
at_end after rest ended is = subst IsAtEnd is ended

append_nothing : (bytes rest : List ℕ) → rest ≡ [] → bytes ++ rest ≡ bytes
append_nothing bytes rest none = ap (λ (more : List ℕ). bytes ++ more) none ∙ append-nil bytes

-- all bytes were read, and are refused
pub whole_refused : (clients : ℕ) (before after : Option (List ℕ)) (bytes : List ℕ) (place cause : ℕ) → TookAll before bytes after → length bytes ≤ MOST_TEXT_BYTES
    → AreRefused clients bytes place cause → WasRefused clients place cause before after
whole_refused clients before after bytes place cause took short refused =
    record {
      bytes = bytes;
      taken = took.taken;
      refused = refused;
      within = omega arith;
      all = of_all _ before after bytes took.taken (λ rest is.
          let same : bytes ++ rest ≡ bytes = append_nothing bytes rest (at_end after rest took.ended is) in (
            sym (take_all (MOST_TEXT_BYTES + 1) (bytes ++ rest) (omega (arith, ap length same)) ∙ same),
            subst (λ (b : List ℕ). AreRefused clients b place cause) (sym same) refused,
          ));
    }

-- one byte too many was taken
pub front_refused : (clients : ℕ) (before after : Option (List ℕ)) (why : ℕ) → why ≡ cause_number cause.Long → TookExactly before (MOST_TEXT_BYTES + 1) after
    → WasRefused clients MOST_TEXT_BYTES why before after
front_refused clients before after why named took =
    let bytes = took.bytes in
    let counted = took.counted in
    subst (λ (n : ℕ). WasRefused clients MOST_TEXT_BYTES n before after) (sym named)
    (record {
      bytes = bytes;
      taken = took.taken;
      refused = long_refused clients bytes (omega arith);
      within = omega arith;
      all = of_all _ before after bytes took.taken (λ rest is. (
        sym (ap (λ (n : ℕ). take n (bytes ++ rest)) (sym counted) ∙ take-append_seam bytes rest),
        long_refused clients (bytes ++ rest) (omega (arith, length-append bytes rest)),
      ));
    })
