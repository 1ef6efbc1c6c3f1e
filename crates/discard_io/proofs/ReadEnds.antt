-- How a reading to the end is cut short by one read.
use Rattle.std.proofs.Common.{◌≡◌, ℕ, ◌+◌, ◌≤◌, List, ◌++◌, length, arith, subst, sym}
use Rattle.std.specs.Prelude.{Option, Result, Ok, Err, IsErrOf}
use Rattle.std.specs.Global.{Vec}
use Rattle.std.specs.Result.{IsErrAnd}
use Rattle.std.proofs.lemmas.List.{length-append}
use Rattle.discard_io.specs.declared.reading.ReadEnd.{ReadEnd}
use Rattle.discard_io.specs.declared.reading.ReadEnd.TheVariants.{Failed, TooLong, NoMemory}
use Rattle.discard_io.specs.ReadToEnd.{ReadsToEnd}
use Rattle.discard_io.specs.Streams.{Took, TookAtMost}
use Rattle.discard_io.proofs.StreamSteps.{took-append}

-- some bytes were taken, and then one read was answered by an error
ends_by : (before : Option (List ℕ)) (most room : ℕ) (bytes : List ℕ) (between after : Option (List ℕ)) (error : ReadEnd) (read : Result ℕ ReadEnd)
    → Took before bytes between → length bytes + room ≡ most + 1 → length bytes ≤ most → read ≡ Err error
    → (IsErrOf read Failed → after ≡ between) → (IsErrOf read NoMemory → TookAtMost between room after) → (IsErrOf read TooLong → ⊥)
    → ReadsToEnd (Err error) most before after
ends_by before most room bytes between after Failed read taken fits short is same lost never =
    record { bytes = bytes; within = short; taken = subst (λ (left : Option (List ℕ)). Took before bytes left) (sym (same is)) taken }
ends_by before most room bytes between after TooLong read taken fits short is same lost never = absurd (never is)
ends_by before most room bytes between after NoMemory read taken fits short is same lost never =
    let more = lost is in
    record {
      bytes = bytes ++ more.bytes;
      within = rw length-append (omega (arith, fits, more.within));
      taken = took-append before bytes between more.bytes after taken more.taken;
    }

-- the same where the error is handed on
pub cut_short : (before : Option (List ℕ)) (most room : ℕ) (bytes : List ℕ) (between after : Option (List ℕ)) (error : ReadEnd)
    (read : Result ℕ ReadEnd) (answer : Result (Vec ℕ) ReadEnd)
    → Took before bytes between → length bytes + room ≡ most + 1 → length bytes ≤ most → read ≡ Err error
    → (IsErrOf read Failed → after ≡ between) → (IsErrOf read NoMemory → TookAtMost between room after) → (IsErrOf read TooLong → ⊥)
    → IsErrAnd answer (λ given. given ≡ error) → ReadsToEnd answer most before after
cut_short before most room bytes between after error read (Ok all) taken fits short is same lost never given = absurd given
cut_short before most room bytes between after error read (Err given_on) taken fits short is same lost never given =
    subst (λ (e : ReadEnd). ReadsToEnd (Err e) most before after) (sym given)
    (ends_by before most room bytes between after error read taken fits short is same lost never)
