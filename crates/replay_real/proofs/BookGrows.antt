-- Each call of the manager only adds to the book.
use Rattle.std.proofs.Common.{◌≡◌, ℕ, Bool, true, false, List, [], ◌∷◌, ◌++◌, map, Option, sym, ap, ◌∙◌, ⊎_elim, append_assoc, MatchBool, nat_lt}
use Rattle.std.proofs.lemmas.List.{append-nil}
use Rattle.segment.specs.Owned.{Owned}
use Rattle.discard_book.specs.declared.entry.Entry.{Entry}
use Rattle.discard_book.specs.declared.entry.Entry.TheVariants as entry
use Rattle.machine.specs.Reduction.{purged_by, tries}
use Rattle.lru_reduce.specs.Wards.{candidates_of, total_pages}
use Rattle.lru_reduce.specs.Reducing.{purge_of}
use Rattle.discard_book.specs.Legal.{room}
use Rattle.discard_book.specs.Live.{granted}
use Rattle.lru_reduce.specs.declared.reduction.Reduced.{Reduced}
use Rattle.manager_state.specs.Managed.{Managed}
use Rattle.manager_state.specs.declared.answers.Back.{Back}
use Rattle.manager_state.specs.declared.answers.Tried.{Tried}
use Rattle.manager_state.specs.declared.answers.Tried.TheVariants.{Taken, Used, NotLive}
use Rattle.manager_state.specs.Calls.{Reduces, MakesRoom, Grants, RunsOut, GivesBack, TriesOne, Removes}
use Rattle.replay_real.specs.Standing.{Grows}

pub grows_same : (before after : List Entry) → after ≡ before → Grows before after
grows_same before after e = ([], e ∙ sym (append-nil before))

pub grows_on : (before between after : List Entry) → Grows before between → Grows between after → Grows before after
grows_on before between after first second =
    (first.0 ++ second.0, second.1 ∙ ap (λ (xs : List Entry). xs ++ second.0) first.1 ∙ append_assoc before first.0 second.0)

pub grows_reduces : (limit now : ℕ) (told : Reduced) (old new : Managed) → Reduces limit now told old new → Grows old.entries new.entries
grows_reduces limit now told old new w =
    let purges = map purge_of (purged_by (tries now (candidates_of old.sides) w.reduces.words)) in
    let last = entry.Reduced limit now (total_pages new.sides) told.least ∷ [] in
    (purges ++ last, w.reduces.entries ∙ append_assoc old.entries purges last)

grows_room : (pages now : ℕ) (old new : Managed) → MakesRoom pages now old new → Grows old.entries new.entries
grows_room pages now old new w = by_test (nat_lt (room old.limit pages) (granted old.entries)) w
  where
    by_test : (b : Bool) → MatchBool b ((told : Reduced) × Reduces (room old.limit pages) now told old new) (new ≡ old) → Grows old.entries new.entries
    by_test true made = grows_reduces (room old.limit pages) now made.0 old new made.1
    by_test false same = grows_same old.entries new.entries (ap (λ (m : Managed). m.entries) same)

pub grows_grants : (client pages now : ℕ) (side : Owned) (old new : Managed) → Grants client pages now side old new → Grows old.entries new.entries
grows_grants client pages now side old new w =
    grows_on old.entries w.between.entries new.entries (grows_room pages now old w.between w.room) (_, w.enters.entries)

pub grows_runs_out : (pages now : ℕ) (old new : Managed) → RunsOut pages now old new → Grows old.entries new.entries
grows_runs_out pages now old new w =
    ⊎_elim (λ (same : new ≡ old). grows_same old.entries new.entries (ap (λ (m : Managed). m.entries) same)) (λ made. grows_room pages now old new made) w

pub grows_tries : (id now : ℕ) (told : Tried) (old new : Managed) → TriesOne id now told old new → Grows old.entries new.entries
grows_tries id now NotLive old new w = grows_same old.entries new.entries (ap (λ (m : Managed). m.entries) w.1)
grows_tries id now Taken old new w = (_, w.1.entries)
grows_tries id now (Used known) old new w = (_, w.1.entries)

pub grows_back : (client id : ℕ) (block : Option (List ℕ)) (told : Back) (old new : Managed) → GivesBack client id block told old new → Grows old.entries new.entries
grows_back client id block told old new w = (_, w.entries)

pub grows_removes : (client removed : ℕ) (old new : Managed) → Removes client removed old new → Grows old.entries new.entries
grows_removes client removed old new w = (_, w.entries)
