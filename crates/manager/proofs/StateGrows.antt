-- Each call of a state grows its book.
use Rattle.std.proofs.Common.{◌≡◌, ⊎_elim, ℕ, ◌+◌, Bool, true, false, List, [], ◌∷◌, ◌++◌, Result, Ok, Err, refl, sym, ap, ◌∙◌, subst, arith, nat_lt}
use Rattle.std.specs.Prelude.{MatchBool, IfOk, OnErr}
use Rattle.machine.specs.Reduction.{tries, purged_by}
use Rattle.lru_reduce.specs.Wards.{candidates_of, total_pages}
use Rattle.lru_reduce.specs.declared.reduction.Reduced.{Reduced}
use Rattle.block_pool.specs.Block.{page_count, IsZero}
use Rattle.segment.specs.Owned.{Owned, IsGranted}
use Rattle.discard_book.specs.declared.entry.Entry.{Entry}
use Rattle.discard_book.specs.declared.entry.Entry.TheVariants as entry
use Rattle.discard_book.specs.Live.{grants}
use Rattle.discard_book.specs.Legal.{room}
use Rattle.manager_state.specs.Managed.{Managed}
use Rattle.manager_state.specs.Calls.{Reduces, MakesRoom, Grants, GrantsWith, RunsOut, RunsOutWith, back_entries}
use Rattle.manager_state.specs.declared.answers.Back.{Back}
use Rattle.manager_state.specs.declared.answers.Back.TheVariants.{Counted, Purged, Unknown}
use Rattle.return_queue.specs.declared.note.Note.{Note}
use Rattle.std.proofs.lemmas.List.{append-nil}
use Rattle.manager.specs.Counted.{answer_to, after_note, after_notes}
use Rattle.manager.specs.Grows.{Grows, GrantsNone, GrantsOne}
use Rattle.manager.specs.Brought.{IsFresh}
use Rattle.manager.proofs.Growth.{grows_none, grows_more, grows_granted, grows_back, grows_reduced, grows_round, grows_grants}

pub same_kept : (old new : Managed) → new.entries ≡ old.entries → new.limit ≡ old.limit → GrantsNone old new
same_kept old new e l = (λ limit. subst (λ (es : List Entry). Grows limit 0 0 old.entries es) (sym e) (grows_none limit old.entries), l)

pub then_kept : (first second third : Managed) → GrantsNone first second → GrantsNone second third → GrantsNone first third
then_kept first second third a b = (λ limit. grows_more limit 0 0 0 0 first.entries second.entries third.entries (a.0 limit) (b.0 limit), b.1 ∙ a.1)

pub reduces_kept : (to now : ℕ) (told : Reduced) (old new : Managed) → Reduces to now told old new → GrantsNone old new
reduces_kept to now told old new r = (λ limit. grows_reduced limit (purged_by (tries now (candidates_of old.sides) r.reduces.words)) to now (total_pages new.sides) told.least old.entries new.entries r.reduces.entries, r.limit)

-- a reduction to the state's limit is an enforcement
pub reduces_round : (to now : ℕ) (told : Reduced) (old new : Managed) → Reduces to now told old new → Grows to 0 1 old.entries new.entries
reduces_round to now told old new r = grows_round (purged_by (tries now (candidates_of old.sides) r.reduces.words)) to now (total_pages new.sides) told.least old.entries new.entries r.reduces.entries

makes_kept : (b : Bool) (to now : ℕ) (old new : Managed) → MatchBool b ((told : Reduced) × Reduces to now told old new) (new ≡ old) → GrantsNone old new
makes_kept true to now old new h = reduces_kept to now h.0 old new h.1
makes_kept false to now old new h = subst (λ (m : Managed). GrantsNone old m) (sym h) (same_kept old old refl refl)

pub room_kept : (pages now : ℕ) (old new : Managed) → MakesRoom pages now old new → GrantsNone old new
room_kept pages now old new h = makes_kept (nat_lt (room old.limit pages) _) (room old.limit pages) now old new h

-- room was made for a grant, and its Grant was entered
granted_one : (id client pages now : ℕ) (old between new : Managed) → MakesRoom pages now old between → id ≡ grants between.entries + 1
    → new.entries ≡ between.entries ++ entry.Grant id client pages between.limit ∷ [] → new.limit ≡ between.limit → GrantsOne id old new
granted_one id client pages now old between new room number entries limit =
    let kept = room_kept pages now old between room in
    let last : Grows old.limit 1 0 between.entries new.entries = subst (λ (es : List Entry). Grows old.limit 1 0 between.entries es) (sym entries)
    (subst (λ (l : ℕ). Grows old.limit 1 0 between.entries (between.entries ++ entry.Grant id client pages l ∷ [])) (sym kept.1) (grows_granted old.limit id client pages between.entries)) in
    let before : grants between.entries ≡ grants old.entries + 0 = grows_grants old.limit 0 0 old.entries between.entries (kept.0 old.limit) in
    record {
      grown = grows_more old.limit 0 0 1 0 old.entries between.entries new.entries (kept.0 old.limit) last;
      limit = limit ∙ kept.1;
      number = omega arith;
    }

pub grants_one : (client pages now : ℕ) (side : Owned) (old new : Managed) → Grants client pages now side old new → GrantsOne side.id old new
grants_one client pages now side old new g = granted_one side.id client pages now old g.between new g.room g.enters.number g.enters.entries g.enters.limit

pub grants_one_with : (client : ℕ) (block : List ℕ) (now : ℕ) (side : Owned) (old new : Managed) → GrantsWith client block now side old new → GrantsOne side.id old new
grants_one_with client block now side old new g = granted_one side.id client (page_count block) now old g.between new g.room g.enters.number g.enters.entries g.enters.limit

-- the segment of a block that was brought
pub granted_with : (client pages : ℕ) (block : List ℕ) (now : ℕ) (side : Owned) (old new : Managed) → IsFresh pages block → GrantsWith client block now side old new → IsGranted pages side
granted_with client pages block now side old new fresh g =
    let is = g.enters.fresh in
    record {
      held = ap (λ (o : Owned). o.phase) is;
      sized = ap (λ (o : Owned). o.pages) is ∙ fresh.1;
      zero_bytes = subst (λ (b : List ℕ). IsZero pages b) (sym (ap (λ (o : Owned). o.bytes) is)) fresh.0;
    }

pub runs_out_kept : (pages now : ℕ) (old new : Managed) → RunsOut pages now old new → GrantsNone old new
runs_out_kept pages now old new r = ⊎_elim
    (λ (e : new ≡ old). same_kept old new (ap (λ (m : Managed). m.entries) e) (ap (λ (m : Managed). m.limit) e))
    (λ h. room_kept pages now old new h)
    r

-- a grant with a block that was brought, out of memory
pub runs_out_with_kept : (block : List ℕ) (now : ℕ) (old new : Managed) → RunsOutWith block now old new → GrantsNone old new
runs_out_with_kept block now old new r = runs_out_kept (page_count block) now old new r

-- what it leaves, by the pages that were wanted
pub runs_out_of : (pages now : ℕ) (block : List ℕ) (old new : Managed) → page_count block ≡ pages → RunsOutWith block now old new → RunsOut pages now old new
runs_out_of pages now block old new is r = subst (λ (n : ℕ). RunsOut n now old new) is r

back_grows : (limit id : ℕ) (answer : Back) (book : List Entry) → Grows limit 0 0 book (book ++ back_entries id answer)
back_grows limit id Counted book = grows_back limit id book
back_grows limit id Purged book = subst (λ (es : List Entry). Grows limit 0 0 book es) (sym (append-nil book)) (grows_none limit book)
back_grows limit id Unknown book = subst (λ (es : List Entry). Grows limit 0 0 book es) (sym (append-nil book)) (grows_none limit book)

-- what returns make of a book
pub notes_grow : (limit : ℕ) (old : Managed) (notes : List Note) → Grows limit 0 0 old.entries (after_notes old notes).entries
notes_grow limit old [] = grows_none limit old.entries
notes_grow limit old (n ∷ ns) = grows_more limit 0 0 0 0 old.entries (after_note old n).entries (after_notes (after_note old n) ns).entries
    (back_grows limit n.id (answer_to n old) old.entries) (notes_grow limit (after_note old n) ns)

-- they leave the limit
pub notes_limit : (old : Managed) (notes : List Note) → (after_notes old notes).limit ≡ old.limit
notes_limit old [] = refl
notes_limit old (n ∷ ns) = notes_limit (after_note old n) ns

-- a reduction that may be out of memory
pub reduced_kept : {E : Type 0} (to now : ℕ) (result : Result Reduced E) (old new : Managed) → IfOk result (λ told. Reduces to now told old new) → OnErr result (new ≡ old) → GrantsNone old new
reduced_kept to now (Ok told) old new ok err = reduces_kept to now told old new ok
reduced_kept to now (Err e) old new ok err = same_kept old new (ap (λ (m : Managed). m.entries) err) (ap (λ (m : Managed). m.limit) err)
