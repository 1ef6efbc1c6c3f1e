-- One command more on both runs.
use Rattle.std.proofs.Common.{◌≡◌, ℕ, Bool, true, false, ◌||◌, List, [], ◌∷◌, ◌++◌, length, take, drop, ◌-◌, Some, None, refl, sym, ap, ◌∙◌, subst, arith, append_assoc, length-append}
use Rattle.std.proofs.lemmas.Bool.{false≢true}
use Rattle.std.proofs.lemmas.List.{take_all}
use Rattle.discard_book.specs.declared.entry.Entry.{Entry}
use Rattle.script_text.specs.declared.command.Command.{Command}
use Rattle.script_text.specs.Script.{Commands}
use Rattle.replay_plain.specs.State.{ReplayState}
use Rattle.replay_plain.specs.Commands.{state_after, state_after_all, is_finding, has_finding, added}
use Rattle.replay_plain.specs.Replies.{reply_of}
use Rattle.replay_plain.specs.Records.{replies_after, record_text}
use Rattle.replay_plain.specs.Run.{RunStandsFor}
use Rattle.replay_real.specs.declared.run.RealRun.{RealRun}
use Rattle.replay_real.specs.Standing.{RealStandsFor, IsOneLine}
use Rattle.replay_run.specs.declared.differ.Differ.{Differ}
use Rattle.replay_run.specs.declared.both.BothRuns.{BothRuns}
use Rattle.replay_run.specs.Differing.{IsDiffer}
use Rattle.replay_run.specs.declared.both.Beside.{Beside}
use Rattle.replay_run.specs.declared.both.Beside.TheVariants.{Agrees, Differs}
use Rattle.replay_run.specs.Both.{AgreesAt, BesideStands, BothStand, RanBeside, GoesOn}
use Rattle.replay_run.proofs.Texts.{records_differ}
use Rattle.replay_run.proofs.Growing.{grows, drop_front}
use Rattle.replay_run.proofs.Spoken.{reply_line}

pub state_push : (first : ReplayState) (done : Commands) (line : ℕ × Command) → state_after_all first (done ++ line ∷ []) ≡ state_after (state_after_all first done) line.1
state_push first [] line = refl
state_push first (x ∷ done) line = state_push (state_after first x.1) done line

replies_push : (first : ReplayState) (done : Commands) (line : ℕ × Command)
    → replies_after first (done ++ line ∷ []) ≡ replies_after first done ++ (reply_of (state_after_all first done) line.1 ++ 10 ∷ [])
replies_push first [] line = append_nothing (reply_of first line.1 ++ 10 ∷ [])
  where
    append_nothing : (xs : List ℕ) → xs ++ [] ≡ xs
    append_nothing [] = refl
    append_nothing (x ∷ xs) = ap (λ l. x ∷ l) (append_nothing xs)
replies_push first (x ∷ done) line =
    ap (λ t. (reply_of first x.1 ++ 10 ∷ []) ++ t) (replies_push (state_after first x.1) done line)
    ∙ sym (append_assoc (reply_of first x.1 ++ 10 ∷ []) (replies_after (state_after first x.1) done) (reply_of (state_after_all (state_after first x.1) done) line.1 ++ 10 ∷ []))

finding_push : (first : ReplayState) (done : Commands) (line : ℕ × Command)
    → has_finding first (done ++ line ∷ []) ≡ (has_finding first done || is_finding (state_after_all first done) line.1)
finding_push first [] line = by_test (is_finding first line.1)
  where
    by_test : (b : Bool) → (b || false) ≡ b
    by_test true = refl
    by_test false = refl
finding_push first (x ∷ done) line =
    ap (λ b. is_finding first x.1 || b) (finding_push (state_after first x.1) done line)
    ∙ by_test (is_finding first x.1) (has_finding (state_after first x.1) done) (is_finding (state_after_all (state_after first x.1) done) line.1)
  where
    by_test : (a b c : Bool) → (a || (b || c)) ≡ (a || b || c)
    by_test true b c = refl
    by_test false b c = refl

first_false : (a b : Bool) → (a || b) ≡ false → a ≡ false
first_false true b e = absurd (false≢true (sym e))
first_false false b e = refl

second_false : (a b : Bool) → (a || b) ≡ false → b ≡ false
second_false true b e = absurd (false≢true (sym e))
second_false false b e = e

-- neither a command before nor this one is finding
none_before : (first : ReplayState) (done : Commands) (line : ℕ × Command) → has_finding first (done ++ line ∷ []) ≡ false → has_finding first done ≡ false
none_before first done line e = first_false _ (is_finding (state_after_all first done) line.1) (sym (finding_push first done line) ∙ e)

not_this : (first : ReplayState) (done : Commands) (line : ℕ × Command) → has_finding first (done ++ line ∷ []) ≡ false → is_finding (state_after_all first done) line.1 ≡ false
not_this first done line e = second_false (has_finding first done) _ (sym (finding_push first done line) ∙ e)

same_end : (front xs ys : List Entry) → front ++ xs ≡ front ++ ys → xs ≡ ys
same_end front xs ys e = sym (drop_front front xs) ∙ ap (drop (length front)) e ∙ drop_front front ys

-- the records are the same
pub agrees_next : (first : ReplayState) (done : Commands) (place : ℕ) (command : Command) (said : List ℕ) (more : List Entry) (old new : RealRun)
    → said ≡ reply_of (state_after_all first done) command → more ≡ added (state_after_all first done) command
    → AgreesAt old first done → RanBeside None place command said more old new → AgreesAt new first (done ++ (place, command) ∷ [])
agrees_next first done place command said more old new says adds w ran =
    let state = state_after_all first done in
    let line : ℕ × Command = (place, command) in
    record {
      entries = ran.ran.grown ∙ ap (λ xs. xs ++ ran.more) w.entries ∙ ap (λ xs. state.entries ++ xs) (ran.compares.1 ∙ adds) ∙ sym (grows state command)
          ∙ ap (λ (s : ReplayState). s.entries) (sym (state_push first done line));
      stands = λ none. subst (RealStandsFor new) (sym (state_push first done line))
          (ran.ran.stands state (w.stands (none_before first done line none)) (not_this first done line none));
    }

-- the records differ
pub differs_next : (first : ReplayState) (done : Commands) (place : ℕ) (command : Command) (said : List ℕ) (more : List Entry) (old new : RealRun) (differ : Differ)
    → said ≡ reply_of (state_after_all first done) command → more ≡ added (state_after_all first done) command
    → AgreesAt old first done → RanBeside (Some differ) place command said more old new → IsDiffer differ first (done ++ (place, command) ∷ [])
differs_next first done place command said more old new differ says adds w ran =
    let state = state_after_all first done in
    let tells = ran.compares.1 in
    record {
      before = done;
      command = command;
      later = [];
      at = ap (λ p. done ++ (p, command) ∷ []) (sym tells.place);
      told = tells.plain ∙ ap (λ r. record_text r more) says ∙ ap (λ es. record_text (reply_of state command) es) adds;
      other = λ e. ran.compares.0 (records_differ ran.words said ran.more more ran.ran.line (subst IsOneLine (sym says) (reply_line state command))
          tells.short_more tells.short_added (sym tells.real ∙ e ∙ tells.plain));
      finding = by_test (has_finding first (done ++ (differ.place, command) ∷ [])) refl;
    }
  where
    state : ReplayState
    state = state_after_all first done

    line : ℕ × Command
    line = (differ.place, command)

    same_more : RealStandsFor new (state_after state command) → ran.more ≡ more
    same_more stands =
        same_end state.entries ran.more more
        (ap (λ xs. xs ++ ran.more) (sym w.entries) ∙ sym ran.ran.grown ∙ stands.entries ∙ grows state command ∙ ap (λ xs. state.entries ++ xs) (sym adds))

    by_test : (b : Bool) → has_finding first (done ++ line ∷ []) ≡ b → has_finding first (done ++ line ∷ []) ≡ true
    by_test true e = e
    by_test false e =
        let stood = w.stands (none_before first done line e) in
        let this = not_this first done line e in
        absurd (ran.compares.0 (ran.ran.reply state stood this ∙ sym says, same_more (ran.ran.stands state stood this)))

-- a difference that was told stays the first one
pub differs_still : (first : ReplayState) (done : Commands) (line : ℕ × Command) (differ : Differ) → IsDiffer differ first done → IsDiffer differ first (done ++ line ∷ [])
differs_still first done line differ w =
    record {
      before = w.before;
      command = w.command;
      later = w.later ++ line ∷ [];
      at = ap (λ l. l ++ line ∷ []) w.at ∙ append_assoc w.before ((differ.place, w.command) ∷ w.later) (line ∷ []);
      told = w.told;
      other = w.other;
      finding = w.finding;
    }

-- both runs stand after one command more
pub both_next : (first : ReplayState) (done : Commands) (line : ℕ × Command) (old new : BothRuns) → BothStand old first done
    → new.text.items ≡ (old.text.items ++ reply_of (state_after_all first done) line.1) ++ 10 ∷ []
    → RunStandsFor new.plain (state_after (state_after_all first done) line.1)
    → BesideStands new.beside first (done ++ line ∷ [])
    → BothStand new first (done ++ line ∷ [])
both_next first done line old new w text plain beside =
    let reply = reply_of (state_after_all first done) line.1 in
    record {
      text = text ∙ append_assoc old.text.items reply (10 ∷ []) ∙ ap (λ t. t ++ (reply ++ 10 ∷ [])) w.text ∙ sym (replies_push first done line);
      plain = subst (RunStandsFor new.plain) (sym (state_push first done line)) plain;
      beside = beside;
    }

-- what is beside the plain run after one command more
pub beside_next : (first : ReplayState) (done : Commands) (place : ℕ) (command : Command) (said : List ℕ) (more : List Entry) (old new : Beside)
    → said ≡ reply_of (state_after_all first done) command → more ≡ added (state_after_all first done) command
    → BesideStands old first done → GoesOn old new place command said more → BesideStands new first (done ++ (place, command) ∷ [])
beside_next first done place command said more (Agrees real) (Agrees new) says adds w goes = agrees_next first done place command said more real new says adds w goes
beside_next first done place command said more (Agrees real) (Differs differ) says adds w goes =
    differs_next first done place command said more real goes.0 differ says adds w goes.1
beside_next first done place command said more (Differs differ) new says adds w goes =
    subst (λ (b : Beside). BesideStands b first (done ++ (place, command) ∷ [])) (sym goes) (differs_still first done (place, command) differ w)

-- what was appended to a text is what stands behind its old end
pub behind : {A : Type 0} (old more new : List A) (at : ℕ) → new ≡ old ++ more → at ≡ length old → drop at new ≡ more
behind {A = A} old more new at is here = ap (λ n. drop n new) here ∙ ap (drop (length old)) is ∙ front_off old
  where
    front_off : (xs : List A) → drop (length xs) (xs ++ more) ≡ more
    front_off [] = refl
    front_off (x ∷ xs) = front_off xs

-- the same, as a part of the new one
pub part_behind : {A : Type 0} (old more new : List A) (at : ℕ) → new ≡ old ++ more → at ≡ length old → take (length new - at) (drop at new) ≡ more
part_behind {A = A} old more new at is here =
    let whole = ap length is ∙ length-append old more in
    let rest = behind old more new at is here in
    let count = ap length rest in
    take_all (length new - at) (drop at new) (omega arith) ∙ rest
