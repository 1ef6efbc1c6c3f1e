-- What a step of one segment makes of the table by number.
use Rattle.std.proofs.Common.{◌≡◌, ◌≢◌, ℕ, ◌<◌, ◌≤◌, ◌==◌, not, ◌&&◌, false, List, [], ◌∷◌, ◌++◌, length, get_or, set, zero, suc, refl, sym, ap, ◌∙◌, subst, ⊎_elim, arith, get_or-set_other, get_or-set_same, length-append}
use Rattle.std.proofs.lemmas.Bool.{cases_lt, cases_eq, ne_eqb, false≢true}
use Rattle.std.proofs.lemmas.List.{get_or_past, get_or_default, get_or_append_left, get_or_push}
use Rattle.machine.specs.declared.event.Event.{Event}
use Rattle.machine.specs.declared.event.Event.TheVariants.{Grant}
use Rattle.machine.specs.declared.event.Answer.{Answer}
use Rattle.machine.specs.declared.event.Answer.TheVariants.{Misuse, Granted}
use Rattle.machine.specs.History.{History, number_of, is_begun, pages_of, is_ended, is_gone, is_held, stamp_of, known_of}
use Rattle.machine.specs.Answers.{answer_of, is_live, bytes_held}
use Rattle.machine.specs.Segments.{IsUnknown}
use Rattle.machine.proofs.Whole.{unknown_misused, at_other, at_misuse}
use Rattle.replay_plain.specs.State.{is_grant}
use Rattle.replay_real.specs.declared.owners.Given.{Given}
use Rattle.replay_real.specs.Owners.{nobody, given_at, ShowsAt, ShowsEach}

-- an event that is no Grant, on a number that was not granted
pub misused : (h : History) (e : Event) (id : ℕ) → number_of e ≡ id → is_grant e ≡ false → IsUnknown h id → Misuse ≡ answer_of h e
misused h e id number other w =
    unknown_misused h e (subst (λ (n : ℕ). IsUnknown h n) (sym number) w) (λ i client pages is. false≢true (sym other ∙ ap is_grant is))

-- a number past the end of the table was not granted
pub unknown_past : (h : History) (table : List Given) (id : ℕ) → length table ≤ id → ShowsEach h table → IsUnknown h id
unknown_past h table id far w = subst (λ (g : Given). ShowsAt h id g.owner) (get_or_past table id nobody far) (w id)

-- misuse changes nothing
pub each_misused : (h : History) (e : Event) (table : List Given) → ShowsEach h table → ShowsEach ((e, Misuse) ∷ h) table
each_misused h e table w = λ s. at_misuse h e s (given_at table s).owner (w s)

-- an event on the segment at a place
pub each_set : (h : History) (e : Event) (a : Answer) (table : List Given) (place : ℕ) (old given : Given) → number_of e ≡ place → old ≡ get_or table place old → place < length table
    → ShowsEach h table → (ShowsAt h place old.owner → ShowsAt ((e, a) ∷ h) place given.owner) → ShowsEach ((e, a) ∷ h) (set table place given)
each_set h e a table place old given number is inside w step = λ s.
    ⊎_elim
    (λ same. subst (λ (n : ℕ). ShowsAt ((e, a) ∷ h) n (given_at (set table place given) n).owner) same
    (subst (λ (g : Given). ShowsAt ((e, a) ∷ h) place g.owner) (sym (get_or-set_same table place given nobody inside))
    (step (subst (λ (g : Given). ShowsAt h place g.owner) (sym (is ∙ get_or_default table place old nobody inside)) (w place)))))
    (λ other. subst (λ (g : Given). ShowsAt ((e, a) ∷ h) s g.owner) (sym (get_or-set_other table place s given nobody (λ same. other (sym same))))
    (at_other h e a s (given_at table s).owner (ap (λ (n : ℕ). n == s) number ∙ ne_eqb place s other) (w s)))
    (cases_eq place s)

-- another place than the one behind the end, where one more is added
push_other : (table : List Given) (given : Given) (s : ℕ) → s ≢ length table → get_or (table ++ given ∷ []) s nobody ≡ get_or table s nobody
push_other table given s other =
    ⊎_elim (λ near. get_or_append_left table (given ∷ []) nobody s near)
    (λ far. get_or_past (table ++ given ∷ []) s nobody (omega (arith, length-append table (given ∷ []))) ∙ sym (get_or_past table s nobody far))
    (cases_lt s (length table))

-- a Grant of the next number
pub each_push : (h : History) (id to pages : ℕ) (table : List Given) (given : Given) → id ≡ length table → ShowsEach h table
    → (IsUnknown h id → ShowsAt ((Grant id to pages, Granted id) ∷ h) id given.owner) → ShowsEach ((Grant id to pages, Granted id) ∷ h) (table ++ given ∷ [])
each_push h id to pages table given next w step = λ s.
    ⊎_elim
    (λ same. subst (λ (n : ℕ). ShowsAt ((Grant id to pages, Granted id) ∷ h) n (given_at (table ++ given ∷ []) n).owner) same
    (subst (λ (g : Given). ShowsAt ((Grant id to pages, Granted id) ∷ h) id g.owner) (sym (get_or_push table given nobody id (sym next)))
    (step (unknown_past h table id (omega arith) w))))
    (λ other. subst (λ (g : Given). ShowsAt ((Grant id to pages, Granted id) ∷ h) s g.owner) (sym (push_other table given s (λ same. other (next ∙ sym same))))
    (at_other h (Grant id to pages) (Granted id) s (given_at table s).owner (ne_eqb id s other) (w s)))
    (cases_eq id s)

-- nothing was granted before the first event
pub none_known : (s : ℕ) → IsUnknown [] s
unfolding is_begun pages_of is_ended is_gone is_held stamp_of known_of
none_known s = record { begun = refl; pages = refl; held = λ page. refl; stamp = refl; known = refl; gone = refl; ended = refl }

only_nobody : (s : ℕ) → nobody ≡ get_or (nobody ∷ []) s nobody
only_nobody zero = refl
only_nobody (suc s) = sym (get_or_past [] s nobody (omega arith))

pub each_new : ShowsEach [] (nobody ∷ [])
each_new s = subst (λ (g : Given). ShowsAt [] s g.owner) (only_nobody s) (none_known s)

-- a number that was not granted is not live
pub not_live : (h : History) (id place count : ℕ) → IsUnknown h id → false ≡ (is_live h id && bytes_held h id place count)
not_live h id place count w = sym (ap (λ b. b && not (is_ended h id) && not (is_gone h id) && bytes_held h id place count) w.begun)
