-- What one turn of a reduction does.
use Rattle.std.proofs.Common.{◌≡◌, ◌≢◌, ℕ, ◌+◌, ◌*◌, ◌<◌, ◌≤◌, ◌==◌, true, false, not, cond, List, [], ◌∷◌, length, get_or, set, map, filter, sum_by, Option, Some, refl, sym, ap, ◌∙◌, arith}
use Rattle.std.specs.List.{remove}
use Rattle.std.proofs.lemmas.List.{get_or_read}
use Rattle.std.proofs.lemmas.List.Edits.{length-remove}
use Rattle.std.proofs.lemmas.List.Sums.{sum_by-cons, sum_by-set, sum_by-remove, sum-map}
use Rattle.units.specs.declared.TheConstants.{PAGE}
use Rattle.segment.specs.Tries.{IsTimely, known_use}
use Rattle.segment.specs.Warded.{Warded}
use Rattle.machine.specs.Reduction.{Candidate, least}
use Rattle.lru_reduce.specs.Wards.{AreLive, number_of, candidate_of, candidates_of, total_pages, noted_at, used_after}
use Rattle.lru_reduce.specs.Measure.{work_of}
use Rattle.lru_reduce.specs.Turns.{WinsAt, LosesAt, stood_as}
use Rattle.lru_reduce.proofs.Keyed.{same_yes, same_no, remove-but, set-changed, remove-set}
use Rattle.lru_reduce.proofs.Work.{known_by, less_left}

-- the pages of the segments, as a sum over the wardens
by_wardens : (sides : List Warded) → sum_by (λ (c : Candidate). c.pages) (candidates_of sides) ≡ sum_by (λ (w : Warded). w.pages) sides
by_wardens [] = refl
by_wardens (w ∷ sides) =
    sum_by-cons (λ (c : Candidate). c.pages) (candidate_of w) (candidates_of sides) ∙ ap (λ n. w.pages + n) (by_wardens sides) ∙ sym (sum_by-cons (λ (v : Warded). v.pages) w sides)

pub pages_sum : (sides : List Warded) → total_pages sides ≡ sum_by (λ (w : Warded). w.pages) sides
pages_sum sides = sum-map (λ (c : Candidate). c.pages) (candidates_of sides) ∙ by_wardens sides

-- a try that is noted
abbrev pub noted : ℕ → ℕ → Warded → Warded
noted now word w = record w { tries = (now, word) ∷ w.tries }

pub noted_at-id : (now word id : ℕ) (w : Warded) → number_of (noted_at now word id w) ≡ number_of w
noted_at-id now word id w = elim (w.id == id) as (λ b. number_of (cond b (noted now word w) w) ≡ number_of w) [
  | true ↦ refl
  | false ↦ refl
]

-- after a try that lost
set_is : (now place word : ℕ) (sides : List Warded) (old new : Warded) → AreLive sides → place < length sides → old ≡ get_or sides place old → new ≡ noted now word old
    → set sides place new ≡ map (noted_at now word old.id) sides
set_is now place word sides old new ok inside here changed =
    let whole = set-changed number_of (noted now word) sides place old ok.rising inside in
    let e : set sides place new ≡ set sides place (noted now word (get_or sides place old)) = ap (λ w. set sides place w) (changed ∙ ap (λ (w : Warded). noted now word w) here) in
    e ∙ whole ∙ ap (λ (w : Warded). map (noted_at now word w.id) sides) (sym here)

twice : (n : ℕ) → 2 * n ≢ 1
twice n e = absurd (omega (arith, e))

-- a known use that is at least 1 is no none
known_some : (tries : List (ℕ × ℕ)) → 1 ≤ known_by tries → known_use tries ≡ Some (known_by tries)
known_some [] least = absurd (omega (arith, least))
known_some (t ∷ tries) least = refl

pub won_at : (now place word : ℕ) (sides moved : List Warded) (old new : Warded) (block : List ℕ) → AreLive sides → place < length sides → old ≡ get_or sides place old
    → word ≡ 2 * known_by old.tries → length block ≡ PAGE * old.pages → IsTimely word old.tries → moved ≡ remove (set sides place new) place
    → WinsAt now place old.id old.pages (known_by old.tries) block sides moved
won_at now place word sides moved old new block ok inside here same sized timely left =
    let known = known_by old.tries in
    let facts = timely (λ one. twice known (sym same ∙ one)) in
    let gone : moved ≡ remove sides place = left ∙ remove-set sides place new in
    let first : get_or sides place old ≡ old = sym here in
    let won : (2 * known == 2 * known) ≡ true = same_yes (2 * known) (2 * known) refl in
    let fewer = length-remove sides place inside in
    let pages = sum_by-remove (λ (w : Warded). w.pages) sides place old inside in
    let works = sum_by-remove (λ (w : Warded). work_of now w) sides place old inside in
    let paid : (get_or sides place old).pages ≡ old.pages = ap (λ (w : Warded). w.pages) first in
    let some : 1 ≤ work_of now (get_or sides place old) = omega arith in
    let low : 1 ≤ known = let l = facts.0.0 in omega (arith, same, l) in
    let stood : candidate_of old ≡ stood_as old.id old.pages known = ap (λ (k : Option ℕ). record { id = old.id; pages = old.pages; known = k }) (known_some old.tries low) in
    record {
      stood = λ d. ap candidate_of (sym (get_or_read sides place old inside here d)) ∙ stood;
      moment = let high = facts.0.1 in (low, omega (arith, same, high));
      sized = sized;
      sides = rw won (gone ∙ remove-but number_of sides place old ok.rising inside ∙ ap (λ (w : Warded). filter (λ (v : Warded). not (v.id == w.id)) sides) first);
      fewer = rw gone fewer;
      left = rw (gone, pages_sum (remove sides place), pages_sum sides) (ap (λ n. sum_by (λ (w : Warded). w.pages) (remove sides place) + n) (sym paid) ∙ pages);
      less = rw gone (omega (arith, works, some));
    }

pub lost_at : (now place word known : ℕ) (sides : List Warded) (old new : Warded) → AreLive sides → place < length sides → old ≡ get_or sides place old
    → word ≢ 2 * known_by old.tries → IsTimely word old.tries → new ≡ noted now word old → known_use new.tries ≡ Some known
    → LosesAt now place known sides (set sides place new)
lost_at now place word known sides old new ok inside here other timely changed told =
    let lost : (word == 2 * known_by old.tries) ≡ false = same_no word (2 * known_by old.tries) other in
    let works = sum_by-set (λ (w : Warded). work_of now w) sides place new old inside in
    let was : work_of now (get_or sides place old) ≡ work_of now old = ap (λ (w : Warded). work_of now w) (sym here) in
    let is : work_of now new ≡ work_of now (noted now word old) = ap (λ (w : Warded). work_of now w) changed in
    record {
      at = candidate_of old;
      word = word;
      stood = λ d. ap candidate_of (sym (get_or_read sides place old inside here d));
      renewed = let e : Some (used_after now word) ≡ Some known = sym (ap (λ (w : Warded). known_use w.tries) changed) ∙ told in cc;
      other = other;
      sides = rw lost (set_is now place word sides old new ok inside here changed);
      less = λ before. let falls = less_left now word old.tries before other timely in omega (arith, works, was, is, falls);
    }
