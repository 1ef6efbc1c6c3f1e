-- Segments are handed back, and told, one after another.
use Rattle.std.proofs.Common.{◌≡◌, ℕ, ◌+◌, ◌≤◌, nat_lt, Bool, true, false, cond, List, [], ◌∷◌, ◌++◌, length, Option, Some, None, option_map, refl, sym, ap, ◌∙◌, subst, ⊎_elim, arith}
use Rattle.std.proofs.lemmas.Bool.Decides.{nat_tests}
use Rattle.std.proofs.lemmas.Option.{slice_get_cases}
use Rattle.segment.specs.Owned.{Owned}
use Rattle.manager_state.specs.declared.answers.Back.{Back}
use Rattle.manager_state.specs.Managed.{Managed}
use Rattle.manager_state.specs.Calls.{GivesBack}
use Rattle.client.specs.Gone.{next_of, after_next}
use Rattle.client.specs.Seen.{Seen, next_untold}
use Rattle.client.specs.Calls.{TakesFirstFree, TakesLast}
use Rattle.client.specs.Places.{NoneAllFree}
use Rattle.replay_real.specs.Returning.{HandsBack, Return, ReleasesEach, ReleasesFree, HandsInEach, HandsInAll, TellsEach, TellsAll, with_told}

-- ---- releases

-- some segments that are all free were handed back so far
pub record ReleasesSome (old : Seen) (state : Managed) (new : Seen) (after : Managed) : Type 0 where
  pub returns : List Return
  pub each : ReleasesEach returns old state new after

pub releases_none : (old : Seen) (state : Managed) → ReleasesSome old state old state
releases_none old state = record { returns = []; each = (refl, refl) }

releases_more : (returns : List Return) (r : Return) (old : Seen) (state : Managed) (mid out new : Seen) (between after : Managed) → ReleasesEach returns old state mid between
    → TakesFirstFree r.side mid out → HandsBack r.side r.told out new between after → ReleasesEach (returns ++ r ∷ []) old state new after
releases_more [] r old state mid out new between after w takes hands =
    (out, new, after, subst (λ (c : Seen). TakesFirstFree r.side c out) w.0 takes, subst (λ (m : Managed). HandsBack r.side r.told out new m after) w.1 hands, (refl, refl))
releases_more (x ∷ xs) r old state mid out new between after w takes hands =
    (w.0, w.1, w.2, w.3, w.4, releases_more xs r w.1 w.2 mid out new between after w.5 takes hands)

pub releases_next : (old : Seen) (state : Managed) (mid out new : Seen) (between after : Managed) (side : Owned) (told : Back) → ReleasesSome old state mid between
    → TakesFirstFree side mid out → HandsBack side told out new between after → ReleasesSome old state new after
releases_next old state mid out new between after side told w takes hands =
    record { returns = w.returns ++ record { side = side; told = told } ∷ []; each = releases_more w.returns (record { side = side; told = told }) old state mid out new between after w.each takes hands }

pub releases_all : (old : Seen) (state : Managed) (mid new : Seen) (after : Managed) → ReleasesSome old state mid after → NoneAllFree mid → new ≡ mid → ReleasesFree old state new after
releases_all old state mid new after w none same =
    record {
      returns = w.returns;
      each = subst (λ (c : Seen). ReleasesEach w.returns old state c after) (sym same) w.each;
      none = subst NoneAllFree (sym same) none;
    }

-- ---- a removal

-- some segments were handed back so far
pub record HandsInSome (old : Seen) (state : Managed) (new : Seen) (after : Managed) : Type 0 where
  pub returns : List Return
  pub each : HandsInEach returns old state new after

pub hands_none : (old : Seen) (state : Managed) → HandsInSome old state old state
hands_none old state = record { returns = []; each = (refl, refl) }

hands_more : (returns : List Return) (r : Return) (old : Seen) (state : Managed) (mid out new : Seen) (between after : Managed) → HandsInEach returns old state mid between
    → TakesLast r.side mid out → HandsBack r.side r.told out new between after → HandsInEach (returns ++ r ∷ []) old state new after
hands_more [] r old state mid out new between after w takes hands =
    (out, new, after, subst (λ (c : Seen). TakesLast r.side c out) w.0 takes, subst (λ (m : Managed). HandsBack r.side r.told out new m after) w.1 hands, (refl, refl))
hands_more (x ∷ xs) r old state mid out new between after w takes hands =
    (w.0, w.1, w.2, w.3, w.4, hands_more xs r w.1 w.2 mid out new between after w.5 takes hands)

pub hands_next : (old : Seen) (state : Managed) (mid out new : Seen) (between after : Managed) (side : Owned) (told : Back) → HandsInSome old state mid between
    → TakesLast side mid out → HandsBack side told out new between after → HandsInSome old state new after
hands_next old state mid out new between after side told w takes hands =
    record { returns = w.returns ++ record { side = side; told = told } ∷ []; each = hands_more w.returns (record { side = side; told = told }) old state mid out new between after w.each takes hands }

pub hands_all : (old : Seen) (state : Managed) (mid new : Seen) (after : Managed) → HandsInSome old state mid after → mid.leases ≡ [] → new ≡ mid → HandsInAll old state new after
hands_all old state mid new after w none same =
    record {
      returns = w.returns;
      each = subst (λ (c : Seen). HandsInEach w.returns old state c after) (sym same) w.each;
      none = ap (λ (c : Seen). c.leases) same ∙ none;
    }

-- ---- what is told

-- some gone segments were told so far
pub record TellsSome (old : Seen) (state : Managed) (new : Seen) (after : Managed) : Type 0 where
  pub told : List (ℕ × Back)
  pub each : TellsEach told old state new after
  pub number : new.number ≡ old.number

pub tells_none : (old : Seen) (state : Managed) → TellsSome old state old state
tells_none old state = record { told = []; each = (refl, refl); number = refl }

tells_more : (told : List (ℕ × Back)) (id : ℕ) (answer : Back) (old : Seen) (state : Managed) (mid : Seen) (between after : Managed) → TellsEach told old state mid between
    → next_untold mid ≡ Some id → GivesBack mid.number id None answer between after → TellsEach (told ++ (id, answer) ∷ []) old state (with_told mid) after
tells_more [] id answer old state mid between after w next gives =
    (after, subst (λ (c : Seen). next_untold c ≡ Some id) w.0 next, subst (λ (c : Seen). GivesBack c.number id None answer state after) w.0 (subst (λ (m : Managed). GivesBack mid.number id None answer m after) w.1 gives), (ap with_told w.0, refl))
tells_more (x ∷ xs) id answer old state mid between after w next gives =
    (w.0, w.1, w.2, tells_more xs id answer (with_told old) w.0 mid between after w.3 next gives)

pub tells_next : (old : Seen) (state : Managed) (mid new : Seen) (between after : Managed) (number id : ℕ) (answer : Back) → TellsSome old state mid between
    → Some id ≡ next_untold mid → new ≡ with_told mid → number ≡ old.number → GivesBack number id None answer between after → TellsSome old state new after
tells_next old state mid new between after number id answer w next is named gives =
    record {
      told = w.told ++ (id, answer) ∷ [];
      each = subst (λ (c : Seen). TellsEach (w.told ++ (id, answer) ∷ []) old state c after) (sym is)
          (tells_more w.told id answer old state mid between after w.each (sym next) (subst (λ (n : ℕ). GivesBack n id None answer between after) (named ∙ sym w.number) gives));
      number = ap (λ (c : Seen). c.number) is ∙ w.number;
    }

-- none is told where none is next
pub none_told : (sides : List Owned) (told : ℕ) → None ≡ next_of sides told → after_next sides told ≡ told
none_told sides told none =
    ⊎_elim
    (λ there. absurd (let found = none ∙ ap (λ (o : Option Owned). option_map (λ (side : Owned). side.id) o) there.2 in cc))
    (λ past. let far = past.0 in ap (λ (b : Bool). cond b (told + 1) told) (late (nat_lt told (length sides)) refl far))
    (slice_get_cases sides told).1
  where
    late : (b : Bool) → nat_lt told (length sides) ≡ b → length sides ≤ told → nat_lt told (length sides) ≡ false
    late true test far = absurd (grind (arith, nat_tests, test, far))
    late false test far = test

pub tells_all : (old : Seen) (state : Managed) (mid new : Seen) (after : Managed) → TellsSome old state mid after → None ≡ next_untold mid → new ≡ with_told mid → TellsAll old state new after
tells_all old state mid new after w none is =
    let same : new ≡ mid = is ∙ ap (λ (n : ℕ). record mid { told = n }) (none_told mid.gone mid.told none) in
    record {
      told = w.told;
      each = subst (λ (c : Seen). TellsEach w.told old state c after) (sym same) w.each;
      none = ap next_untold same ∙ sym none;
    }
