-- Places in lists by class, and what the calls do to them.
use Rattle.std.specs.Prelude.{◌≡◌, ℕ, zero, suc, ◌+◌, get_or, min, not, ◌==◌, List, [], ◌∷◌, ◌++◌, Option, Some, None, Contains, filter, if◌then◌else◌}
use Rattle.std.specs.List.{last_or}

-- how many places there are, and for each class from 1 to 256 the places in its list, the latest last
pub record Classes : Type 0 where
  pub places : ℕ
  pub lists : List (List ℕ)

-- the list of this class
abbrev pub list_of : Classes → ℕ → List ℕ
list_of classes zero = []
list_of classes (suc class) = get_or classes.lists class []

-- the class of a run: its pages, where 256 and more are one class
abbrev pub class_of_run : ℕ → ℕ
class_of_run pages = min pages 256

-- the place stands in one of the lists
abbrev pub IsListed : Classes → ℕ → Type 0
IsListed classes place = (class : ℕ) × Contains (list_of classes class) place

-- the list without the place
abbrev pub without : List ℕ → ℕ → List ℕ
without list place = filter (λ other. not (other == place)) list

-- what stands directly before the place in the list, where `was` stands directly before the list
abbrev pub before_in : Option ℕ → List ℕ → ℕ → Option ℕ
before_in was [] place = None
before_in was (other ∷ list) place = if other == place then was else before_in (Some other) list place

-- there is no place, and each list is empty
pub record AreNew (new : Classes) : Type 0 where
  pub places : new.places ≡ 0
  pub lists : (class : ℕ) → list_of new class ≡ []

-- there are n more places, and the lists are as before
pub record Extends (old new : Classes) (n : ℕ) : Type 0 where
  pub places : new.places ≡ old.places + n
  pub list : (class : ℕ) → list_of new class ≡ list_of old class

-- the place came last in the list of its class, and each other list is as before
pub record Appends (old new : Classes) (place pages : ℕ) : Type 0 where
  pub places : new.places ≡ old.places
  pub list : (class : ℕ) → list_of new class ≡ (if class == class_of_run pages then list_of old class ++ place ∷ [] else list_of old class)

-- the place left its list, and each other list is as before
pub record Removes (old new : Classes) (place : ℕ) : Type 0 where
  pub places : new.places ≡ old.places
  pub list : (class : ℕ) → list_of new class ≡ without (list_of old class) place

-- the place directly before this one in its list, or none where it is the first; in the words of the list, and of each
-- way to cut the list at the place
pub record IsBefore (lists : Classes) (place : ℕ) (found : Option ℕ) : Type 0 where
  pub first : (class : ℕ) → Contains (list_of lists class) place → found ≡ before_in None (list_of lists class) place
  pub each : (class : ℕ) (older newer : List ℕ) → list_of lists class ≡ older ++ place ∷ newer → found ≡ last_or None older
