-- What the two sides of a segment know of it, and what each step changes in that.
use Rattle.std.specs.Prelude.{◌≡◌, ◌≢◌, ℕ, ◌+◌, ◌/◌, ◌*◌, ◌==◌, ◌≤◌, Bool, false, true, List, [], ◌∷◌, Option, Some, None, unwrap_or, if◌then◌else◌}
use Rattle.units.specs.Moment.{IsMoment}
use Rattle.segment_rule.specs.declared.view.Stage.TheVariants.{New, Held, Idle, Gone}
use Rattle.segment_rule.specs.declared.view.OwnerView.{OwnerView}
use Rattle.segment_rule.specs.declared.view.WardenView.{WardenView}

-- the owner's view before its first step
abbrev pub fresh_owner : ℕ → ℕ → OwnerView
fresh_owner id pages = record { id = id; pages = pages; phase = New; last = 0; left = []; apart = false; steps = 0 }

-- the warden's view before its first try
abbrev pub fresh_warden : ℕ → ℕ → WardenView
fresh_warden id pages = record { id = id; pages = pages; tries = []; taken = false }

-- the owner has settled: it holds its new segment
abbrev pub settled : OwnerView → OwnerView
settled o = record o { phase = Held }

-- the warden has got a view of its own
abbrev pub parted : OwnerView → OwnerView
parted o = record o { apart = true }

-- the owner's view after a lock that won
abbrev pub owner_holds : OwnerView → OwnerView
owner_holds o = record o { phase = Held; steps = o.steps + 1 }

-- the owner's view after a step that found the segment gone
abbrev pub owner_loses : OwnerView → OwnerView
owner_loses o = record o { phase = Gone; steps = o.steps + 1 }

-- the owner's view after an unlock with this stamp, which left these bytes
abbrev pub owner_rests : ℕ → List ℕ → OwnerView → OwnerView
owner_rests stamp bytes o = record o { phase = Idle; last = stamp; left = bytes; steps = o.steps + 1 }

-- the owner's view after a look that found the segment there
abbrev pub owner_stays : OwnerView → OwnerView
owner_stays o = record o { steps = o.steps + 1 }

-- the warden's view after a try at a moment that found this word
abbrev pub warden_tries : ℕ → ℕ → Bool → WardenView → WardenView
warden_tries now found taken w = record w { tries = (now, found) ∷ w.tries; taken = taken }

-- The known use, from the tries, the latest first, each with its moment and the word that it found:
-- none before the first; else the latest one's moment where it found the segment held, or else the time that it found.
abbrev pub known_use : List (ℕ × ℕ) → Option ℕ
known_use [] = None
known_use (latest ∷ before) = Some (if latest.1 == 1 then latest.0 else latest.1 / 2)

-- the word that the next try expects: twice the known use, where none counts as 0
abbrev pub expected_word : List (ℕ × ℕ) → ℕ
expected_word tries = 2 * unwrap_or (known_use tries) 0

-- each time that these tries found is at or before this one
abbrev pub FoundBy : ℕ → List (ℕ × ℕ) → Type 0
FoundBy time [] = Unit {0}
FoundBy time (latest ∷ before) = (latest.1 ≢ 1 → latest.1 / 2 ≤ time) × FoundBy time before

-- a word that a try finds is 1, or twice a moment at or after each time that the tries before it found
abbrev pub IsTimely : ℕ → List (ℕ × ℕ) → Type 0
IsTimely found before = found ≢ 1 → IsMoment (found / 2) × (found ≡ 2 * (found / 2)) × FoundBy (found / 2) before
