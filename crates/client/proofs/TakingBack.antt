-- Segments are given back one after the other: what the granter took of them.
use Rattle.std.proofs.Common.{◌≡◌, ℕ, zero, suc, ◌-◌, ◌≤◌, Bool, true, false, List, [], ◌∷◌, ◌++◌, length, take, drop, reverse, Option, Some, None, option_map, refl, sym, ap, subst, ◌∙◌, inl, inr, arith, length-append, take-append-drop}
use Rattle.std.specs.List.{slice_get, remove, Contains}
use Rattle.std.proofs.lemmas.List.{reverse-append, length-take-le}
use Rattle.std.proofs.lemmas.Bool.{lt-ltb}
use Rattle.std.proofs.lemmas.List.Elements.{Contains-append_cases, Contains-append_left, Contains-append_right}
use Rattle.std.proofs.lemmas.Option.{none-some, same_Some, slice_get_within, slice_get_cases}
use Rattle.segment.specs.Owned.{Owned}
use Rattle.client.specs.Gone.{next_of, after_next, kept_side}
use Rattle.client.specs.Lease.{Lease}
use Rattle.client.specs.Seen.{Seen, next_untold}
use Rattle.segment.specs.declared.owner.Lock.{Lock}
use Rattle.segment.specs.declared.owner.Lock.TheVariants.{Held, Gone}
use Rattle.span_heap.specs.declared.run.Run.{Run}
use Rattle.span_heap.specs.Pick.{pick}
use Rattle.client.specs.Pieces.{Part}
use Rattle.client.specs.Calls.{TakesOut, TakesLast, LocksRun}
use Rattle.client.specs.Finding.{Finds, Serves, Carves, slack_of}
use Rattle.client.specs.GivingUp.{FindsGone, KeepsUntold}
use Rattle.client.specs.Granting.{GivesSide}
use Rattle.client.specs.TakenBack.{Return, TookAll, IsReturned, AreReturned, gone_returns, untold_returns, CameFrom}
use Rattle.client.proofs.GivingBack.{next_some, next_none}
use Rattle.client.proofs.GivenUp.{drop_front}
use Rattle.client.proofs.Rows.{Contains-at, Contains-cons}

-- each of these sides is among those
abbrev pub AreAmong : List Owned → List Owned → Type 0
AreAmong sides others = (side : Owned) → Contains sides side → Contains others side

-- what is still to come back makes up, with what came, all of these segments; of those that came the gone ones are among these sides
abbrev pub ReturnsOn : {G : Type 0} → (ℕ → ℕ → Option (List ℕ) → G → G → Type 0) → ℕ → List Lease → G → List Owned → List Lease → G → Type 0
ReturnsOn {G} took number start first sides rest now = (returns : List Return) (last : G) (gone : List Owned) → AreAmong sides gone → AreReturned gone rest returns → TookAll took number returns now last
    → (all : List Return) × AreReturned gone start all × TookAll took number all first last

pub returns_first : {G : Type 0} (took : ℕ → ℕ → Option (List ℕ) → G → G → Type 0) (number : ℕ) (start : List Lease) (first : G) (sides : List Owned) → ReturnsOn took number start first sides start first
returns_first took number start first sides = λ returns last gone among are all. (returns, are, all)

returned_among : (sides gone : List Owned) (side : Owned) (one : Return) → AreAmong sides gone → IsReturned sides side one → IsReturned gone side one
returned_among sides gone side (id, Some block) among back = back
returned_among sides gone side (id, None) among (is, lost, goes, there) = (is, lost, goes, among lost there)

pub returns_one : {G : Type 0} (took : ℕ → ℕ → Option (List ℕ) → G → G → Type 0) (number : ℕ) (start : List Lease) (first now next : G) (sides more : List Owned) (lease : Lease) (rest left : List Lease)
    → ReturnsOn took number start first sides rest now → AreAmong sides more → rest ≡ lease ∷ left → ((one : Return) × IsReturned more lease.side one × took number one.0 one.1 now next)
    → ReturnsOn took number start first more left next
returns_one took number start first now next sides more lease rest left on stay is back = λ returns last gone among are all.
    on (back.0 ∷ returns) last gone (λ side there. among side (stay side there))
    (subst (λ (ls : List Lease). AreReturned gone ls (back.0 ∷ returns)) (sym is) (returned_among more gone lease.side back.0 among back.1, are)) (next, back.2, all)

pub returns_last : {G : Type 0} (took : ℕ → ℕ → Option (List ℕ) → G → G → Type 0) (number : ℕ) (start : List Lease) (first : G) (sides : List Owned) (rest : List Lease) (now : G)
    → ReturnsOn took number start first sides rest now → rest ≡ [] → (all : List Return) × AreReturned sides start all × TookAll took number all first now
returns_last took number start first sides rest now on none = on [] now sides (λ side there. there) (subst (λ (ls : List Lease). AreReturned sides ls []) (sym none) tt) refl

-- a side that is given up leaves the gone ones among the gone ones
kept_among : (side one : Owned) (told : ℕ) (gone : List Owned) → Contains gone one → Contains (kept_side side told gone) one
kept_among side one told gone there =
    elim (Contains-append_cases (take told gone) (drop told gone) one (subst (λ (sides : List Owned). Contains sides one) (sym (take-append-drop told gone)) there)) [
      | inl front ↦ Contains-append_left (take told gone) (side ∷ drop told gone) one front
      | inr back ↦ Contains-append_right (take told gone) (side ∷ drop told gone) one (Contains-cons (drop told gone) side one back)
    ]

pub given_among : (whole : Bool) (side : Owned) (old new : Seen) → GivesSide whole side old new → AreAmong old.gone new.gone
given_among true side old new (gave, is) = λ one there. subst (λ (s : Seen). Contains s.gone one) (sym is) there
given_among false side old new (gone, goes, is) = λ one there. subst (λ (s : Seen). Contains s.gone one) (sym is) (kept_among gone one old.told old.gone there)

-- the side that is kept is among the gone ones
pub kept_here : (side : Owned) (told : ℕ) (gone : List Owned) → Contains (kept_side side told gone) side
kept_here side told gone = Contains-append_right (take told gone) (side ∷ drop told gone) side (Contains-at (side ∷ drop told gone) 0 side refl)

-- the last of a list, and those before it
reverse_cons : {X : Type 0} (y : X) (xs : List X) → reverse (y ∷ xs) ≡ reverse xs ++ y ∷ []
reverse_cons y xs = reverse-append (y ∷ []) xs

reverse_last : {X : Type 0} (xs : List X) (p : ℕ) (x : X) → slice_get xs p ≡ Some x → length xs ≡ suc p → reverse xs ≡ x ∷ reverse (remove xs p)
reverse_last [] p x at long = absurd (none-some x at)
reverse_last (y ∷ []) zero x at long = ap (λ z. z ∷ []) (same_Some y x at)
reverse_last (y ∷ z ∷ zs) zero x at long = absurd (omega (arith, long))
reverse_last (y ∷ xs) (suc p) x at long =
    reverse_cons y xs ∙ (ap (λ zs. zs ++ y ∷ []) (reverse_last xs p x at (omega (arith, long))) ∙ ap (λ zs. x ∷ zs) (sym (reverse_cons y (remove xs p))))

-- the segment that is taken out is the last one
pub last_first : (now mid next : Seen) (side : Owned) → (out : TakesLast side now mid) → next.leases ≡ mid.leases → reverse now.leases ≡ out.lease ∷ reverse next.leases
last_first now mid next side out same =
    let within = slice_get_within now.leases (length now.leases - 1) out.lease out.stood in
    rw (same, out.leaves.leases) (reverse_last now.leases (length now.leases - 1) out.lease out.stood (omega (arith, within)))

-- what is still to be told makes up, with what was told, all
abbrev pub TellsOn : {G : Type 0} → (ℕ → ℕ → Option (List ℕ) → G → G → Type 0) → Seen → G → Seen → G → Type 0
TellsOn {G} took start first seen now = (last : G) → TookAll took seen.number (untold_returns seen) now last → TookAll took start.number (untold_returns start) first last

pub tells_first : {G : Type 0} (took : ℕ → ℕ → Option (List ℕ) → G → G → Type 0) (start : Seen) (first : G) → TellsOn took start first start first
tells_first took start first = λ last all. all

drop_at : {X : Type 0} (xs : List X) (p : ℕ) (x : X) → slice_get xs p ≡ Some x → drop p xs ≡ x ∷ drop (suc p) xs
drop_at [] p x at = absurd (none-some x at)
drop_at (y ∷ xs) zero x at = ap (λ z. z ∷ xs) (same_Some y x at)
drop_at (y ∷ xs) (suc p) x at = drop_at xs p x at

drop_past : {X : Type 0} (xs : List X) (p : ℕ) → length xs ≤ p → drop p xs ≡ []
drop_past [] zero past = refl
drop_past [] (suc p) past = refl
drop_past (y ∷ xs) zero past = absurd (omega (arith, past))
drop_past (y ∷ xs) (suc p) past = drop_past xs p (omega (arith, past))

next_side : (gone : List Owned) (told id : ℕ) → next_of gone told ≡ Some id → (side : Owned) × (slice_get gone told ≡ Some side) × (side.id ≡ id)
next_side gone told id e =
    elim (slice_get_cases gone told).1 [
      | inl (side, within, at, is) ↦ (side, at, same_Some side.id id (sym (ap (option_map (λ (s : Owned). s.id)) at) ∙ e))
      | inr (past, none) ↦ absurd (none-some id (sym (ap (option_map (λ (s : Owned). s.id)) none) ∙ e))
    ]

-- one gone side more was told
pub tells_one : {G : Type 0} (took : ℕ → ℕ → Option (List ℕ) → G → G → Type 0) (start : Seen) (first : G) (now next : Seen) (old new : G) (id : ℕ) → TellsOn took start first now old
    → next_untold now ≡ Some id → next ≡ record now { told = after_next now.gone now.told } → took now.number id None old new → TellsOn took start first next new
tells_one took start first now next old new id on some is told =
    let found = next_side now.gone now.told id some in
    let less = next_some now.gone now.told id some in
    let more : after_next now.gone now.told ≡ suc now.told = rw (lt-ltb now.told (length now.gone) less) (omega arith) in
    let same : next ≡ record now { told = suc now.told } = is ∙ ap (λ (n : ℕ). record now { told = n }) more in
    let untold : untold_returns now ≡ (id, None) ∷ gone_returns (drop (suc now.told) now.gone) =
    ap gone_returns (drop_at now.gone now.told found.0 found.1) ∙ ap (λ (n : ℕ). (n, None) ∷ gone_returns (drop (suc now.told) now.gone)) found.2 in
    λ last all. on last (subst (λ returns. TookAll took now.number returns old last) (sym untold) (new, told, subst (λ (s : Seen). TookAll took s.number (untold_returns s) new last) same all))

-- all were told
pub tells_last : {G : Type 0} (took : ℕ → ℕ → Option (List ℕ) → G → G → Type 0) (start : Seen) (first : G) (now : Seen) (old : G) → TellsOn took start first now old → next_untold now ≡ None
    → TookAll took start.number (untold_returns start) first old
tells_last took start first now old on none =
    let untold : untold_returns now ≡ [] = ap gone_returns (drop_past now.gone now.told (next_none now.gone now.told none)) in
    on old (subst (λ returns. TookAll took now.number returns old old) (sym untold) refl)

-- what came back of a side came back of its segment, under the client's number
pub of_lease : {G : Type 0} (took : ℕ → ℕ → Option (List ℕ) → G → G → Type 0) (gone : List Owned) (side : Owned) (lease : Lease) {number start : ℕ} {old new : G} → side ≡ lease.side → number ≡ start
    → ((one : Return) × IsReturned gone side one × took number one.0 one.1 old new) → (one : Return) × IsReturned gone lease.side one × took start one.0 one.1 old new
of_lease took gone side lease {number} {start} {old} {new} is same back =
    (back.0, subst (λ (s : Owned). IsReturned gone s back.0) is back.1, subst (λ (n : ℕ). took n back.0.0 back.0.1 old new) same back.2)

-- a side that is taken out leaves the client its number
pub number_out : (now mid : Seen) (place : ℕ) (side : Owned) → TakesOut place side now mid → mid.number ≡ now.number
number_out now mid place side out = out.leaves.name.number

-- one that is given up leaves the other segments
pub given_leases : (whole : Bool) (side : Owned) (old new : Seen) → GivesSide whole side old new → new.leases ≡ old.leases
given_leases true side old new (gave, is) = ap (λ (s : Seen). s.leases) is
given_leases false side old new (gone, goes, is) = ap (λ (s : Seen). s.leases) is

-- what a search leaves of a client: its number, and how many gone sides are told
pub record KeepsTold (old new : Seen) : Type 0 where
  pub number : new.number ≡ old.number
  pub told : new.told ≡ old.told

told_on : (one two three : Seen) → KeepsTold one two → KeepsTold two three → KeepsTold one three
told_on one two three first second = record { number = second.number ∙ first.number; told = second.told ∙ first.told }

told_carved : (run : Run) (pages : ℕ) (old new : Seen) → Carves run pages old new → KeepsTold old new
told_carved run pages old new carves = record { number = ap (λ (s : Seen). s.number) carves.same; told = ap (λ (s : Seen). s.told) carves.same }

told_locked : (run : Run) (answer : Lock) (old new : Seen) → LocksRun run answer old new → KeepsTold old new
told_locked run Held old new locks = record { number = locks.after.name.number; told = locks.after.gone.told }
told_locked run Gone old new locks = record { number = locks.after.leaves.name.number; told = locks.after.told }

told_serves : (picked : Option Run) (pages : ℕ) (found : Option Part) (old new : Seen) → Serves picked pages found old new → KeepsTold old new
told_serves None pages found old new (none, is) = record { number = ap (λ (s : Seen). s.number) is; told = ap (λ (s : Seen). s.told) is }
told_serves (Some run) pages found old new (is, between, carves, locks) = told_on old between new (told_carved run pages old between carves) (told_locked _ Held between new locks)

pub told_found : (pages : ℕ) (lost : List ℕ) (found : Option Part) (old new : Seen) → Finds pages lost found old new → KeepsTold old new
told_found pages [] found old new finds = told_serves (pick old.heap.free pages (slack_of old pages)) pages found old new finds
told_found pages (id ∷ lost) found old new (run, carved, between, picked, number, carves, locks, finds) =
    told_on old between new (told_on old carved between (told_carved run pages old carved carves) (told_locked _ Gone carved between locks)) (told_found pages lost found between new finds)

-- after a search the untold ones are told, and then a segment comes
pub asked : {G : Type 0} (granted : ℕ → ℕ → Owned → G → G → Type 0) (took : ℕ → ℕ → Option (List ℕ) → G → G → Type 0) (now pages : ℕ) (part : Part) (old new missed released : Seen) (first between last : G)
    → KeepsTold old missed → released.number ≡ missed.number → TookAll took missed.number (gone_returns (drop missed.told released.gone)) first between
    → CameFrom granted released.number now pages part released new between last
    → TookAll took old.number (gone_returns (drop old.told released.gone)) first between × CameFrom granted old.number now pages part released new between last
asked granted took now pages part old new missed released first between last kept same told came = (
  subst (λ (n : ℕ). TookAll took old.number (gone_returns (drop n released.gone)) first between) kept.told
      (subst (λ (n : ℕ). TookAll took n (gone_returns (drop missed.told released.gone)) first between) kept.number told),
  subst (λ (n : ℕ). CameFrom granted n now pages part released new between last) (same ∙ kept.number) came,
)

-- the untold ones stay untold where segments are given up
pub untold_stay : (left : List Lease) (old new : Seen) → old.told ≤ length old.gone → FindsGone left old new.gone → KeepsUntold old new → untold_returns new ≡ untold_returns old
untold_stay left old new within finds keeps =
    let front = take old.told old.gone in
    let back = drop old.told old.gone in
    let whole : new.gone ≡ (front ++ finds.found) ++ back = finds.sides in
    let long : new.told ≡ length (front ++ finds.found) =
    omega (arith, keeps.told, ap length whole, length-append (front ++ finds.found) back, length-append front back, ap length (take-append-drop old.told old.gone), length-take-le old.told old.gone within) in
    ap gone_returns (rw (whole, long) (drop_front (front ++ finds.found) back))

-- a side that is taken out and given up leaves the gone ones among the gone ones
pub among_out : (whole : Bool) (side : Owned) (now mid next : Seen) (place : ℕ) → TakesOut place side now mid → GivesSide whole side mid next → AreAmong now.gone next.gone
among_out whole side now mid next place out gives = λ one there. given_among whole side mid next gives one (subst (λ (sides : List Owned). Contains sides one) (sym out.gone) there)
