-- The rule between any two steps, and what each step tells.
use Rattle.std.specs.Prelude.{◌≡◌, ◌⊎◌, ℕ, ◌+◌, ◌<◌, ◌≤◌, true, false, List, [], ◌∷◌, ◌++◌, length}
use mathlib.Core.Option.{some}
use lib.ListN.{get_elem?}
use Rattle.return_queue.specs.declared.note.Note.{Note}
use Rattle.return_queue.specs.declared.rule.Past.{Past}
use Rattle.return_queue.specs.declared.rule.View.{View}
use Rattle.return_queue.specs.Order.{Starts, of, notes, Gives}

abbrev pub new_pass : ℕ → View
new_pass cap = record { gives = true; takes = false; cap = cap; own = []; seen = []; got = []; past = []; until = 0 }

abbrev pub new_taker : ℕ → View
new_taker cap = record { gives = false; takes = true; cap = cap; own = []; seen = []; got = []; past = []; until = 0 }

-- before the queue is opened
abbrev pub blank : View
blank = record { gives = true; takes = true; cap = 0; own = []; seen = []; got = []; past = []; until = 0 }

-- a pass that was taken in
abbrev pub spent : View
spent = record { gives = false; takes = false; cap = 0; own = []; seen = []; got = []; past = []; until = 0 }

-- a second pass, which has seen the same
abbrev pub twin : View → View
twin v = record v { own = [] }

-- the taker's view with the lists of a pass
abbrev pub taken_in : View → View → View
taken_in v w = record v { past = v.past ++ (record { own = w.own; seen = w.seen }) ∷ []; until = length v.got + v.cap }

-- the pass gave what it has in the order, which begins with what it has seen
pub record IsGiver (order : List (ℕ × Note)) (n p : ℕ) (v : View) : Type 0 where
  pub takes : v.takes ≡ false
  pub own : of p order ≡ v.own
  pub has : of p v.seen ≡ v.own
  pub seen : Starts order v.seen
  pub cap : v.cap ≡ n

pub record IsReader (taken : List Note) (passes : List Past) (n bound reader p : ℕ) (v : View) : Type 0 where
  pub gives : v.gives ≡ false
  pub one : p ≡ reader
  pub got : v.got ≡ taken
  pub past : v.past ≡ passes
  pub cap : v.cap ≡ n
  pub until : v.until ≡ bound

-- what the pass `p` that was taken in gave and had seen stands in the order, and what it had seen among the first `until`
pub record IsBehind (order : List (ℕ × Note)) (until p : ℕ) (e : Past) : Type 0 where
  pub own : of p order ≡ e.own
  pub has : of p e.seen ≡ e.own
  pub seen : Starts order e.seen
  pub bound : length e.seen ≤ until

-- the pass `p` gives no more
abbrev pub IsOver : List View → ℕ → Type 0
IsOver views p = (p < length views) × ((v : View) → get_elem? views p ≡ some v → v.gives ≡ false)

abbrev pub Apart : (ℕ → ℕ) → ℕ → Type 0
Apart seat n = (i j : ℕ) → i < n → j < n → seat i ≡ seat j → i ≡ j

-- there is one order of all notes given: those taken, then those in the queue. Each pass gave what it has in it, and has seen a beginning of it
pub record IsRuled (items : List Note) (views : List View) (order : List (ℕ × Note)) (got : List Note) (past : List Past) (cap until reader : ℕ) (seat : ℕ → ℕ) : Type 0 where
  pub stands : notes order ≡ got ++ items
  pub room : length items ≤ cap
  pub later : (p : ℕ) → length views ≤ p → of p order ≡ []
  pub pass : (p : ℕ) (v : View) → get_elem? views p ≡ some v → v.gives ≡ true → IsGiver order cap p v
  pub taker : (p : ℕ) (v : View) → get_elem? views p ≡ some v → v.takes ≡ true → IsReader got past cap until reader p v
  pub behind : (i : ℕ) (e : Past) → get_elem? past i ≡ some e → IsBehind order until (seat i) e
  pub over : (i : ℕ) → i < length past → IsOver views (seat i)
  pub apart : Apart seat (length past)

abbrev pub Ruled : List Note → List View → Type 0
Ruled items views =
    (order : List (ℕ × Note)) × (got : List Note) × (past : List Past) × (cap : ℕ) × (until : ℕ) × (reader : ℕ) × (seat : ℕ → ℕ)
    × IsRuled items views order got past cap until reader seat

abbrev pub Holds : List Note → List View → Type 0
Holds items views = ((items ≡ []) × (views ≡ blank ∷ [])) ⊎ Ruled items views

-- what a step tells the taker: `got` and then `items` are the notes of one order, and each pass that it took in stands in it as it was, each at a place of its own
abbrev pub Tells : List Note → List Past → ℕ → List Note → Type 0
Tells got past until items =
    (order : List (ℕ × Note)) × (seat : ℕ → ℕ)
    × (notes order ≡ got ++ items) × ((i : ℕ) (e : Past) → get_elem? past i ≡ some e → IsBehind order until (seat i) e) × Apart seat (length past)

abbrev pub Gave : View → Note → View → Type 0
Gave v x w = Gives v.own v.seen x w.own w.seen × (w.gives ≡ v.gives) × (w.takes ≡ v.takes) × (w.cap ≡ v.cap)

abbrev pub Took : View → Note → View → Type 0
Took v x w = (w ≡ record v { got = v.got ++ x ∷ [] }) × ((rest : List Note) × Tells w.got w.past w.until rest)

-- the taker took in a pass that had given `own` and had seen `seen`
abbrev pub KnowsIn : List Past → List Note → List (ℕ × Note) → Type 0
KnowsIn past own seen = (i : ℕ) × (get_elem? past i ≡ some (record { own = own; seen = seen }))
