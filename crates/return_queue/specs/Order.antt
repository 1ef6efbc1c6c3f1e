-- The one order in which all notes were given, and what stands in it.
use Rattle.std.specs.Prelude.{◌≡◌, ℕ, ◌==◌, List, [], ◌∷◌, ◌++◌, length, map, cond}
use Rattle.return_queue.specs.declared.note.Note.{Note}

-- the list begins with this one
abbrev pub Starts : {A : Type 0} → List A → List A → Type 0
Starts {A} list first = (rest : List A) × (list ≡ first ++ rest)

-- each note in the order stands with the number of the pass that gave it; these are the notes of one pass
abbrev pub of : ℕ → List (ℕ × Note) → List Note
of p [] = []
of p (g ∷ gs) = cond (p == g.0) (g.1 ∷ of p gs) (of p gs)

abbrev pub notes : List (ℕ × Note) → List Note
notes order = map (λ (g : ℕ × Note). g.1) order

-- at a step these notes stood in the queue. The order then began with what the pass had seen, and what the pass gave is what it has of it
abbrev pub Stood : List Note → List Note → List (ℕ × Note) → Type 0
Stood items own seen =
    (order : List (ℕ × Note)) × (me : ℕ) × (gone : List Note)
    × (notes order ≡ gone ++ items) × Starts order seen × (of me seen ≡ own) × (of me order ≡ own)

-- a note was given: it is the last that the pass has seen, and the last of its own
abbrev pub Gives : List Note → List (ℕ × Note) → Note → List Note → List (ℕ × Note) → Type 0
Gives own seen note own' seen' =
    (own' ≡ own ++ note ∷ [])
    × ((me : ℕ) × (between : List (ℕ × Note)) × (seen' ≡ (seen ++ between) ++ (me, note) ∷ []) × (of me seen' ≡ own'))

-- of the notes given, in their order, `taken` were taken and `rest` stand in the queue; each pass that was taken in had seen a beginning of this order, and what it gave is what it has of it
abbrev pub InOrder : List Note → List Note → (List Note → List (ℕ × Note) → Type 0) → Type 0
InOrder taken rest knows =
    (order : List (ℕ × Note)) × (notes order ≡ taken ++ rest)
    × ((own : List Note) (seen : List (ℕ × Note)) → knows own seen → Starts order seen × ((p : ℕ) × (of p seen ≡ own) × (of p order ≡ own)))

-- all that the passes taken in had seen given was taken, in this order
abbrev pub AllTaken : List Note → (List Note → List (ℕ × Note) → Type 0) → Type 0
AllTaken taken knows = (own : List Note) (seen : List (ℕ × Note)) → knows own seen → Starts taken (notes seen)

-- at a step as many notes stood in the queue as it holds
abbrev pub IsFull : ℕ → List Note → List (ℕ × Note) → Type 0
IsFull most own seen = (items : List Note) × (length items ≡ most) × Stood items own seen

-- what was known of the passes taken in is known still
abbrev pub Keeps : (List Note → List (ℕ × Note) → Type 0) → (List Note → List (ℕ × Note) → Type 0) → Type 0
Keeps old new = (own : List Note) (seen : List (ℕ × Note)) → old own seen → new own seen
