-- What a take's answer tells.
use Rattle.std.proofs.Common.{◌≡◌, ℕ, ◌+◌, ◌≤◌, List, [], ◌∷◌, ◌++◌, Option, Some, None, length, take, drop, sym, ap, ◌∙◌, subst, arith}
use Rattle.std.specs.Prelude.{MatchOption, IfSome, IfNone}
use Rattle.std.proofs.lemmas.List.{append-nil, length-append, length-map, map-append, take-append-le, take-append-drop}
use Rattle.std.proofs.Math.Seq.{take-append_seam}
use Rattle.crossbeam_queue.specs.Fifo.{Held}
use Rattle.return_queue.proofs.Lists.{at_longer, at_last}
use Rattle.return_queue.specs.declared.note.Note.{Note}
use Rattle.return_queue.specs.declared.rule.Past.{Past}
use Rattle.return_queue.specs.declared.rule.View.{View}
use Rattle.return_queue.specs.Order.{Starts, notes, InOrder, AllTaken}
use Rattle.return_queue.specs.Rule.{Tells, Took, KnowsIn}

-- of two beginnings of one list, the longer begins with the shorter
shorter : {A : Type 0} (a b c d : List A) → a ++ b ≡ c ++ d → length a ≤ length c → Starts c a
shorter a b c d e l = let n = length a in let t : take n c ≡ a = sym (take-append-le n c d l) ∙ ap (take n) (sym e) ∙ take-append_seam a b in
    (drop n c, sym (take-append-drop n c) ∙ ap (λ x. x ++ drop n c) t)

notes_of : (order seen : List (ℕ × Note)) → (h : Starts order seen) → notes order ≡ notes seen ++ notes h.0
notes_of order seen h = ap notes h.1 ∙ map-append (λ (g : ℕ × Note). g.1) seen h.0

pub in_order : (got : List Note) (past : List Past) (until : ℕ) (items : List Note) → Tells got past until items → InOrder got items (KnowsIn past)
in_order got past until items t = (t.0, t.2, λ own seen k. let b = t.3 k.0 (record { own = own; seen = seen }) k.1 in (b.seen, (t.1 k.0, b.has, b.own)))

all_there : (got : List Note) (past : List Past) (until : ℕ) (items : List Note) → Tells got past until items → ((seen : List (ℕ × Note)) → length seen ≤ until → Starts (got ++ items) (notes seen) → length seen ≤ length got) → AllTaken got (KnowsIn past)
all_there got past until items t enough own seen k = let b = t.3 k.0 (record { own = own; seen = seen }) k.1 in
    let e : notes seen ++ notes b.seen.0 ≡ got ++ items = sym (notes_of t.0 seen b.seen) ∙ t.2 in
    shorter (notes seen) (notes b.seen.0) got items e (subst (λ (n : ℕ). n ≤ length got) (sym (length-map seen (λ (g : ℕ × Note). g.1))) (enough seen b.bound (notes b.seen.0, sym e)))

pub all_at_none : (got : List Note) (past : List Past) (until : ℕ) → Tells got past until [] → AllTaken got (KnowsIn past)
all_at_none got past until t = all_there got past until [] t (λ seen _ h. let a : length (got ++ []) ≡ length (notes seen) + length h.0 = ap length h.1 ∙ length-append (notes seen) h.0 in
    let b : length (got ++ []) ≡ length got = ap length (append-nil got) in let c : length (notes seen) ≡ length seen = length-map seen (λ (g : ℕ × Note). g.1) in omega arith)

pub all_at_some : (got : List Note) (past : List Past) (until : ℕ) (items : List Note) → Tells got past until items → until ≤ length got → AllTaken got (KnowsIn past)
all_at_some got past until items t far = all_there got past until items t (λ seen l _. omega arith)

-- the answer of the queue, and then what each clause says of it
abbrev pub Answer : Option Note → View → View → Type 0
Answer result old new = MatchOption result ((new ≡ old) × Held 0 (λ items. Tells old.got old.past old.until items)) (λ x. Took old x new)

no_items : (F : List Note → Type 0) (items : List Note) → length items ≡ 0 → F items → F []
no_items F [] e f = f
no_items F (x ∷ xs) e f = absurd (let n : ℕ = length xs in omega arith)

none_told : (old new : View) → Answer None old new → Tells new.got new.past new.until []
none_told old new a = subst (λ (v : View). Tells v.got v.past v.until []) (sym a.0) (no_items (λ items. Tells old.got old.past old.until items) a.1.0 a.1.1 a.1.2)

pub order : (result : Option Note) (old new : View) → Answer result old new → (rest : List Note) × InOrder new.got rest (KnowsIn new.past)
order None old new a = ([], in_order new.got new.past new.until [] (none_told old new a))
order (Some x) old new a = (a.1.0, in_order new.got new.past new.until a.1.0 a.1.1)

pub empty : (result : Option Note) (old new : View) → Answer result old new → IfNone result (InOrder new.got [] (KnowsIn new.past))
empty None old new a = in_order new.got new.past new.until [] (none_told old new a)
empty (Some x) old new a = tt

pub at_none : (result : Option Note) (old new : View) → Answer result old new → IfNone result (AllTaken new.got (KnowsIn new.past))
at_none None old new a = all_at_none new.got new.past new.until (none_told old new a)
at_none (Some x) old new a = tt

pub at_some : (result : Option Note) (old new : View) → Answer result old new → IfSome result (λ _. new.until ≤ length new.got → AllTaken new.got (KnowsIn new.past))
at_some None old new a = tt
at_some (Some x) old new a = all_at_some new.got new.past new.until a.1.0 a.1.1

-- what was known before and what the last pass told
pub known_before : (past : List Past) (last : Past) (own : List Note) (seen : List (ℕ × Note)) → KnowsIn past own seen → KnowsIn (past ++ last ∷ []) own seen
known_before past last own seen k = (k.0, at_longer past last k.0 (record { own = own; seen = seen }) k.1)

pub known_last : (past : List Past) (own : List Note) (seen : List (ℕ × Note)) → KnowsIn (past ++ (record { own = own; seen = seen }) ∷ []) own seen
known_last past own seen = (length past, at_last past (record { own = own; seen = seen }))
