-- A segment is all free where no used span lies in it.
use Rattle.std.proofs.Common.{◌≡◌, ℕ, zero, suc, ◌+◌, ◌<◌, ◌≤◌, ◌==◌, nat_le, nat_lt, zero-add, Bool, true, false, cond, ◌&&◌, ◌||◌, List, [], ◌∷◌, ◌++◌, length, get_or, take, map, refl, sym, ap, subst, ◌∙◌, inl, inr, arith}
use Rattle.std.specs.List.{filter, list_any, list_all, count_by, Contains, range_with_len}
use Rattle.std.proofs.lemmas.Bool.{cases_Bool, eq-eqb, ne_eqb, or_parts, false≢true}
use Rattle.std.proofs.lemmas.Bool.Decides.{nat_tests}
use Rattle.std.proofs.lemmas.List.{length-map, get_or-map, map-append, append-nil}
use Rattle.std.proofs.lemmas.List.Elements.{Contains-get_or, filter_more}
use Rattle.std.proofs.lemmas.List.Folds.{list_any_at, list_all_at}
use Rattle.std.proofs.lemmas.List.FromFn.{get_or-range_with_len, length-range_with_len}
use Rattle.std.proofs.lemmas.List.Sums.{get_or-le-sum_by, sum_by-cons}
use Rattle.span_heap.specs.declared.run.Run.{Run}
use Rattle.span_heap.specs.Run.{has_page}
use Rattle.span_heap.specs.Segment.{Segment}
use Rattle.span_heap.specs.Heap.{Contents, IsPartition, LiesWithin, has_id, holds_page}
use Rattle.span_heap.specs.Changes.{NoneIn}
use Rattle.script_heaps.specs.Holding.{is_all_free}
use Rattle.script_heaps.proofs.KeptThrough.{covers, has_first}

-- ---- ranges of pages

each_page : (f : ℕ → Bool) (first n : ℕ) → ((page : ℕ) → first ≤ page → page < first + n → f page ≡ true) → list_all f (range_with_len first n) ≡ true
each_page f first zero each = refl
each_page f first (suc n) each =
    ap (λ b. b && list_all f (range_with_len (first + 1) n)) (each first (omega arith) (omega arith))
    ∙ each_page f (first + 1) n (λ page low high. each page (omega (arith, low)) (omega (arith, high)))

one_page : (f : ℕ → Bool) (n page : ℕ) → list_all f (range_with_len 0 n) ≡ true → page < n → f page ≡ true
one_page f n page all within =
    elim (cases_Bool (f page)) [
      | inl so ↦ so
      | inr not_so ↦
          let long = length-range_with_len 0 n in
          absurd (false≢true (sym (list_all_at f (range_with_len 0 n) page 0 (omega (arith, long, within)) (ap f (get_or-range_with_len 0 n page 0 within ∙ zero-add page) ∙ not_so)) ∙ all))
    ]

-- ---- counts

none_counted : (id page : ℕ) (runs : List Run) → NoneIn id runs → count_by (has_page id page) runs ≡ 0
none_counted id page [] none = refl
none_counted id page (r ∷ runs) none =
    let apart : (r.segment == id) ≡ false = ne_eqb r.segment id (none 0 r (omega arith)) in
    let out : cond {A = ℕ} (has_page id page r) 1 0 ≡ 0 = ap (λ b. cond {A = ℕ} (b && (nat_le r.first page && nat_lt page (r.first + r.pages))) 1 0) apart in
    omega (arith, out, sum_by-cons (λ x. cond {A = ℕ} (has_page id page x) 1 0) r runs, none_counted id page runs (λ k d within. none (suc k) d (omega (arith, within))))

uncounted : {X : Type 0} (p : X → Bool) (xs : List X) → list_any p xs ≡ false → count_by p xs ≡ 0
uncounted p [] none = refl
uncounted p (x ∷ xs) none =
    let parts = or_parts (p x) (list_any p xs) none in
    let out : cond {A = ℕ} (p x) 1 0 ≡ 0 = ap (λ b. cond {A = ℕ} b 1 0) parts.0 in
    omega (arith, out, sum_by-cons (λ y. cond {A = ℕ} (p y) 1 0) x xs, uncounted p xs parts.1)

counted : {X : Type 0} (p : X → Bool) (xs : List X) → list_any p xs ≡ true → 1 ≤ count_by p xs
counted p [] some = absurd (false≢true some)
counted p (x ∷ xs) some =
    elim (cases_Bool (p x)) [
      | inl so ↦
          let one : cond {A = ℕ} (p x) 1 0 ≡ 1 = ap (λ b. cond {A = ℕ} b 1 0) so in
          omega (arith, one, sum_by-cons (λ y. cond {A = ℕ} (p y) 1 0) x xs)
      | inr not_so ↦
          let rest : list_any p xs ≡ true = sym (ap (λ b. b || list_any p xs) not_so) ∙ some in
          omega (arith, sum_by-cons (λ y. cond {A = ℕ} (p y) 1 0) x xs, counted p xs rest)
    ]

-- two segments of one number, of which there is at most one, are one
same_segment : (segments : List Segment) (one other : Segment) → count_by (has_id one.id) segments ≤ 1 → Contains segments one → Contains segments other → other.id ≡ one.id → one ≡ other
same_segment [] one other few here there same = absurd (omega (arith, here.1))
same_segment (s ∷ segments) one other few (zero, within, is) (zero, within', is') same = sym is ∙ is'
same_segment (s ∷ segments) one other few (zero, within, is) (suc k, within', is') same =
    let f : Segment → ℕ = λ x. cond {A = ℕ} (has_id one.id x) 1 0 in
    let first : f s ≡ 1 = ap (λ b. cond {A = ℕ} b 1 0) (eq-eqb s.id one.id (ap (λ (x : Segment). x.id) is)) in
    let more : f (get_or segments k other) ≡ 1 = ap (λ b. cond {A = ℕ} b 1 0) (eq-eqb (get_or segments k other).id one.id (ap (λ (x : Segment). x.id) is' ∙ same)) in
    absurd (omega (arith, few, first, more, sum_by-cons f s segments, get_or-le-sum_by f segments k other (omega (arith, within'))))
same_segment (s ∷ segments) one other few (suc k, within, is) (zero, within', is') same =
    let f : Segment → ℕ = λ x. cond {A = ℕ} (has_id one.id x) 1 0 in
    let first : f s ≡ 1 = ap (λ b. cond {A = ℕ} b 1 0) (eq-eqb s.id one.id (ap (λ (x : Segment). x.id) is' ∙ same)) in
    let more : f (get_or segments k one) ≡ 1 = ap (λ b. cond {A = ℕ} b 1 0) (eq-eqb (get_or segments k one).id one.id (ap (λ (x : Segment). x.id) is)) in
    absurd (omega (arith, few, first, more, sum_by-cons f s segments, get_or-le-sum_by f segments k one (omega (arith, within))))
same_segment (s ∷ segments) one other few (suc k, within, is) (suc m, within', is') same =
    same_segment segments one other (omega (arith, few, sum_by-cons (λ x. cond {A = ℕ} (has_id one.id x) 1 0) s segments)) (k, omega (arith, within), is) (m, omega (arith, within'), is') same

-- ---- a segment

one_of : (b : Bool) (m n : ℕ) → m + n ≡ cond {A = ℕ} b 1 0 → b ≡ true → m ≡ 0 → 1 ≤ n
one_of b m n sum so none = let one : cond {A = ℕ} b 1 0 ≡ 1 = ap (λ t. cond {A = ℕ} t 1 0) so in omega (arith, sum, one, none)

free_where_unused : (heap : Contents) (segment : Segment) → IsPartition heap → Contains heap.segments segment → NoneIn segment.id heap.used → is_all_free heap.free segment ≡ true
free_where_unused heap segment partition there none =
    each_page (λ page. list_any (has_page segment.id page) heap.free) 0 segment.pages (λ page low high.
    let here : holds_page segment.id page (get_or heap.segments there.0 segment) ≡ true = ap (holds_page segment.id page) there.2 ∙ held segment page (omega (arith, high)) in
    let holds = list_any_at (holds_page segment.id page) heap.segments there.0 segment there.1 here in
    let some = one_of (list_any (holds_page segment.id page) heap.segments) _ (count_by (has_page segment.id page) heap.free) (partition.once segment.id page) holds (none_counted segment.id page heap.used none) in
    elim (cases_Bool (list_any (has_page segment.id page) heap.free)) [
      | inl so ↦ so
      | inr not_so ↦ absurd (omega (arith, some, uncounted (has_page segment.id page) heap.free not_so))
    ])
  where
    held : (s : Segment) (page : ℕ) → page < s.pages → holds_page s.id page s ≡ true
    held s page high = rw (eq-eqb s.id s.id refl) (grind (arith, nat_tests))

at_most_one : (b : Bool) (m n : ℕ) → m + n ≡ cond {A = ℕ} b 1 0 → m + n ≤ 1
at_most_one true m n sum = omega (arith, sum)
at_most_one false m n sum = omega (arith, sum)

unused_where_free : (heap : Contents) (segment : Segment) → IsPartition heap → Contains heap.segments segment → is_all_free heap.free segment ≡ true → NoneIn segment.id heap.used
unused_where_free heap segment partition there all = λ k d within same.
    let run = get_or heap.used k d in
    let lies : LiesWithin heap.segments run = partition.used_within k d within in
    let (m, holder, inside, is, parts) = lies.1 in
    let one : segment ≡ holder = same_segment heap.segments segment holder (partition.distinct segment.id) there (m, inside, is) (parts.0 ∙ same) in
    let fits : run.first < segment.pages = let size = ap (λ (s : Segment). s.pages) one in omega (arith, parts.1, lies.0, size) in
    let has : has_page segment.id run.first run ≡ true = ap (λ n. has_page n run.first run) (sym same) ∙ has_first run lies.0 in
    let used = covers heap.used run segment.id run.first (Contains-get_or heap.used k d within) has in
    let free = counted (has_page segment.id run.first) heap.free (one_page (λ page. list_any (has_page segment.id page) heap.free) segment.pages run.first all fits) in
    absurd (omega (arith, used, free, at_most_one (list_any (holds_page segment.id run.first) heap.segments) _ _ (partition.once segment.id run.first)))

-- whether the segment at a place is all free
pub told_free : (heap : Contents) (place : ℕ) (d : Segment) (told : Bool) → IsPartition heap → place < length heap.segments
    → (told ≡ true → NoneIn (get_or heap.segments place d).id heap.used) → (NoneIn (get_or heap.segments place d).id heap.used → told ≡ true) → is_all_free heap.free (get_or heap.segments place d) ≡ told
told_free heap place d true partition within so back = free_where_unused heap (get_or heap.segments place d) partition (Contains-get_or heap.segments place d within) (so refl)
told_free heap place d false partition within so back =
    elim (cases_Bool (is_all_free heap.free (get_or heap.segments place d))) [
      | inl all ↦ absurd (false≢true (back (unused_where_free heap (get_or heap.segments place d) partition (Contains-get_or heap.segments place d within) all)))
      | inr not_so ↦ not_so
    ]

-- one segment more was asked
pub free_more : (heap : Contents) (ids free new : List ℕ) (i : ℕ) (told : Bool) → IsPartition heap → ids ≡ map (λ (s : Segment). s.id) heap.segments → i < length ids
    → (told ≡ true → NoneIn (get_or ids i 0) heap.used) → (NoneIn (get_or ids i 0) heap.used → told ≡ true)
    → free ≡ map (λ (s : Segment). s.id) (filter (is_all_free heap.free) (take i heap.segments)) → new ≡ free ++ cond told (get_or ids i 0 ∷ []) []
    → new ≡ map (λ (s : Segment). s.id) (filter (is_all_free heap.free) (take (i + 1) heap.segments))
free_more heap ids free new i told partition numbers within so back so_far next =
    let d : Segment = record { id = 0; pages = 0 } in
    let inside : i < length heap.segments = omega (arith, within, ap length numbers, length-map heap.segments (λ (s : Segment). s.id)) in
    let at : get_or ids i 0 ≡ (get_or heap.segments i d).id = ap (λ (ns : List ℕ). get_or ns i 0) numbers ∙ get_or-map (λ (s : Segment). s.id) heap.segments i d 0 inside in
    let is = told_free heap i d told partition inside (λ t. subst (λ n. NoneIn n heap.used) at (so t)) (λ none. back (subst (λ n. NoneIn n heap.used) (sym at) none)) in
    next
    ∙ (ap (λ (xs : List ℕ). xs ++ cond told (get_or ids i 0 ∷ []) []) so_far
    ∙ (ap (λ (n : ℕ). map (λ (s : Segment). s.id) (filter (is_all_free heap.free) (take i heap.segments)) ++ cond told (n ∷ []) []) at
    ∙ (one_more told (get_or heap.segments i d) (filter (is_all_free heap.free) (take i heap.segments))
    ∙ ap (map (λ (s : Segment). s.id)) (ap (λ (b : Bool). filter (is_all_free heap.free) (take i heap.segments) ++ cond b (get_or heap.segments i d ∷ []) []) (sym is)
    ∙ sym (filter_more (is_all_free heap.free) heap.segments i d inside)))))
  where
    one_more : (b : Bool) (s : Segment) (ss : List Segment) → map (λ (x : Segment). x.id) ss ++ cond b (s.id ∷ []) [] ≡ map (λ (x : Segment). x.id) (ss ++ cond b (s ∷ []) [])
    one_more true s ss = sym (map-append (λ (x : Segment). x.id) ss (s ∷ []))
    one_more false s ss = append-nil (map (λ (x : Segment). x.id) ss) ∙ ap (map (λ (x : Segment). x.id)) (sym (append-nil ss))
