-- What the nodes are seen as.
use Rattle.std.proofs.Common.{◌≡◌, ◌≢◌, ℕ, zero, suc, ◌+◌, ◌-◌, ◌<◌, ◌≤◌, cond, eqb, List, [], ◌∷◌, ◌++◌, length, get_or, map, None, refl, sym, ◌∙◌, ap, arith, inl, inr}
use Rattle.std.specs.List.{Contains, range_with_len, last_or}
use Rattle.std.proofs.lemmas.Bool.{cases_eq, cases_lt, eq-eqb, ne_eqb}
use Rattle.std.proofs.lemmas.List.{get_or_past, get_or_read, length-set}
use Rattle.std.proofs.lemmas.List.FromFn.{get_or-map-range_with_len, length-map-range_with_len}
use Rattle.std.proofs.lemmas.List.Elements.{Contains-append_right}
use Rattle.free_lists.specs.declared.node.Node.{Node}
use Rattle.free_lists.specs.Lists.{list_of, IsListed, without, before_in}
use Rattle.free_lists.specs.Links.{alone, next_of, prev_of, class_at, list_at, lists_below, classes, place_of, linked, unlinked, IsSoundLists}
use Rattle.free_lists.proofs.Leads.{Leads-class, Leads-before, Leads-cut, Leads-last, place_of-end}
use Rattle.free_lists.proofs.Nodes.{next_within, prev_within}
use Rattle.free_lists.proofs.Linking.{IsLinked, IsLinked-set, Linked-list, Linked-other}
use Rattle.free_lists.proofs.Unlinking.{IsUnlinked, IsUnlinked-set, Unlinked-list}

pub list_below : (nodes : List Node) (n end : ℕ) → end < n → get_or (lists_below nodes n) end [] ≡ list_at nodes end
unfolding lists_below
list_below nodes n end low = get_or-map-range_with_len (list_at nodes) 0 n end end [] low (omega arith)

pub list_past : (nodes : List Node) (n end : ℕ) → n ≤ end → get_or (lists_below nodes n) end [] ≡ []
unfolding lists_below
list_past nodes n end high = get_or_past (map (list_at nodes) (range_with_len 0 n)) end [] (omega (arith, length-map-range_with_len (list_at nodes) 0 n))

-- a place in a list is of the class of that list
pub class_of_listed : (nodes : List Node) (class place : ℕ) → IsSoundLists nodes → Contains (list_of (classes nodes) class) place
    → (class_at nodes (place + 256) ≡ class) × (1 ≤ class) × (class ≤ 256)
class_of_listed nodes zero place kept (k, within, is) = absurd (omega (arith, within))
class_of_listed nodes (suc end) place kept there =
    elim (cases_lt end 256) [
      | inl low ↦ (
        Leads-class (next_of nodes) (class_at nodes) (end + 1) kept.same_class (list_at nodes end) (next_of nodes end) end place
            (kept.same_class end ∙ kept.end_class end low) (kept.rings end low) (rw (list_below nodes 256 end low) at there) ∙ omega arith,
        omega arith,
        omega (arith, low),
      )
      | inr high ↦ absurd (nowhere (rw (list_past nodes 256 end high) at there))
    ]
  where
    nowhere : Contains [] place → ⊥
    nowhere (k, within, is) = omega (arith, within)

-- a place of a class is there
pub classed_within : (nodes : List Node) (x : ℕ) → class_at nodes x ≢ 0 → x < length nodes
classed_within nodes x classed =
    elim (cases_lt x (length nodes)) [
      | inl low ↦ low
      | inr past ↦ absurd (classed (ap (λ (n : Node). n.class) (get_or_past nodes x (alone x) past)))
    ]

pub listed_within : (nodes : List Node) (place : ℕ) → IsSoundLists nodes → IsListed (classes nodes) place → place + 256 < length nodes
listed_within nodes place kept (class, there) =
    let of_class = class_of_listed nodes class place kept there in
    classed_within nodes (place + 256) (λ e. omega (arith, e, of_class.0, of_class.1))

-- a place that stands in no list is of no class
pub free_class : (nodes : List Node) (place : ℕ) → IsSoundLists nodes → (IsListed (classes nodes) place → ⊥) → class_at nodes (place + 256) ≡ 0
free_class nodes place kept free = go (class_at nodes (place + 256)) refl
  where
    go : (c : ℕ) → class_at nodes (place + 256) ≡ c → class_at nodes (place + 256) ≡ 0
    go zero is = is
    go (suc end) is =
        let low : end < 256 = omega (arith, is, kept.most (place + 256)) in
        absurd (free (suc end, rw (list_below nodes 256 end low) (kept.listed end place (is ∙ omega arith))))

pub lists_linked : (nodes nodes' : List Node) (place end : ℕ) → IsSoundLists nodes → end < 256 → class_at nodes (place + 256) ≡ 0 → IsLinked nodes nodes' (place + 256) end (prev_of nodes end) (end + 1)
    → (class : ℕ) → list_of (classes nodes') class ≡ cond (eqb class (end + 1)) (list_of (classes nodes) class ++ place ∷ []) (list_of (classes nodes) class)
lists_linked nodes nodes' place end kept low free after zero = rw (ne_eqb 0 (end + 1) (λ e. omega (arith, e))) refl
lists_linked nodes nodes' place end kept low free after (suc other) =
    elim (cases_eq other end) [
      | inl here ↦
          rw (eq-eqb (suc other) (end + 1) (omega (arith, here)), here, list_below nodes' 256 end low, list_below nodes 256 end low)
          ((Linked-list nodes nodes' place end kept low free after).is)
      | inr apart ↦
          rw (ne_eqb (suc other) (end + 1) (λ e. apart (omega (arith, e))))
          (elim (cases_lt other 256) [
            | inl within ↦
                rw (list_below nodes' 256 other within, list_below nodes 256 other within) ((Linked-other nodes nodes' place end kept low free after other within apart).is)
            | inr past ↦ list_past nodes' 256 other past ∙ sym (list_past nodes 256 other past)
          ])
    ]

pub lists_unlinked : (nodes nodes' : List Node) (place : ℕ) → IsSoundLists nodes → IsUnlinked nodes nodes' (place + 256) (prev_of nodes (place + 256)) (next_of nodes (place + 256))
    → (class : ℕ) → list_of (classes nodes') class ≡ without (list_of (classes nodes) class) place
lists_unlinked nodes nodes' place kept after zero = refl
lists_unlinked nodes nodes' place kept after (suc end) =
    elim (cases_lt end 256) [
      | inl low ↦ rw (list_below nodes' 256 end low, list_below nodes 256 end low) ((Unlinked-list nodes nodes' place kept after end low).is)
      | inr past ↦ rw (list_past nodes' 256 end past, list_past nodes 256 end past) refl
    ]

pub last_of_list : (nodes : List Node) (end : ℕ) → IsSoundLists nodes → end < 256 → place_of (prev_of nodes end) ≡ last_or None (list_of (classes nodes) (end + 1))
last_of_list nodes end kept low =
    let one : end + 1 ≡ suc end = omega arith in
    rw (one, list_below nodes 256 end low)
    (Leads-last (next_of nodes) (prev_of nodes) kept.back (list_at nodes end) end (next_of nodes end) end refl (kept.rings end low)
    ∙ ap (λ was. last_or was (list_at nodes end)) (place_of-end end low))

pub before_in_list : (nodes : List Node) (class place : ℕ) → IsSoundLists nodes → Contains (list_of (classes nodes) class) place
    → place_of (prev_of nodes (place + 256)) ≡ before_in None (list_of (classes nodes) class) place
before_in_list nodes zero place kept (k, within, is) = absurd (omega (arith, within))
before_in_list nodes (suc end) place kept there =
    let low : end < 256 = omega (arith, (class_of_listed nodes (suc end) place kept there).2) in
    rw (list_below nodes 256 end low)
    (Leads-before (next_of nodes) (prev_of nodes) kept.back (list_at nodes end) end (next_of nodes end) end place refl (kept.rings end low) (rw (list_below nodes 256 end low) at there)
    ∙ ap (λ was. before_in was (list_at nodes end) place) (place_of-end end low))

-- no node comes or goes
pub linked_length : (nodes : List Node) (node class : ℕ) → length (linked nodes node class) ≡ length nodes
linked_length nodes node class = length-set _ _ _ ∙ (length-set _ _ _ ∙ length-set _ _ _)

pub unlinked_length : (nodes : List Node) (node : ℕ) → length (unlinked nodes node) ≡ length nodes
unlinked_length nodes node = length-set _ _ _ ∙ (length-set _ _ _ ∙ length-set _ _ _)

-- after an append
pub linked_is : (nodes : List Node) (place class : ℕ) → IsSoundLists nodes → 1 ≤ class → class ≤ 256 → place + 256 < length nodes → class_at nodes (place + 256) ≡ 0
    → IsLinked nodes (linked nodes (place + 256) class) (place + 256) (class - 1) (prev_of nodes (class - 1)) (class - 1 + 1)
linked_is nodes place class kept some most within free =
    let same : class - 1 + 1 ≡ class = omega arith in
    let end_in : class - 1 < length nodes = omega (arith, kept.ends) in
    let last_class : class_at nodes (prev_of nodes (class - 1)) ≡ class - 1 + 1 =
    sym (kept.same_class (prev_of nodes (class - 1))) ∙ (ap (class_at nodes) (kept.forth (class - 1)) ∙ kept.end_class (class - 1) (omega arith)) in
    rw same
    (IsLinked-set nodes (place + 256) (class - 1) (prev_of nodes (class - 1)) class within end_in (prev_within nodes kept.forth (class - 1) end_in)
    (λ e. omega (arith, e)) (λ e. omega (arith, last_class, sym (ap (class_at nodes) e) ∙ free)))

-- after a removal
pub unlinked_is : (nodes : List Node) (place : ℕ) → IsSoundLists nodes → place + 256 < length nodes
    → IsUnlinked nodes (unlinked nodes (place + 256)) (place + 256) (prev_of nodes (place + 256)) (next_of nodes (place + 256))
unlinked_is nodes place kept within =
    IsUnlinked-set nodes (place + 256) (prev_of nodes (place + 256)) (next_of nodes (place + 256)) within
    (prev_within nodes kept.forth (place + 256) within) (next_within nodes kept.back (place + 256) within)

-- what is read of a node
pub read_prev : (nodes : List Node) (i : ℕ) (node : Node) → i < length nodes → node ≡ get_or nodes i node → node.prev ≡ prev_of nodes i
read_prev nodes i node within is = ap (λ (n : Node). n.prev) (get_or_read nodes i node within is (alone i))

pub cut_list : (nodes : List Node) (class place : ℕ) (older newer : List ℕ) → IsSoundLists nodes → list_of (classes nodes) class ≡ older ++ place ∷ newer
    → place_of (prev_of nodes (place + 256)) ≡ last_or None older
cut_list nodes zero place older newer kept is = absurd (nowhere older is)
  where
    nowhere : (older : List ℕ) → [] ≡ older ++ place ∷ newer → ⊥
    nowhere [] e = omega (arith, ap length e)
    nowhere (other ∷ older) e = omega (arith, ap length e)
cut_list nodes (suc end) place older newer kept is =
    let there : Contains (list_of (classes nodes) (suc end)) place = rw is (Contains-append_right older (place ∷ newer) place (zero, omega arith, refl)) in
    let low : end < 256 = omega (arith, (class_of_listed nodes (suc end) place kept there).2) in
    let same : list_at nodes end ≡ older ++ place ∷ newer = sym (list_below nodes 256 end low) ∙ is in
    Leads-cut (next_of nodes) (prev_of nodes) kept.back older newer end (next_of nodes end) end place refl (rw same at (kept.rings end low))
    ∙ ap (λ was. last_or was older) (place_of-end end low)
