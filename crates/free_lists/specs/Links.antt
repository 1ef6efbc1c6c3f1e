-- Rings of nodes, and the lists that they stand for.
use Rattle.std.specs.Prelude.{◌≡◌, ℕ, zero, suc, ◌+◌, ◌-◌, ◌^◌, ◌<◌, ◌≤◌, ◌==◌, nat_lt, List, [], ◌∷◌, ◌++◌, length, get_or, set, map, Contains, count_by, Option, Some, None, if◌then◌else◌}
use Rattle.std.specs.List.{range_with_len}
use Rattle.free_lists.specs.declared.node.Node.{Node}
use Rattle.free_lists.specs.Lists.{Classes}

-- a node in no list is a ring of its own
abbrev pub alone : ℕ → Node
alone x = record { prev = x; next = x; class = 0 }

-- the node at this index; past the last one, each is alone
abbrev pub node_at : List Node → ℕ → Node
node_at nodes x = get_or nodes x (alone x)

-- the node that a node's link leads to
abbrev pub next_of : List Node → ℕ → ℕ
next_of nodes x = (node_at nodes x).next

-- the node that its link back leads to
abbrev pub prev_of : List Node → ℕ → ℕ
prev_of nodes x = (node_at nodes x).prev

-- the class of a node
abbrev pub class_at : List Node → ℕ → ℕ
class_at nodes x = (node_at nodes x).class

-- the place of a node, or none at an end
abbrev pub place_of : ℕ → Option ℕ
place_of x = if nat_lt x 256 then None else Some (x - 256)

-- the places from a node on, up to the end of its list
abbrev pub walk : (ℕ → ℕ) → ℕ → ℕ → List ℕ
walk next zero x = []
walk next (suc n) x = if nat_lt x 256 then [] else (x - 256) ∷ walk next n (next x)

-- the list that ends at this node
abbrev pub list_at : List Node → ℕ → List ℕ
list_at nodes end = walk (next_of nodes) (length nodes) (next_of nodes end)

-- the lists that end at the first n nodes
unfoldable pub lists_below : List Node → ℕ → List (List ℕ)
lists_below nodes n = map (list_at nodes) (range_with_len 0 n)

-- what the nodes are seen as
abbrev pub classes : List Node → Classes
classes nodes = record { places = length nodes - 256; lists = lists_below nodes 256 }

-- from x on, the links lead over the nodes of these places, in their order, to y
abbrev pub Leads : (ℕ → ℕ) → ℕ → List ℕ → ℕ → Type 0
Leads next x [] y = x ≡ y
Leads next x (place ∷ places) y = (x ≡ place + 256) × Leads next (next x) places y

-- how many nodes are of this class
abbrev pub count_of : List Node → ℕ → ℕ
count_of nodes class = count_by (λ node. node.class == class) nodes

-- Each link has its link back, and keeps the class. A node of no class is alone, each end has its class, each ring passes
-- its end, and each place of a class stands in the list of its class.
pub record IsSoundLists (nodes : List Node) : Type 0 where
  pub ends : 256 ≤ length nodes
  pub small : length nodes < 2 ^ 32 + 256
  pub back : (x : ℕ) → prev_of nodes (next_of nodes x) ≡ x
  pub forth : (x : ℕ) → next_of nodes (prev_of nodes x) ≡ x
  pub same_class : (x : ℕ) → class_at nodes (next_of nodes x) ≡ class_at nodes x
  pub end_class : (end : ℕ) → end < 256 → class_at nodes end ≡ end + 1
  pub most : (x : ℕ) → class_at nodes x ≤ 256
  pub alone : (x : ℕ) → class_at nodes x ≡ 0 → next_of nodes x ≡ x
  pub rings : (end : ℕ) → end < 256 → Leads (next_of nodes) (next_of nodes end) (list_at nodes end) end
  pub few : (end : ℕ) → end < 256 → length (list_at nodes end) ≤ count_of nodes (end + 1)
  pub listed : (end place : ℕ) → class_at nodes (place + 256) ≡ end + 1 → Contains (list_at nodes end) place

-- the nodes after a node was put before the end of a ring
abbrev pub linked : List Node → ℕ → ℕ → List Node
linked nodes node class =
    let end = class - 1 in
    let last = prev_of nodes end in
    let one = set nodes last (record (node_at nodes last) { next = node }) in
    let two = set one end (record (node_at one end) { prev = node }) in
    set two node (record { prev = last; next = end; class = class })

-- the nodes after a node was taken out of its ring
abbrev pub unlinked : List Node → ℕ → List Node
unlinked nodes node =
    let prev = prev_of nodes node in
    let next = next_of nodes node in
    let one = set nodes prev (record (node_at nodes prev) { next = next }) in
    let two = set one next (record (node_at one next) { prev = prev }) in
    set two node (alone node)

-- the nodes with n more, each alone
abbrev pub extended : List Node → ℕ → List Node
extended nodes n = nodes ++ map alone (range_with_len (length nodes) n)

-- the ends of the first n lists, each alone
abbrev pub ends : ℕ → List Node
ends n = map (λ x. record { prev = x; next = x; class = x + 1 }) (range_with_len 0 n)
