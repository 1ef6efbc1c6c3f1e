-- What a reduction makes of the order, of the book and of the pool.
use Rattle.std.specs.Prelude.{◌≡◌, ℕ, ◌==◌, Bool, true, not, List, [], ◌∷◌, ◌++◌, length, map, filter, fold, reverse, Option, Some, option_map}
use Rattle.std.specs.List.{list_any}
use Rattle.machine.specs.Reduction.{Candidate, use_of, least, has_ended, reduced, tries, found_on, purged_by}
use Rattle.segment.specs.Warded.{Warded}
use Rattle.block_pool.specs.Stock.{Stock, after_put}
use Rattle.discard_book.specs.declared.entry.Entry.{Entry}
use Rattle.discard_book.specs.declared.entry.Entry.TheVariants.{Purge, Reduced}
use Rattle.lru_reduce.specs.Wards.{candidates_of, total_pages}

-- these words as tries at one moment, the latest first
abbrev pub latest_first : ℕ → List ℕ → List (ℕ × ℕ)
latest_first now words = map (λ word. (now, word)) (reverse words)

-- a warden after the tries of a reduction: its tries gained exactly the words that were found on its number
abbrev pub gained : ℕ → List (Candidate × ℕ) → Warded → Warded
gained now found w = record w { tries = latest_first now (found_on w.id found) ++ w.tries }

-- the segment of this number was purged by these tries
abbrev pub is_purged : List (Candidate × ℕ) → ℕ → Bool
is_purged found id = list_any (λ (c : Candidate). c.id == id) (purged_by found)

-- the wardens that the tries of a reduction leave: those whose segments were not purged
abbrev pub left_after : ℕ → List (Candidate × ℕ) → List Warded → List Warded
left_after now found sides = map (gained now found) (filter (λ (w : Warded). not (is_purged found w.id)) sides)

-- the Purge entry of a segment, with its known use
abbrev pub purge_of : Candidate → Entry
purge_of c = Purge c.id (use_of c)

-- a pool after the blocks of these segments were put, in their order
abbrev pub after_puts : List Candidate → Stock → Stock
after_puts cs stock = fold (λ (s : Stock) (c : Candidate). after_put c.pages s) stock cs

-- A reduction to a limit at a moment. There are words, each found by one of its tries, for which the definition leads from the
-- segments before to those after. The wardens that are left gained their own words and no others. The book gained the purges
-- in their order, each with its known use, and then the Reduced entry. The pool got the block of each purged segment.
pub record ReducesTo (limit now : ℕ) (told : Option ℕ) (purges : ℕ) (old new : List Warded) (before after : List Entry) (pool filled : Stock) : Type 0 where
  pub words : List ℕ
  pub reduced : reduced limit now (candidates_of old) words ≡ Some (candidates_of new)
  pub wardens : new ≡ left_after now (tries now (candidates_of old) words) old
  pub entries : after ≡ before ++ map purge_of (purged_by (tries now (candidates_of old) words)) ++ Reduced limit now (total_pages new) told ∷ []
  pub blocks : filled ≡ after_puts (purged_by (tries now (candidates_of old) words)) pool
  pub counted : purges ≡ length (purged_by (tries now (candidates_of old) words))

-- What a reduction tells of its end: the pages that are left, and the least known use. The pages are within the limit, or no
-- segment is left, or the least known use is at or after the moment.
pub record TellsEnd (limit now after : ℕ) (told : Option ℕ) (sides : List Warded) : Type 0 where
  pub pages : after ≡ total_pages sides
  pub known : told ≡ option_map use_of (least (candidates_of sides))
  pub ended : has_ended limit now (candidates_of sides) ≡ true
