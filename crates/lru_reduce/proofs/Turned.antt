-- A reduction, turn by turn.
use Rattle.std.proofs.Common.{◌≡◌, ℕ, ◌+◌, ◌*◌, ◌<◌, ◌≤◌, ◌==◌, true, false, not, cond, List, [], ◌∷◌, ◌++◌, length, get_or, map, filter, sum, Option, Some, refl, sym, ap, ap₂, subst, ◌∙◌, arith, length-append, append_assoc}
use Rattle.std.proofs.lemmas.Bool.Decides.{nat_tests}
use Rattle.std.proofs.lemmas.List.{append-nil, map-append, length-map, get_or-map}
use Rattle.std.proofs.lemmas.List.Folds.{list_any_at}
use Rattle.std.proofs.lemmas.List.Sums.{fold-append}
use Rattle.units.specs.declared.TheConstants.{PAGE}
use Rattle.units.specs.Moment.{is_moment}
use Rattle.machine.specs.Reduction.{Candidate, use_of, least, has_ended, purged_by, tries}
use Rattle.segment.specs.Warded.{Warded}
use Rattle.block_pool.specs.Block.{page_count}
use Rattle.block_pool.specs.Stock.{Stock, after_put}
use Rattle.discard_book.specs.Log.{Log}
use Rattle.discard_book.specs.Live.{live, has_number, granted, live_after}
use Rattle.discard_book.specs.Legal.{fits_after}
use Rattle.discard_book.specs.declared.entry.Entry.{Entry}
use Rattle.discard_book.specs.declared.entry.Entry.TheVariants.{Purge, Reduced}
use Rattle.lru_reduce.specs.Wards.{Wards, candidate_of, candidates_of, segment_of, segments_of, total_pages, noted_at, wards_after, without_ward}
use Rattle.lru_reduce.specs.Measure.{work}
use Rattle.lru_reduce.specs.Turns.{IsDue, WinsAt, LosesAt, stood_as}
use Rattle.lru_reduce.specs.Reducing.{ReducesTo, left_after, purge_of, after_puts}
use Rattle.lru_reduce.proofs.Keyed.{same_yes, same_no}
use Rattle.lru_reduce.proofs.Gained.{Runs, words_of, reduced_by, tries_by, runs_on, purged-won, purged-lost, left-more, left-none, candidates-after, turned}

-- What a turn does to the book's segments and to the pages

segments-but : (id : ℕ) (sides : List Warded) → segments_of (without_ward id sides) ≡ filter (λ (s : ℕ × ℕ). not (id == s.0)) (segments_of sides)
segments-but id [] = refl
segments-but id (w ∷ sides) = rw (turned id w.id) (elim (w.id == id) as (λ b. segments_of (cond (not b) (w ∷ without_ward id sides) (without_ward id sides)) ≡ cond (not b) (segment_of w ∷ filter (λ (s : ℕ × ℕ). not (id == s.0)) (segments_of sides)) (filter (λ (s : ℕ × ℕ). not (id == s.0)) (segments_of sides))) [
  | true ↦ segments-but id sides
  | false ↦ ap (λ more. segment_of w ∷ more) (segments-but id sides)
])

segments-noted : (now word id : ℕ) (sides : List Warded) → segments_of (map (noted_at now word id) sides) ≡ segments_of sides
segments-noted now word id [] = refl
segments-noted now word id (w ∷ sides) = ap₂ (λ (a : ℕ × ℕ) (more : List (ℕ × ℕ)). a ∷ more) (elim (w.id == id) as (λ b. segment_of (cond b (record w { tries = (now, word) ∷ w.tries }) w) ≡ segment_of w) [ true ↦ refl | false ↦ refl ]) (segments-noted now word id sides)

total-noted : (now word id : ℕ) (sides : List Warded) → total_pages (map (noted_at now word id) sides) ≡ total_pages sides
total-noted now word id sides = ap (λ (ns : List ℕ). sum ns) (same sides)
  where
    same : (ws : List Warded) → map (λ (c : Candidate). c.pages) (candidates_of (map (noted_at now word id) ws)) ≡ map (λ (c : Candidate). c.pages) (candidates_of ws)
    same [] = refl
    same (w ∷ ws) = ap₂ (λ (a : ℕ) (more : List ℕ). a ∷ more) (elim (w.id == id) as (λ b. (candidate_of (cond b (record w { tries = (now, word) ∷ w.tries }) w)).pages ≡ w.pages) [ true ↦ refl | false ↦ refl ]) (same ws)

-- what stands in the middle of a reduction
pub record Going (limit now : ℕ) (start : Wards) (book : Log) (pool : Stock) (granted : ℕ) (wards : Wards) (log : Log) (filled : Stock) : Type 0 where
  pub found : List (Candidate × ℕ)
  pub runs : Runs limit now (candidates_of start.sides) found (candidates_of wards.sides)
  pub left : wards.sides ≡ left_after now found start.sides
  pub entries : log.entries ≡ book.entries ++ map purge_of (purged_by found)
  pub blocks : filled ≡ after_puts (purged_by found) pool
  pub counted : length (purged_by found) + length wards.sides ≡ length start.sides
  pub live : live log.entries ≡ segments_of wards.sides
  pub total : granted ≡ total_pages wards.sides
  pub spare : length wards.sides + 1 ≤ log.spare
  pub spent : length wards.sides + book.spare ≡ length start.sides + log.spare
  pub room : wards.spare ≡ start.spare

pub going_first : (limit now pages : ℕ) (start : Wards) (book : Log) (pool : Stock) → live book.entries ≡ segments_of start.sides → pages ≡ total_pages start.sides → length start.sides + 1 ≤ book.spare
    → Going limit now start book pool pages start book pool
going_first limit now pages start book pool lives total spare = record {
  found = [];
  runs = refl;
  left = sym (left-none now start.sides);
  entries = sym (append-nil book.entries);
  blocks = refl;
  counted = omega arith;
  live = lives;
  total = total;
  spare = spare;
  spent = refl;
  room = refl;
}

-- the segment at the place that is due
pub record Due (now : ℕ) (sides : List Warded) (e : Candidate) : Type 0 where
  pub first : least (candidates_of sides) ≡ Some e
  pub early : use_of e < now

due_is : (limit now place : ℕ) (sides : List Warded) (e : Candidate) → IsDue limit now place sides → ((d : Warded) → candidate_of (get_or sides place d) ≡ e) → Due now sides e
due_is limit now place [] e turn stood = let l = turn.inside in absurd (omega (arith, l))
due_is limit now place (w ∷ sides) e turn stood = record {
  first = turn.first w ∙ ap (λ (c : Candidate). Some c) (stood w);
  early = subst (λ (c : Candidate). use_of c < now) (stood w) (turn.early w);
}

pub going_lost : (limit now place known granted : ℕ) (start : Wards) (book : Log) (pool : Stock) (wards new : Wards) (log : Log) (filled : Stock)
    → Going limit now start book pool granted wards log filled → IsDue limit now place wards.sides → LosesAt now place known wards.sides new.sides → new.spare ≡ wards.spare → Going limit now start book pool granted new log filled
going_lost limit now place known granted start book pool wards new log filled going turn lost room =
    let due = due_is limit now place wards.sides lost.at turn lost.stood in
    let no : (lost.word == 2 * use_of lost.at) ≡ false = same_no lost.word (2 * use_of lost.at) lost.other in
    let none = purged-lost lost.at lost.word going.found no in
    let kept : new.sides ≡ map (noted_at now lost.word lost.at.id) wards.sides = lost.sides ∙ ap (λ b. cond b (without_ward lost.at.id wards.sides) (map (noted_at now lost.word lost.at.id) wards.sides)) no in
    let long : length new.sides ≡ length wards.sides = ap length kept ∙ length-map wards.sides (noted_at now lost.word lost.at.id) in
    record {
      found = going.found ++ (lost.at, lost.word) ∷ [];
      runs = rw (lost.sides, candidates-after now lost.word lost.at wards.sides) (runs_on limit now lost.word lost.at (candidates_of start.sides) going.found (candidates_of wards.sides) going.runs turn.going due.first);
      left = lost.sides ∙ ap (λ (ws : List Warded). wards_after now lost.word lost.at ws) going.left ∙ sym (left-more now lost.word lost.at going.found start.sides);
      entries = rw none going.entries;
      blocks = rw none going.blocks;
      counted = rw (none, long) going.counted;
      live = going.live ∙ sym (ap (λ (ws : List Warded). segments_of ws) kept ∙ segments-noted now lost.word lost.at.id wards.sides);
      total = going.total ∙ sym (ap (λ (ws : List Warded). total_pages ws) kept ∙ total-noted now lost.word lost.at.id wards.sides);
      spare = rw long going.spare;
      spent = rw long going.spent;
      room = room ∙ going.room;
    }

pages_back : (pages : ℕ) (block : List ℕ) → length block ≡ PAGE * pages → page_count block ≡ pages
pages_back pages block sized = omega (arith, sized)

pub going_won : (limit now place granted id pages known left : ℕ) (block : List ℕ) (start : Wards) (book : Log) (pool : Stock) (wards new : Wards) (log after : Log) (filled fuller : Stock)
    → Going limit now start book pool granted wards log filled → IsDue limit now place wards.sides → WinsAt now place id pages known block wards.sides new.sides → new.spare ≡ wards.spare
    → left + pages ≡ granted → after.entries ≡ log.entries ++ Purge id known ∷ [] → after.spare + 1 ≡ log.spare → live after.entries ≡ live_after (live log.entries) (Purge id known) → fuller ≡ after_put (page_count block) filled
    → Going limit now start book pool left new after fuller
going_won limit now place granted id pages known left block start book pool wards new log after filled fuller going turn won same paid entries spare lives put =
    let e = stood_as id pages known in
    let word : ℕ = 2 * known in
    let due = due_is limit now place wards.sides e turn won.stood in
    let yes : (word == 2 * use_of e) ≡ true = same_yes word (2 * known) refl in
    let one : purged_by (going.found ++ (e, word) ∷ []) ≡ purged_by going.found ++ e ∷ [] = purged-won e word going.found yes in
    let kept : new.sides ≡ without_ward id wards.sides = won.sides ∙ ap (λ b. cond b (without_ward id wards.sides) (map (noted_at now word id) wards.sides)) yes in
    let fewer = won.fewer in
    let counted = going.counted in
    let room = going.spare in
    let spent = going.spent in
    let total = going.total in
    let sum = won.left in
    let longer : length (purged_by going.found ++ e ∷ []) ≡ length (purged_by going.found) + 1 = length-append (purged_by going.found) (e ∷ []) in
    record {
      found = going.found ++ (e, word) ∷ [];
      runs = rw (won.sides, candidates-after now word e wards.sides) (runs_on limit now word e (candidates_of start.sides) going.found (candidates_of wards.sides) going.runs turn.going due.first);
      left = won.sides ∙ ap (λ (ws : List Warded). wards_after now word e ws) going.left ∙ sym (left-more now word e going.found start.sides);
      entries = entries ∙ ap (λ (es : List Entry). es ++ Purge id known ∷ []) going.entries ∙ append_assoc book.entries (map purge_of (purged_by going.found)) (Purge id known ∷ []) ∙ ap (λ (es : List Entry). book.entries ++ es) (sym (map-append purge_of (purged_by going.found) (e ∷ []))) ∙ ap (λ (es : List Candidate). book.entries ++ map purge_of es) (sym one);
      blocks = put ∙ ap₂ (λ (n : ℕ) (s : Stock). after_put n s) (pages_back pages block won.sized) going.blocks ∙ sym (fold-append (λ (s : Stock) (c : Candidate). after_put c.pages s) pool (purged_by going.found) (e ∷ [])) ∙ ap (λ (es : List Candidate). after_puts es pool) (sym one);
      counted = rw one (omega (arith, longer, fewer, counted));
      live = lives ∙ append-nil (filter (λ (s : ℕ × ℕ). not (id == s.0)) (live log.entries)) ∙ ap (λ (ss : List (ℕ × ℕ)). filter (λ (s : ℕ × ℕ). not (id == s.0)) ss) going.live ∙ sym (ap (λ (ws : List Warded). segments_of ws) kept ∙ segments-but id wards.sides);
      total = omega (arith, paid, total, sum);
      spare = omega (arith, spare, room, fewer);
      spent = omega (arith, spare, spent, fewer);
      room = same ∙ going.room;
    }

there_at : (id pages known place : ℕ) (sides : List Warded) → place < length sides → ((d : Warded) → candidate_of (get_or sides place d) ≡ stood_as id pages known) → (id == (get_or (segments_of sides) place (id, pages)).0) ≡ true
there_at id pages known place [] inside stood = absurd (omega (arith, inside))
there_at id pages known place (w ∷ sides) inside stood =
    let e : get_or (segments_of (w ∷ sides)) place (id, pages) ≡ segment_of (get_or (w ∷ sides) place w) = get_or-map segment_of (w ∷ sides) place w (id, pages) inside in
    let n : (get_or (w ∷ sides) place w).id ≡ id = ap (λ (o : Candidate). o.id) (stood w) in
    same_yes id _ (sym (ap (λ (s : ℕ × ℕ). s.0) e ∙ n))

-- the purge fits the book
pub fits_purge : (limit now place granted id pages known : ℕ) (block : List ℕ) (start : Wards) (book : Log) (pool : Stock) (wards new : Wards) (log : Log) (filled : Stock)
    → Going limit now start book pool granted wards log filled → place < length wards.sides → WinsAt now place id pages known block wards.sides new.sides → fits_after log.entries (Purge id known) ≡ true
fits_purge limit now place granted id pages known block start book pool wards new log filled going inside won =
    let there : has_number (segments_of wards.sides) id ≡ true =
    list_any_at (λ (s : ℕ × ℕ). id == s.0) (segments_of wards.sides) place (id, pages) (rw (length-map wards.sides segment_of) inside)
    (there_at id pages known place wards.sides inside won.stood) in
    let moment : is_moment known ≡ true = let low = won.moment.0 in let high = won.moment.1 in grind (arith, nat_tests, low, high) in
    rw (going.live, there, moment) refl

-- less work is left where a try of the least lost
pub less_where_lost : (limit now place known : ℕ) (wards new : Wards) → IsDue limit now place wards.sides → LosesAt now place known wards.sides new.sides → work now new.sides < work now wards.sides
less_where_lost limit now place known wards new turn lost = lost.less (due_is limit now place wards.sides lost.at turn lost.stood).early

-- The end

-- all pass
pub filter_all : (segments : List (ℕ × ℕ)) → filter (λ (s : ℕ × ℕ). true) segments ≡ segments
filter_all [] = refl
filter_all (s ∷ segments) = ap (λ more. s ∷ more) (filter_all segments)

pub live_reduced : (entries after : List Entry) (limit now left : ℕ) (told : Option ℕ) → live after ≡ live_after (live entries) (Reduced limit now left told) → live after ≡ live entries
live_reduced entries after limit now left told e = e ∙ append-nil (filter (λ (s : ℕ × ℕ). true) (live entries)) ∙ filter_all (live entries)

-- all of it
pub reduces_to : (limit now pages purges : ℕ) (told : Option ℕ) (start : Wards) (book : Log) (pool : Stock) (wards : Wards) (log : Log) (filled : Stock) (after : List Entry)
    → Going limit now start book pool pages wards log filled → has_ended limit now (candidates_of wards.sides) ≡ true
    → after ≡ log.entries ++ Reduced limit now pages told ∷ [] → purges + length wards.sides ≡ length start.sides
    → ReducesTo limit now told purges start.sides wards.sides book.entries after pool filled
reduces_to limit now pages purges told start book pool wards log filled after going ended entries counted =
    let same : tries now (candidates_of start.sides) (words_of going.found) ≡ going.found = tries_by limit now (candidates_of start.sides) going.found (candidates_of wards.sides) going.runs in
    let all = going.counted in
    let number : purges ≡ length (purged_by going.found) = omega (arith, counted, all) in
    record {
      words = words_of going.found;
      reduced = reduced_by limit now (candidates_of start.sides) going.found (candidates_of wards.sides) going.runs ended;
      wardens = rw same going.left;
      entries = rw (same, ← going.total) (entries ∙ ap (λ (es : List Entry). es ++ Reduced limit now pages told ∷ []) going.entries);
      blocks = rw same going.blocks;
      counted = rw same number;
    }
