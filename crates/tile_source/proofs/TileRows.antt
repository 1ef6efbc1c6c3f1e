use Rattle.std.proofs.Common.{◌≡◌, ℕ, ◌+◌, ◌*◌, ◌-◌, ◌<◌, ◌≤◌, List, [], ◌∷◌, ◌++◌, length, take, drop, map, get_or, arith, ◌∙◌, sym, ap}
use Rattle.std.specs.List.{range_with_len, flat_map}
use Rattle.std.proofs.lemmas.List.{map-id, flat_map_more, length-take, length-drop}
use Rattle.std.proofs.lemmas.List.FromFn.{map-range_with_len_more, fill_by_all}
use Rattle.std.proofs.lemmas.Slice.{take-put_mid}
use Rattle.std.proofs.lemmas.Nat.{row_fits}
use borrow.Rule.Slice.PartMut.{put_mid}

-- one more number
pub range_with_len_more : (n : ℕ) → range_with_len 0 (n + 1) ≡ range_with_len 0 n ++ n ∷ []
range_with_len_more n =
    sym (map-id (range_with_len 0 (n + 1))) ∙ (map-range_with_len_more (λ (x : ℕ). x) 0 n n (omega arith) ∙ ap (λ (xs : List ℕ). xs ++ n ∷ []) (map-id (range_with_len 0 n)))

-- one more row
pub rows_more : (f : ℕ → List ℕ) (n : ℕ) → flat_map f (range_with_len 0 (n + 1)) ≡ flat_map f (range_with_len 0 n) ++ f n
rows_more f n = ap (flat_map f) (range_with_len_more n) ∙ sym (flat_map_more f [] (range_with_len 0 n) n)

-- a row that is written below the rows that stand already
pub row_written : (f : ℕ → List ℕ) (out line : List ℕ) (n side : ℕ) → length out ≡ side * side → n < side → length line ≡ side → line ≡ f n → take (n * side) out ≡ flat_map f (range_with_len 0 n) → take ((n + 1) * side) (put_mid (n * side) ((n + 1) * side - n * side) out line) ≡ flat_map f (range_with_len 0 (n + 1))
row_written f out line n side long below wide is above =
    let fits : n * side + side ≤ side * side = row_fits n side side side below (omega arith) in
    take-put_mid (n * side) ((n + 1) * side - n * side) out line ((n + 1) * side) (omega arith) (omega arith)
    ∙ (ap (λ (xs : List ℕ). xs ++ line) above ∙ (ap (λ (xs : List ℕ). flat_map f (range_with_len 0 n) ++ xs) is ∙ sym (rows_more f n)))

-- the same, where the row is known pixel by pixel
pub row_filled : (f : ℕ → ℕ → ℕ) (out line : List ℕ) (n side : ℕ) → length out ≡ side * side → n < side → length line ≡ side → ((k : ℕ) → k < side → get_or line k 0 ≡ f n k) → take (n * side) out ≡ flat_map (λ v. map (f v) (range_with_len 0 side)) (range_with_len 0 n) → take ((n + 1) * side) (put_mid (n * side) ((n + 1) * side - n * side) out line) ≡ flat_map (λ v. map (f v) (range_with_len 0 side)) (range_with_len 0 (n + 1))
row_filled f out line n side long below wide each above =
    row_written (λ v. map (f v) (range_with_len 0 side)) out line n side long below wide (fill_by_all (f n) line side 0 wide each) above

-- how long the part of a tile is that one row takes
pub length-row : (out : List ℕ) (n side : ℕ) → length out ≡ side * side → n < side → length (take ((n + 1) * side - n * side) (drop (n * side) out)) ≡ side
length-row out n side long below =
    let fits : n * side + side ≤ side * side = row_fits n side side side below (omega arith) in
    simp (length-take, length-drop) (omega arith)
