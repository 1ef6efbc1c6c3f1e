use Rattle.std.proofs.Common.{◌≡◌, ℕ, zero, suc, ◌+◌, ◌*◌, ◌-◌, ◌<◌, ◌≤◌, List, ◌^◌, length, take, drop, get_or, replicate, sum, refl, min, arith, ◌∙◌, sym, ap}
use Rattle.std.proofs.lemmas.List.Sums.{sum_by_more}
use Rattle.std.proofs.lemmas.List.{get_or-replicate, get_or-drop, length-drop}
use Rattle.std.proofs.lemmas.Bool.Decides.{nat_tests}
use Rattle.std.proofs.lemmas.Nat.{row_fits, pow_pos}
use Rattle.std.proofs.Math.Nat.{div-eq_of_lt, mul-le-mul_right}
use Rattle.tile_source.proofs.Powers.{four_to, square_of_side}
use Rattle.tile_source.specs.Image.{ImageValue, sum_below, row_sum, sample, square_sum, pixel, mean}

-- one more number
pub sum_below_more : (f : ℕ → ℕ) (n : ℕ) → sum_below f (n + 1) ≡ sum_below f n + f n
sum_below_more f n =
    let next : n + 1 ≡ suc n = omega arith in
    ap (sum_below f) next

-- two functions that agree below a limit have one sum below it
pub sum_below_same : (f g : ℕ → ℕ) (n : ℕ) → ((k : ℕ) → k < n → f k ≡ g k) → sum_below f n ≡ sum_below g n
sum_below_same f g zero same = refl
sum_below_same f g (suc n) same =
    let before : sum_below f n ≡ sum_below g n = sum_below_same f g n (λ k h. same k (omega arith)) in
    let here : f n ≡ g n = same n (omega arith) in
    cc

-- what gives 0 from a place on adds nothing from there on
pub sum_below_stops : (f : ℕ → ℕ) (m k : ℕ) → ((i : ℕ) → m ≤ i → i < m + k → f i ≡ 0) → sum_below f (m + k) ≡ sum_below f m
sum_below_stops f m zero none = ap (sum_below f) (omega arith)
sum_below_stops f m (suc k) none =
    let before : sum_below f (m + k) ≡ sum_below f m = sum_below_stops f m k (λ i low high. none i low (omega arith)) in
    let here : f (m + k) ≡ 0 = none (m + k) (omega arith) (omega arith) in
    let next : m + suc k ≡ suc (m + k) = omega arith in
    ap (sum_below f) next ∙ omega arith

-- the sum of a front of a list, by places
pub sum-take : (xs : List ℕ) (n : ℕ) → n ≤ length xs → sum (take n xs) ≡ sum_below (λ k. get_or xs k 0) n
sum-take xs zero h = refl
sum-take xs (suc n) h =
    let before : sum (take n xs) ≡ sum_below (λ k. get_or xs k 0) n = sum-take xs n (omega arith) in
    let more : sum (take (n + 1) xs) ≡ sum (take n xs) + get_or xs n 0 = sum_by_more (λ (x : ℕ). x) xs n 0 (omega arith) in
    let next : suc n ≡ n + 1 = omega arith in
    ap (λ m. sum (take m xs)) next ∙ (more ∙ ap (λ m. m + get_or xs n 0) before)

-- the sum of a part of a list, by places
pub sum_of_part : (xs : List ℕ) (i n : ℕ) → i + n ≤ length xs → sum (take n (drop i xs)) ≡ sum_below (λ k. get_or xs (i + k) 0) n
sum_of_part xs i n h =
    let long : n ≤ length (drop i xs) = simp length-drop (omega arith) in
    sum-take (drop i xs) n long ∙ sum_below_same (λ k. get_or (drop i xs) k 0) (λ k. get_or xs (i + k) 0) n (λ k below. get_or-drop i xs k 0)

-- the sum of what is 0 everywhere
pub sum_below_zero : (f : ℕ → ℕ) (n : ℕ) → ((k : ℕ) → k < n → f k ≡ 0) → sum_below f n ≡ 0
sum_below_zero f zero none = refl
sum_below_zero f (suc n) none =
    let before : sum_below f n ≡ 0 = sum_below_zero f n (λ k h. none k (omega arith)) in
    let here : f n ≡ 0 = none n (omega arith) in
    omega arith

pub sample_outside : (image : ImageValue) (x y : ℕ) → (y < image.height → image.width ≤ x) → sample image x y ≡ 0
sample_outside image x y out = grind (arith, nat_tests)

-- what a row adds beyond the image
row_covered : (image : ImageValue) (x y n columns : ℕ) → columns ≤ n → (columns < n → image.width ≤ x + columns) → row_sum image x y n ≡ row_sum image x y columns
row_covered image x y n columns fits edge =
    let rest : n ≡ columns + (n - columns) = omega arith in
    ap (row_sum image x y) rest
    ∙ sum_below_stops (λ i. sample image (x + i) y) columns (n - columns) (λ i low high. sample_outside image (x + i) y (λ inside. let wide : image.width ≤ x + columns = edge (omega arith) in omega arith))

-- the sum of a square is that of its piece within the image
pub square_covered : (image : ImageValue) (x y n columns lines : ℕ) → columns ≤ n → lines ≤ n → (columns < n → image.width ≤ x + columns) → (lines < n → image.height ≤ y + lines) → square_sum image x y n ≡ sum_below (λ j. row_sum image x (y + j) columns) lines
square_covered image x y n columns lines narrow flat right bottom =
    let rest : n ≡ lines + (n - lines) = omega arith in
    sum_below_same (λ j. row_sum image x (y + j) n) (λ j. row_sum image x (y + j) columns) n (λ j h. row_covered image x (y + j) n columns narrow right)
    ∙ (ap (sum_below (λ j. row_sum image x (y + j) columns)) rest
    ∙ sum_below_stops (λ j. row_sum image x (y + j) columns) lines (n - lines)
    (λ j low high. sum_below_zero (λ i. sample image (x + i) (y + j)) columns (λ i h. sample_outside image (x + i) (y + j) (λ inside. let deep : image.height ≤ y + lines = bottom (omega arith) in absurd (omega arith)))))

-- the mean of nothing but zeros
pub mean_zero : (z : ℕ) → mean z 0 ≡ 0
mean_zero z =
    let area : 4 ^ z ≡ 2 ^ (2 * z) = four_to z ∙ sym (square_of_side z) in
    let some : 0 < 4 ^ z = omega (arith, pow_pos (2 * z)) in
    div-eq_of_lt (omega arith)

-- a pixel by the sum of its square
pub pixel_by_sum : (image : ImageValue) (z a b n all : ℕ) → n ≡ 2 ^ z → all ≡ square_sum image (a * n) (b * n) n → mean z all ≡ pixel image z a b
pixel_by_sum image z a b n all scale is =
    ap (mean z) (is ∙ ap (λ m. square_sum image (a * m) (b * m) m) scale)

-- a pixel whose square lies within the columns of the image
pub pixel_inside : (image : ImageValue) (z x y n k lines all : ℕ) → n ≡ 2 ^ z → lines ≤ n → (lines < n → image.height ≤ y * n + lines) → all ≡ sum_below (λ j. row_sum image (x * n + k * n) (y * n + j) n) lines → mean z all ≡ pixel image z (x + k) y
pixel_inside image z x y n k lines all scale flat bottom is =
    let place : x * n + k * n ≡ (x + k) * n = omega arith in
    pixel_by_sum image z (x + k) y n all scale
    (is ∙ (ap (λ m. sum_below (λ j. row_sum image m (y * n + j) n) lines) place ∙ sym (square_covered image ((x + k) * n) (y * n) n n lines (omega arith) flat (λ h. absurd (omega arith)) bottom)))

-- a pixel whose square lies outside of the image
pub pixel_outside : (image : ImageValue) (z a b n : ℕ) → n ≡ 2 ^ z → (b * n < image.height → image.width ≤ a * n) → pixel image z a b ≡ 0
pixel_outside image z a b n scale out =
    let none : square_sum image (a * n) (b * n) n ≡ 0 = sum_below_zero (λ j. row_sum image (a * n) (b * n + j) n) n
    (λ j low. sum_below_zero (λ i. sample image (a * n + i) (b * n + j)) n (λ i h. sample_outside image (a * n + i) (b * n + j) (λ inside. let wide : image.width ≤ a * n = out (omega arith) in omega arith))) in
    sym (pixel_by_sum image z a b n 0 scale (sym none)) ∙ mean_zero z

-- where the squares from a column on lie beyond the columns that a row of the tile covers
pub beyond : (width x n k len columns : ℕ) → columns ≡ min (width - x * n) (len * n) → columns ≤ k * n → k < len → 0 < n → width ≤ (x + k) * n
beyond width x n k len columns is past below some =
    let more : (k + 1) * n ≤ len * n = mul-le-mul_right n (omega arith) in
    omega arith

-- at zoom 0 a pixel is a sample
pub pixel_zero : (image : ImageValue) (x y : ℕ) → sample image x y ≡ pixel image 0 x y
pixel_zero image x y =
    let at_x : x * 1 + 0 ≡ x = omega arith in
    let at_y : y * 1 + 0 ≡ y = omega arith in
    let here : sample image (x * 1 + 0) (y * 1 + 0) ≡ sample image x y = ap (λ m. sample image m (y * 1 + 0)) at_x ∙ ap (sample image x) at_y in
    omega arith

-- how far the lines that are covered reach
pub lines_reach : (height y n lines : ℕ) → lines ≡ min (height - y * n) n → lines < n → height ≤ y * n + lines
lines_reach height y n lines is short = omega arith

-- the sum of two functions
sum_below_both : (f g : ℕ → ℕ) (n : ℕ) → sum_below (λ i. f i + g i) n ≡ sum_below f n + sum_below g n
sum_below_both f g zero = refl
sum_below_both f g (suc n) =
    let before : sum_below (λ i. f i + g i) n ≡ sum_below f n + sum_below g n = sum_below_both f g n in
    omega arith

-- a rectangle may be summed by rows or by columns
sum_below_turned : (f : ℕ → ℕ → ℕ) (n m : ℕ) → sum_below (λ i. sum_below (f i) m) n ≡ sum_below (λ j. sum_below (λ i. f i j) n) m
sum_below_turned f n zero = sum_below_zero (λ i. 0) n (λ k h. refl)
sum_below_turned f n (suc m) =
    sum_below_both (λ i. sum_below (f i) m) (λ i. f i m) n
    ∙ ap (λ q. q + sum_below (λ i. f i m) n) (sum_below_turned f n m)

-- a pixel by the sums of its columns
pub pixel_by_columns : (image : ImageValue) (sums : List ℕ) (z x y n count lines k : ℕ) → n ≡ 2 ^ z → lines ≤ n → (lines < n → image.height ≤ y * n + lines) → length sums ≡ count * n → ((i : ℕ) → i < count * n → get_or sums i 0 ≡ sum_below (λ j. sample image (x * n + i) (y * n + j)) lines) → k < count → mean z (sum (take n (drop (k * n) sums))) ≡ pixel image z (x + k) y
pixel_by_columns image sums z x y n count lines k scale flat bottom long each below =
    let fits : k * n + n ≤ count * n = row_fits k n count n below (omega arith) in
    pixel_inside image z x y n k lines (sum (take n (drop (k * n) sums))) scale flat bottom
    (sum_of_part sums (k * n) n (omega arith)
    ∙ (sum_below_same (λ i. get_or sums (k * n + i) 0) (λ i. sum_below (λ j. sample image (x * n + k * n + i) (y * n + j)) lines) n
    (λ i h. each (k * n + i) (omega arith) ∙ ap (λ m. sum_below (λ j. sample image m (y * n + j)) lines) (omega arith))
    ∙ sum_below_turned (λ i j. sample image (x * n + k * n + i) (y * n + j)) n lines))

-- a row of zeros
pub zero_at : (row : List ℕ) (len k : ℕ) → row ≡ replicate len 0 → k < len → get_or row k 0 ≡ 0
zero_at row len k is below = ap (λ (xs : List ℕ). get_or xs k 0) is ∙ get_or-replicate len k 0 0 below
