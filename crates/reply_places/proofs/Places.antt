-- A place is joined to those behind it.
use Rattle.std.proofs.Common.{◌≡◌, ℕ, ◌+◌, ◌*◌, ◌∙◌, List, ◌++◌, length, sym, ap, arith, length-append}

-- n + 1 pieces are n and one more
one_more_piece : (n size : ℕ) → (n + 1) * size ≡ n * size + size
one_more_piece n size = omega arith

-- how many bytes are in front of and behind the place's first byte
pub front_more : (number from size all : ℕ) (front behind joined : List ℕ) → number + 1 ≡ from → length front ≡ size → joined ≡ front ++ behind
    → length behind + from * size ≡ all → length joined + number * size ≡ all
front_more number from size all front behind joined next long is behind_is =
    let whole : length joined ≡ size + length behind = ap length is ∙ length-append front behind ∙ ap (λ n. n + length behind) long in
    let more : from * size ≡ number * size + size = ap (λ n. n * size) (sym next) ∙ one_more_piece number size in
    omega (arith, whole, more, behind_is)

-- the same for the last place
pub front_alone : (number from size count : ℕ) (front joined : List ℕ) → number + 1 ≡ from → length front ≡ size → joined ≡ front → from ≡ count
    → length joined + number * size ≡ count * size
front_alone number from size count front joined next long is last =
    let whole : length joined ≡ size = ap length is ∙ long in
    let more : count * size ≡ number * size + size = ap (λ n. n * size) (sym last ∙ sym next) ∙ one_more_piece number size in
    omega (arith, whole, more)
