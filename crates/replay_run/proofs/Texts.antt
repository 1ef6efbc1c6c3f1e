-- Two records with other replies or other entries are other texts.
use Rattle.std.proofs.Common.{◌≡◌, ℕ, ◌==◌, Bool, true, false, ◌||◌, List, [], ◌∷◌, ◌++◌, codes, decimal, get_or, Option, Some, None, IfSome, All, refl, sym, ap, ◌∙◌, subst, arith, append_assoc, eq-eqb}
use Rattle.std.specs.List.{list_any}
use Rattle.std.proofs.lemmas.Bool.{false≢true}
use Rattle.std.proofs.lemmas.List.Folds.{list_any-append}
use Rattle.std.proofs.lemmas.List.Elements.{All-head, All-tail}
use Rattle.discard_book.specs.declared.entry.Entry.{Entry}
use Rattle.discard_book.specs.declared.entry.Entry.TheVariants.{Grant, Reduced, Purge, Back}
use Rattle.discard_book.specs.Text.{spaced, spaced_or_dash, words_of, line_of, text_of}
use Rattle.replay_plain.specs.Records.{record_text}
use Rattle.replay_run.specs.Fitting.{IsShort, Fits}
use Rattle.replay_run.proofs.Numerals.{HasNo, decimal_not, decimal_differs}

heads : (x y : ℕ) (xs ys : List ℕ) → x ∷ xs ≡ y ∷ ys → x ≡ y
heads x y xs ys e = cc

tails : (x y : ℕ) (xs ys : List ℕ) → x ∷ xs ≡ y ∷ ys → xs ≡ ys
tails x y xs ys e = cc

first_not : (mark x : ℕ) (xs : List ℕ) → HasNo mark (x ∷ xs) → (x == mark) ≡ false
first_not mark x xs p = by_test (x == mark) (list_any (λ byte. byte == mark) xs) p
  where
    by_test : (a b : Bool) → (a || b) ≡ false → a ≡ false
    by_test true b e = e
    by_test false b e = refl

rest_not : (mark x : ℕ) (xs : List ℕ) → HasNo mark (x ∷ xs) → HasNo mark xs
rest_not mark x xs p = by_test (x == mark) (list_any (λ byte. byte == mark) xs) p
  where
    by_test : (a b : Bool) → (a || b) ≡ false → b ≡ false
    by_test true b e = absurd (false≢true (sym e))
    by_test false b e = e

not_mark : (mark x : ℕ) (xs : List ℕ) → HasNo mark (x ∷ xs) → x ≡ mark → ⊥
not_mark mark x xs p e = false≢true (sym (first_not mark x xs p) ∙ eq-eqb x mark e)

-- two pieces without the mark have none together
joined_not : (mark : ℕ) (xs ys : List ℕ) → HasNo mark xs → HasNo mark ys → HasNo mark (xs ++ ys)
joined_not mark xs ys p q =
    list_any-append (λ byte. byte == mark) xs ys ∙ by_tests (list_any (λ byte. byte == mark) xs) (list_any (λ byte. byte == mark) ys) p q
  where
    by_tests : (a b : Bool) → a ≡ false → b ≡ false → (a || b) ≡ false
    by_tests true b e f = e
    by_tests false b e f = f

-- the mark stands in what it is put before
has_mark : (mark : ℕ) (xs ys : List ℕ) → HasNo mark (xs ++ mark ∷ ys) → ⊥
has_mark mark [] ys p = not_mark mark mark ys p refl
has_mark mark (x ∷ xs) ys p = has_mark mark xs ys (rest_not mark x (xs ++ mark ∷ ys) p)

-- the first mark parts a text in one way
pub part_first : (mark : ℕ) (a b x y : List ℕ) → HasNo mark a → HasNo mark b → a ++ mark ∷ x ≡ b ++ mark ∷ y → (a ≡ b) × (x ≡ y)
part_first mark [] [] x y p q e = (refl, tails mark mark x y e)
part_first mark [] (c ∷ b) x y p q e = absurd (not_mark mark c b q (sym (heads mark c x (b ++ mark ∷ y) e)))
part_first mark (c ∷ a) [] x y p q e = absurd (not_mark mark c a p (heads c mark (a ++ mark ∷ x) y e))
part_first mark (c ∷ a) (d ∷ b) x y p q e =
    let rest = part_first mark a b x y (rest_not mark c a p) (rest_not mark d b q) (tails c d (a ++ mark ∷ x) (b ++ mark ∷ y) e) in
    let same = heads c d (a ++ mark ∷ x) (b ++ mark ∷ y) e in
    (ap (λ n. n ∷ a) same ∙ ap (λ l. d ∷ l) rest.0, rest.1)

-- so does the last one
pub part_last : (mark : ℕ) (a b x y : List ℕ) → HasNo mark x → HasNo mark y → a ++ mark ∷ x ≡ b ++ mark ∷ y → (a ≡ b) × (x ≡ y)
part_last mark [] [] x y p q e = (refl, tails mark mark x y e)
part_last mark [] (c ∷ b) x y p q e = absurd (has_mark mark b y (subst (HasNo mark) (tails mark c x (b ++ mark ∷ y) e) p))
part_last mark (c ∷ a) [] x y p q e = absurd (has_mark mark a x (subst (HasNo mark) (sym (tails c mark (a ++ mark ∷ x) y e)) q))
part_last mark (c ∷ a) (d ∷ b) x y p q e =
    let rest = part_last mark a b x y p q (tails c d (a ++ mark ∷ x) (b ++ mark ∷ y) e) in
    let same = heads c d (a ++ mark ∷ x) (b ++ mark ∷ y) e in
    (ap (λ n. n ∷ a) same ∙ ap (λ l. d ∷ l) rest.0, rest.1)

-- the last number of some words
last_number : (a b : List ℕ) (m n : ℕ) → IsShort m → IsShort n → a ++ spaced m ≡ b ++ spaced n → (a ≡ b) × (m ≡ n)
last_number a b m n p q e =
    let parts = part_last 32 a b (decimal m) (decimal n) (decimal_not 32 m (omega arith)) (decimal_not 32 n (omega arith)) e in
    (parts.0, decimal_differs m n p q parts.1)

-- what stands behind the last space
word_of : Option ℕ → List ℕ
word_of None = codes "-"
word_of (Some n) = decimal n

spaced_word : (o : Option ℕ) → spaced_or_dash o ≡ 32 ∷ word_of o
unfolding word_of
spaced_word None = refl
spaced_word (Some n) = refl

word_not : (o : Option ℕ) → HasNo 32 (word_of o)
unfolding word_of
word_not None = refl
word_not (Some n) = decimal_not 32 n (omega arith)

dash_no_number : (n : ℕ) → codes "-" ≡ decimal n → ⊥
dash_no_number n e = false≢true (sym (decimal_not 45 n (omega arith)) ∙ ap (list_any (λ byte. byte == 45)) (sym e))

word_differs : (o r : Option ℕ) → IfSome o IsShort → IfSome r IsShort → word_of o ≡ word_of r → o ≡ r
unfolding word_of
word_differs None None p q e = refl
word_differs None (Some n) p q e = absurd (dash_no_number n e)
word_differs (Some m) None p q e = absurd (dash_no_number m (sym e))
word_differs (Some m) (Some n) p q e = ap (λ k. Some k) (decimal_differs m n p q e)

last_or_dash : (a b : List ℕ) (o r : Option ℕ) → IfSome o IsShort → IfSome r IsShort → a ++ spaced_or_dash o ≡ b ++ spaced_or_dash r → (a ≡ b) × (o ≡ r)
last_or_dash a b o r p q e =
    let parts = part_last 32 a b (word_of o) (word_of r) (word_not o) (word_not r)
    (ap (λ w. a ++ w) (sym (spaced_word o)) ∙ e ∙ ap (λ w. b ++ w) (spaced_word r)) in
    (parts.0, word_differs o r p q parts.1)

-- the first byte of an entry's words
first_byte : Entry → ℕ
first_byte (Grant id client pages limit) = 103
first_byte (Reduced limit now after least) = 114
first_byte (Purge id known) = 112
first_byte (Back id) = 98

begins : (e : Entry) → get_or (words_of e) 0 0 ≡ first_byte e
unfolding first_byte
begins (Grant id client pages limit) = refl
begins (Reduced limit now after least) = refl
begins (Purge id known) = refl
begins (Back id) = refl

same_first : (e f : Entry) → words_of e ≡ words_of f → first_byte e ≡ first_byte f
same_first e f is = sym (begins e) ∙ ap (λ w. get_or w 0 0) is ∙ begins f

-- two entries are not written the same
words_differ : (e f : Entry) → Fits e → Fits f → words_of e ≡ words_of f → e ≡ f
unfolding first_byte
words_differ (Grant id client pages limit) (Grant id2 client2 pages2 limit2) p q is =
    let fourth = last_number _ _ limit limit2 p.3 q.3 is in
    let third = last_number _ _ pages pages2 p.2 q.2 fourth.0 in
    let second = last_number _ _ client client2 p.1 q.1 third.0 in
    let first = last_number (codes "grant") (codes "grant") id id2 p.0 q.0 second.0 in
    ap (λ n. Grant n client pages limit) first.1 ∙ ap (λ n. Grant id2 n pages limit) second.1
    ∙ ap (λ n. Grant id2 client2 n limit) third.1 ∙ ap (λ n. Grant id2 client2 pages2 n) fourth.1
words_differ (Reduced limit now after least) (Reduced limit2 now2 after2 least2) p q is =
    let fourth = last_or_dash _ _ least least2 p.3 q.3 is in
    let third = last_number _ _ after after2 p.2 q.2 fourth.0 in
    let second = last_number _ _ now now2 p.1 q.1 third.0 in
    let first = last_number (codes "reduced") (codes "reduced") limit limit2 p.0 q.0 second.0 in
    ap (λ n. Reduced n now after least) first.1 ∙ ap (λ n. Reduced limit2 n after least) second.1
    ∙ ap (λ n. Reduced limit2 now2 n least) third.1 ∙ ap (λ o. Reduced limit2 now2 after2 o) fourth.1
words_differ (Purge id known) (Purge id2 known2) p q is =
    let second = last_number _ _ known known2 p.1 q.1 is in
    let first = last_number (codes "purge") (codes "purge") id id2 p.0 q.0 second.0 in
    ap (λ n. Purge n known) first.1 ∙ ap (λ n. Purge id2 n) second.1
words_differ (Back id) (Back id2) p q is = ap (λ n. Back n) (last_number (codes "back") (codes "back") id id2 p q is).1
words_differ (Grant id client pages limit) (Reduced limit2 now2 after2 least2) p q is = absurd (let same : ◌≡◌ {A = ℕ} 103 114 = same_first (Grant id client pages limit) (Reduced limit2 now2 after2 least2) is in omega arith)
words_differ (Grant id client pages limit) (Purge id2 known2) p q is = absurd (let same : ◌≡◌ {A = ℕ} 103 112 = same_first (Grant id client pages limit) (Purge id2 known2) is in omega arith)
words_differ (Grant id client pages limit) (Back id2) p q is = absurd (let same : ◌≡◌ {A = ℕ} 103 98 = same_first (Grant id client pages limit) (Back id2) is in omega arith)
words_differ (Reduced limit now after least) (Grant id2 client2 pages2 limit2) p q is = absurd (let same : ◌≡◌ {A = ℕ} 114 103 = same_first (Reduced limit now after least) (Grant id2 client2 pages2 limit2) is in omega arith)
words_differ (Reduced limit now after least) (Purge id2 known2) p q is = absurd (let same : ◌≡◌ {A = ℕ} 114 112 = same_first (Reduced limit now after least) (Purge id2 known2) is in omega arith)
words_differ (Reduced limit now after least) (Back id2) p q is = absurd (let same : ◌≡◌ {A = ℕ} 114 98 = same_first (Reduced limit now after least) (Back id2) is in omega arith)
words_differ (Purge id known) (Grant id2 client2 pages2 limit2) p q is = absurd (let same : ◌≡◌ {A = ℕ} 112 103 = same_first (Purge id known) (Grant id2 client2 pages2 limit2) is in omega arith)
words_differ (Purge id known) (Reduced limit2 now2 after2 least2) p q is = absurd (let same : ◌≡◌ {A = ℕ} 112 114 = same_first (Purge id known) (Reduced limit2 now2 after2 least2) is in omega arith)
words_differ (Purge id known) (Back id2) p q is = absurd (let same : ◌≡◌ {A = ℕ} 112 98 = same_first (Purge id known) (Back id2) is in omega arith)
words_differ (Back id) (Grant id2 client2 pages2 limit2) p q is = absurd (let same : ◌≡◌ {A = ℕ} 98 103 = same_first (Back id) (Grant id2 client2 pages2 limit2) is in omega arith)
words_differ (Back id) (Reduced limit2 now2 after2 least2) p q is = absurd (let same : ◌≡◌ {A = ℕ} 98 114 = same_first (Back id) (Reduced limit2 now2 after2 least2) is in omega arith)
words_differ (Back id) (Purge id2 known2) p q is = absurd (let same : ◌≡◌ {A = ℕ} 98 112 = same_first (Back id) (Purge id2 known2) is in omega arith)

words_not : (e : Entry) → HasNo 10 (words_of e)
words_not (Grant id client pages limit) =
    joined (codes "grant" ++ spaced id ++ spaced client ++ spaced pages) (spaced limit)
    (joined (codes "grant" ++ spaced id ++ spaced client) (spaced pages)
    (joined (codes "grant" ++ spaced id) (spaced client) (joined (codes "grant") (spaced id) refl (number_not id)) (number_not client)) (number_not pages)) (number_not limit)
  where
    joined : (xs ys : List ℕ) → HasNo 10 xs → HasNo 10 ys → HasNo 10 (xs ++ ys)
    joined xs ys p q = joined_not 10 xs ys p q

    number_not : (n : ℕ) → HasNo 10 (spaced n)
    number_not n = decimal_not 10 n (omega arith)
words_not (Reduced limit now after least) =
    joined_not 10 (codes "reduced" ++ spaced limit ++ spaced now ++ spaced after) (spaced_or_dash least)
    (joined_not 10 (codes "reduced" ++ spaced limit ++ spaced now) (spaced after)
    (joined_not 10 (codes "reduced" ++ spaced limit) (spaced now) (joined_not 10 (codes "reduced") (spaced limit) refl (decimal_not 10 limit (omega arith)))
    (decimal_not 10 now (omega arith))) (decimal_not 10 after (omega arith))) (or_dash least)
  where
    or_dash : (o : Option ℕ) → HasNo 10 (spaced_or_dash o)
    or_dash None = refl
    or_dash (Some n) = decimal_not 10 n (omega arith)
words_not (Purge id known) =
    joined_not 10 (codes "purge" ++ spaced id) (spaced known) (joined_not 10 (codes "purge") (spaced id) refl (decimal_not 10 id (omega arith))) (decimal_not 10 known (omega arith))
words_not (Back id) = joined_not 10 (codes "back") (spaced id) refl (decimal_not 10 id (omega arith))

-- a line of words and what stands behind it
line_parts : (words rest : List ℕ) → (words ++ 10 ∷ []) ++ rest ≡ words ++ 10 ∷ rest
line_parts words rest = append_assoc words (10 ∷ []) rest

line_begins : (e : Entry) (rest : List ℕ) → get_or (line_of e ++ rest) 0 0 ≡ first_byte e
unfolding first_byte
line_begins (Grant id client pages limit) rest = refl
line_begins (Reduced limit now after least) rest = refl
line_begins (Purge id known) rest = refl
line_begins (Back id) rest = refl

no_line : (e : Entry) (rest : List ℕ) → [] ≡ line_of e ++ rest → ⊥
unfolding first_byte
no_line e rest is = some e (ap (λ l. get_or l 0 0) is ∙ line_begins e rest)
  where
    some : (f : Entry) → ◌≡◌ {A = ℕ} 0 (first_byte f) → ⊥
    some (Grant id client pages limit) same = omega arith
    some (Reduced limit now after least) same = omega arith
    some (Purge id known) same = omega arith
    some (Back id) same = omega arith

-- two books are not written the same
pub books_differ : (es fs : List Entry) → All Fits es → All Fits fs → text_of es ≡ text_of fs → es ≡ fs
books_differ [] [] p q is = refl
books_differ [] (f ∷ fs) p q is = absurd (no_line f (text_of fs) is)
books_differ (e ∷ es) [] p q is = absurd (no_line e (text_of es) (sym is))
books_differ (e ∷ es) (f ∷ fs) p q is =
    let parts = part_first 10 (words_of e) (words_of f) (text_of es) (text_of fs) (words_not e) (words_not f)
    (sym (line_parts (words_of e) (text_of es)) ∙ is ∙ line_parts (words_of f) (text_of fs)) in
    ap (λ x. x ∷ es) (words_differ e f (All-head Fits e es p) (All-head Fits f fs q) parts.0)
    ∙ ap (λ xs. f ∷ xs) (books_differ es fs (All-tail Fits e es p) (All-tail Fits f fs q) parts.1)

-- two records are not written the same
pub records_differ : (words said : List ℕ) (more added : List Entry) → HasNo 10 words → HasNo 10 said → All Fits more → All Fits added
    → record_text words more ≡ record_text said added → (words ≡ said) × (more ≡ added)
records_differ words said more added p q fits_more fits_added is =
    let parts = part_first 10 words said (text_of more) (text_of added) p q
    (sym (line_parts words (text_of more)) ∙ is ∙ line_parts said (text_of added)) in
    (parts.0, books_differ more added fits_more fits_added parts.1)
