-- Words that are numbers in a range, and lines that are requests.
use Rattle.std.specs.Fmt.{decimal}
use Rattle.std.specs.Option.{ok_or}
use Rattle.std.proofs.Common.{◌≡◌, ℕ, ◌<◌, ◌≤◌, ◌^◌, nat_le, Bool, true, false, ◌&&◌, cond, List, [], ◌∷◌, length, Option, Some, None, Result, Ok, Err, refl, subst, arith, slice_get}
use Rattle.std.proofs.lemmas.Bool.Decides.{nat_tests}
use Rattle.line_text.specs.declared.cause.Cause.{Cause}
use Rattle.line_text.specs.declared.cause.Cause.TheVariants as cause
use Rattle.line_text.specs.Laws.{EachNumberHasOneSpelling}
use Rattle.line_text.specs.Number.{number_of, within}
use Rattle.line_text.specs.Refusals.{◌>>=◌, number}
use Rattle.tile_source.specs.declared.limits.TheConstants.{MOST_ZOOM, LAST_TILE}
use Rattle.request_text.specs.declared.limits.TheConstants.{MOST_REQUESTS}
use Rattle.request_text.specs.declared.request.Request.{Request}
use Rattle.request_text.specs.Requests.{IsRequest, request_of, next_request}
use Rattle.request_text.specs.Grammar.{spelling}

-- what a first step gave, and what the second made of it
pub bind_ok : {A B E : Type 0} (r : Result A E) (f : A → Result B E) (y : B) → (r >>= f) ≡ Ok y → (x : A) × (r ≡ Ok x) × (f x ≡ Ok y)
bind_ok (Ok x) f y e = (x, refl, e)
bind_ok (Err e) f y h = cc

ok_same : {A E : Type 0} (P : A → Type 0) (x y : A) (r : Result A E) → r ≡ Ok y → r ≡ Ok x → P x → P y
ok_same P x y r e f p = subst P (let same : x ≡ y = cc in same) p

-- four words by their places
some_same : (x y : List ℕ) → Some x ≡ Some y → x ≡ y
some_same x y e = cc

pub four_by_places : (words : List (List ℕ)) (a b c d : List ℕ) → length words ≡ 4 → slice_get words 0 ≡ Some a → slice_get words 1 ≡ Some b → slice_get words 2 ≡ Some c → slice_get words 3 ≡ Some d → words ≡ a ∷ b ∷ c ∷ d ∷ []
four_by_places [] a b c d long first second third fourth = absurd (omega (arith, long))
four_by_places (p ∷ []) a b c d long first second third fourth = absurd (omega (arith, long))
four_by_places (p ∷ q ∷ []) a b c d long first second third fourth = absurd (omega (arith, long))
four_by_places (p ∷ q ∷ r ∷ []) a b c d long first second third fourth = absurd (omega (arith, long))
four_by_places (p ∷ q ∷ r ∷ s ∷ []) a b c d long first second third fourth =
    rw (some_same p a first, some_same q b second, some_same r c third, some_same s d fourth) refl
four_by_places (p ∷ q ∷ r ∷ s ∷ t ∷ words) a b c d long first second third fourth = absurd (omega (arith, long))

-- a number that was taken lies in its range
taken : (least most m : ℕ) (b : Bool) (n : ℕ) → (nat_le least m && nat_le m most) ≡ b → ok_or (cond b (Some m) None) cause.Number ≡ Ok n → (Some m ≡ Some n) × (least ≤ n) × (n ≤ most)
taken least most m true n test e =
    ok_same (λ k. (Some m ≡ Some k) × (least ≤ k) × (k ≤ most)) m n (Ok m) e refl (refl, grind (arith, nat_tests), grind (arith, nat_tests))
taken least most m false n test e = cc

found : (least most : ℕ) (o : Option ℕ) (n : ℕ) → ok_or (within least most o) cause.Number ≡ Ok n → (o ≡ Some n) × (least ≤ n) × (n ≤ most)
found least most None n e = cc
found least most (Some m) n e = taken least most m (nat_le least m && nat_le m most) n refl e

pub number_found : (word : List ℕ) (least most n : ℕ) → number word least most ≡ Ok n → (number_of word ≡ Some n) × (least ≤ n) × (n ≤ most)
number_found word least most n e = found least most (number_of word) n e

-- and is spelled by its digits
number_spelled : EachNumberHasOneSpelling → (word : List ℕ) (n : ℕ) → number_of word ≡ Some n → word ≡ decimal n
number_spelled spell word n e = ((spell word n).0 e).1

number_read : EachNumberHasOneSpelling → (least most n : ℕ) → n < 2 ^ 64 → least ≤ n → n ≤ most → number (decimal n) least most ≡ Ok n
number_read spell least most n short low high =
    let known : number_of (decimal n) ≡ Some n = (spell (decimal n) n).1 (short, refl) in
    let yes : (nat_le least n && nat_le n most) ≡ true = grind (arith, nat_tests) in
    rw (known, yes) refl

-- the four numbers of a request, each in its range
record AreNumbers (clients : ℕ) (c zoom column row : List ℕ) (r : Request) : Type 0 where
  client : (number_of c ≡ Some r.client) × (1 ≤ r.client) × (r.client ≤ clients)
  z : (number_of zoom ≡ Some r.tile.z) × (0 ≤ r.tile.z) × (r.tile.z ≤ MOST_ZOOM)
  x : (number_of column ≡ Some r.tile.x) × (0 ≤ r.tile.x) × (r.tile.x ≤ LAST_TILE)
  y : (number_of row ≡ Some r.tile.y) × (0 ≤ r.tile.y) × (r.tile.y ≤ LAST_TILE)

numbers_read : (clients : ℕ) (c zoom column row : List ℕ) (r : Request) → request_of clients (c ∷ zoom ∷ column ∷ row ∷ []) ≡ Ok r → AreNumbers clients c zoom column row r
numbers_read clients c zoom column row r e =
    let client = bind_ok (number c 1 clients) _ r e in
    let z = bind_ok (number zoom 0 MOST_ZOOM) _ r client.2 in
    let x = bind_ok (number column 0 LAST_TILE) _ r z.2 in
    let y = bind_ok (number row 0 LAST_TILE) _ r x.2 in
    let read : Request = record { client = client.0; tile = record { z = z.0; x = x.0; y = y.0 } } in
    ok_same (AreNumbers clients c zoom column row) read r (Ok read) y.2 refl (record {
      client = number_found c 1 clients client.0 client.1;
      z = number_found zoom 0 MOST_ZOOM z.0 z.1;
      x = number_found column 0 LAST_TILE x.0 x.1;
      y = number_found row 0 LAST_TILE y.0 y.1;
    })

-- a line that is a request is one of so many clients
pub request_lawful : (clients : ℕ) (words : List (List ℕ)) (r : Request) → request_of clients words ≡ Ok r → IsRequest clients r
request_lawful clients (c ∷ zoom ∷ column ∷ row ∷ []) r e =
    let n = numbers_read clients c zoom column row r e in
    (n.client.1, n.client.2, (n.z.2, n.x.2, n.y.2))
request_lawful clients _ r e = cc

-- and spells it
pub request_spelled : EachNumberHasOneSpelling → (clients : ℕ) (words : List (List ℕ)) (r : Request) → request_of clients words ≡ Ok r → words ≡ spelling r
request_spelled spell clients (c ∷ zoom ∷ column ∷ row ∷ []) r e =
    let n = numbers_read clients c zoom column row r e in
    rw (number_spelled spell c _ n.client.0, number_spelled spell zoom _ n.z.0, number_spelled spell column _ n.x.0, number_spelled spell row _ n.y.0) refl
request_spelled spell clients _ r e = cc

-- what spells a request is read as it
pub spelling_read : EachNumberHasOneSpelling → (clients : ℕ) (r : Request) → clients < 2 ^ 32 → IsRequest clients r → request_of clients (spelling r) ≡ Ok r
spelling_read spell clients r few lawful =
    rw (
      number_read spell 1 clients r.client (omega (arith, few, lawful.1)) lawful.0 lawful.1,
      number_read spell 0 MOST_ZOOM r.tile.z (omega (arith, lawful.2.0)) (omega arith) lawful.2.0,
      number_read spell 0 LAST_TILE r.tile.x (omega (arith, lawful.2.1)) (omega arith) lawful.2.1,
      number_read spell 0 LAST_TILE r.tile.y (omega (arith, lawful.2.2)) (omega arith) lawful.2.2,
    )
    refl

-- ---- with those that stand before

tested : (t : Bool) (d r : Request) → ◌≡◌ {A = Result Request Cause} (cond t (Err cause.Many) (Ok d)) (Ok r) → (t ≡ false) × (d ≡ r)
tested true d r e = absurd cc
tested false d r e = (refl, cc)

-- a line that is the next request
pub next_parts : (clients before : ℕ) (words : List (List ℕ)) (r : Request) → next_request clients before words ≡ Ok r → (request_of clients words ≡ Ok r) × (before < MOST_REQUESTS)
next_parts clients before words r e =
    let first = bind_ok (request_of clients words) _ r e in
    let test = tested (nat_le MOST_REQUESTS before) first.0 r first.2 in
    (subst (λ (x : Request). request_of clients words ≡ Ok x) test.1 first.1, room before test.0)
  where
    room : (n : ℕ) → nat_le MOST_REQUESTS n ≡ false → n < MOST_REQUESTS
    room n test = grind (arith, nat_tests)

pub next_read : (clients before : ℕ) (words : List (List ℕ)) (r : Request) → request_of clients words ≡ Ok r → before < MOST_REQUESTS → next_request clients before words ≡ Ok r
next_read clients before words r e few =
    let room : nat_le MOST_REQUESTS before ≡ false = grind (arith, nat_tests) in
    rw (e, room) refl
