-- Options, each with its name and its value.
use Rattle.std.proofs.Common.{◌≡◌, ℕ, Bool, true, false, not, ◌&&◌, ◌||◌, if◌then◌else◌, cond, List, [], ◌∷◌, ◌++◌, Option, Some, None, is_some, refl, sym, ◌∙◌, bytes_eq, nat_lt, suc, length, ◌<◌, ◌≤◌, ◌+◌, arith}
use Rattle.std.specs.List.{list_any, position, position_or_len}
use Rattle.std.proofs.lemmas.Option.{none-some}
use Rattle.std.proofs.lemmas.Bool.{false_from_ne_true, true≢false, and_parts, lt-ltb, le-ltb, ltb-true, ltb-false}
use Rattle.std.proofs.lemmas.Slice.Eq.{bytes_eq-Decides}
use Rattle.command_line.specs.Words.{value_of, has_option, stand_once}

abbrev pub Options : Type 0
Options = List (List ℕ × List ℕ)

pub same_text : (text : List ℕ) → bytes_eq text text ≡ true
same_text text = (bytes_eq-Decides text text).1 refl

pub one_text : (a b : List ℕ) → bytes_eq a b ≡ true → a ≡ b
one_text a b same = (bytes_eq-Decides a b).0 same

pub other_way : (a b : List ℕ) → bytes_eq a b ≡ false → bytes_eq b a ≡ false
other_way a b differ =
    false_from_ne_true (bytes_eq b a) (λ is. true≢false (sym ((bytes_eq-Decides a b).1 (sym ((bytes_eq-Decides b a).0 is))) ∙ differ))

lt_next : (a b : ℕ) → nat_lt (1 + a) (suc b) ≡ nat_lt a b
lt_next a b = go (nat_lt a b) refl
  where
    go : (t : Bool) → nat_lt a b ≡ t → nat_lt (1 + a) (suc b) ≡ t
    go true is = let less : a < b = ltb-true a b is in lt-ltb (1 + a) (suc b) (omega (arith, less))
    go false is = let more : b ≤ a = ltb-false a b is in le-ltb (1 + a) (suc b) (omega (arith, more))

-- an element that passes has a place
pub any_position : {X : Type 0} (p : X → Bool) (xs : List X) → is_some (position p xs) ≡ list_any p xs
any_position p [] = refl
any_position p (x ∷ xs) = go (p x) (any_position p xs)
  where
    shifted : (b : Bool) → is_some (cond b (Some (position_or_len p xs)) None) ≡ list_any p xs → is_some (cond b (Some (1 + position_or_len p xs)) None) ≡ list_any p xs
    shifted true is = is
    shifted false is = is

    go : (t : Bool) → is_some (cond (nat_lt (position_or_len p xs) (length xs)) (Some (position_or_len p xs)) None) ≡ list_any p xs
        → is_some (cond (nat_lt (cond (not t) (1 + position_or_len p xs) 0) (suc (length xs))) (Some (cond (not t) (1 + position_or_len p xs) 0)) None) ≡ (t || list_any p xs)
    go true is = rw (lt-ltb 0 (suc (length xs)) (omega arith)) refl
    go false is = rw (lt_next (position_or_len p xs) (length xs)) (shifted (nat_lt (position_or_len p xs) (length xs)) is)

-- ---- the value of an option, with further options behind

-- the option in front has another name
not_first : (name : List ℕ) (x : List ℕ × List ℕ) (xs : Options) → value_of name (x ∷ xs) ≡ None → (bytes_eq x.0 name ≡ false) × (value_of name xs ≡ None)
not_first name x xs none = go (bytes_eq x.0 name) none refl
  where
    go : (t : Bool) → (if t then Some x.1 else value_of name xs) ≡ None → bytes_eq x.0 name ≡ t → (bytes_eq x.0 name ≡ false) × (value_of name xs ≡ None)
    go false left is = (is, left)
    go true left is = absurd (none-some x.1 (sym left))

pub value_behind : (name : List ℕ) (xs ys : Options) → value_of name xs ≡ None → value_of name (xs ++ ys) ≡ value_of name ys
value_behind name [] ys none = refl
value_behind name (x ∷ xs) ys none =
    let apart = not_first name x xs none in
    rw apart.0 (value_behind name xs ys apart.1)

value_in_front : (name : List ℕ) (xs ys : Options) → has_option name xs ≡ true → has_option name (xs ++ ys) ≡ true
value_in_front name [] ys some = absurd (true≢false (sym some))
value_in_front name (x ∷ xs) ys some = go (bytes_eq x.0 name) some (value_in_front name xs ys)
  where
    go : (t : Bool) → is_some (if t then Some x.1 else value_of name xs) ≡ true → (has_option name xs ≡ true → has_option name (xs ++ ys) ≡ true)
        → is_some (if t then Some x.1 else value_of name (xs ++ ys)) ≡ true
    go true is more = refl
    go false is more = more is

pub front_value : (name : List ℕ) (o : Option (List ℕ)) (xs ys : Options) → value_of name xs ≡ o → value_of name ys ≡ None → value_of name (xs ++ ys) ≡ o
front_value name o [] ys is none = none ∙ is
front_value name o (x ∷ xs) ys is none = go (bytes_eq x.0 name) is (λ left. front_value name o xs ys left none)
  where
    go : (t : Bool) → (if t then Some x.1 else value_of name xs) ≡ o → (value_of name xs ≡ o → value_of name (xs ++ ys) ≡ o)
        → (if t then Some x.1 else value_of name (xs ++ ys)) ≡ o
    go true left more = left
    go false left more = more left

pub none_of : (o : Option (List ℕ)) → is_some o ≡ false → o ≡ None
none_of None is = refl
none_of (Some x) is = absurd (true≢false is)

-- ---- no option stands twice

no_more : (o : Option (List ℕ)) → not (is_some o) ≡ true → o ≡ None
no_more None is = refl
no_more (Some x) is = absurd (true≢false (sym is))

pub once_more : (options : Options) (name value : List ℕ) → stand_once options ≡ true → value_of name options ≡ None → stand_once (options ++ (name, value) ∷ []) ≡ true
once_more [] name value once none = refl
once_more (x ∷ xs) name value once none =
    let apart = not_first name x xs none in
    let both = and_parts (not (has_option x.0 xs)) (stand_once xs) once in
    let behind : value_of x.0 (xs ++ (name, value) ∷ []) ≡ None =
    value_behind x.0 xs ((name, value) ∷ []) (no_more (value_of x.0 xs) both.0) ∙ rw (other_way x.0 name apart.0) refl in
    rw (behind, once_more xs name value both.1 apart.1) refl

last : (a b : Bool) → b ≡ false → (a && b) ≡ false
last true b is = is
last false b is = refl

first : (a b : Bool) → a ≡ true → (not a && b) ≡ false
first true b is = refl
first false b is = absurd (true≢false (sym is))

pub once_twice : (options rest : Options) (name value : List ℕ) → has_option name options ≡ true → stand_once (options ++ (name, value) ∷ rest) ≡ false
once_twice [] rest name value has = absurd (true≢false (sym has))
once_twice (x ∷ xs) rest name value has = go (bytes_eq x.0 name) has refl (once_twice xs rest name value)
  where
    there : bytes_eq x.0 name ≡ true → (u : Option (List ℕ)) → value_of x.0 xs ≡ u → has_option x.0 (xs ++ (name, value) ∷ rest) ≡ true
    there same None is =
        let name_is : x.0 ≡ name = one_text x.0 name same in
        let behind = value_behind x.0 xs ((name, value) ∷ rest) is in
        rw (behind, (bytes_eq-Decides name x.0).1 (sym name_is)) refl
    there same (Some v) is = value_in_front x.0 xs ((name, value) ∷ rest) (rw is refl)

    go : (t : Bool) → is_some (if t then Some x.1 else value_of name xs) ≡ true → bytes_eq x.0 name ≡ t
        → (has_option name xs ≡ true → stand_once (xs ++ (name, value) ∷ rest) ≡ false) → stand_once ((x ∷ xs) ++ (name, value) ∷ rest) ≡ false
    go false is differ more = last (not (has_option x.0 (xs ++ (name, value) ∷ rest))) (stand_once (xs ++ (name, value) ∷ rest)) (more is)
    go true is same more = first (has_option x.0 (xs ++ (name, value) ∷ rest)) (stand_once (xs ++ (name, value) ∷ rest)) (there same (value_of x.0 xs) refl)
