-- What a word is, for `clap` and for the grammar.
use Rattle.std.proofs.Common.{◌≡◌, ◌⊎◌, inl, inr, ℕ, Bool, true, false, List, [], ◌∷◌, Option, Some, None, is_some, refl, sym, ap, ◌∙◌, subst, nat_eq, eqb-true, arith}
use Rattle.std.specs.Char.{encode_utf8}
use Rattle.std.specs.Prelude.{slice_get}
use Rattle.std.specs.List.{before_first, after_first, position}
use Rattle.std.specs.Str.{IsUtf8, chars, encode_utf8_all}
use Rattle.std.proofs.lemmas.Str.{chars-encodes}
use Rattle.std.proofs.lemmas.Bool.{true≢false}
use Rattle.std.proofs.lemmas.Bool.Decides.{nat_tests}
use Rattle.clap.specs.Lexer.{has_byte, long_of, short_of}
use Rattle.command_line.specs.Words.{given_from, is_dashed, is_end, is_equals, name_in, only_positional, place_in, with_option, with_positional}
use Rattle.command_line.proofs.Options.{any_position}

pub data Sort (names : List (List ℕ)) (word : List ℕ) : Type 0 where
  ends : is_end word ≡ true → is_dashed word ≡ true → ((rest : List (List ℕ)) → given_from names None (word ∷ rest) ≡ Some (only_positional rest)) → Sort names word
  assigned : is_end word ≡ false → is_dashed word ≡ true → (name value : List ℕ) → is_some (place_in names name) ≡ true → long_of word ≡ Some (name, Some value)
      → ((rest : List (List ℕ)) → given_from names None (word ∷ rest) ≡ with_option name value (given_from names None rest)) → Sort names word
  named : is_end word ≡ false → is_dashed word ≡ true → (name : List ℕ) → is_some (place_in names name) ≡ true → long_of word ≡ Some (name, None)
      → ((rest : List (List ℕ)) → given_from names None (word ∷ rest) ≡ given_from names (Some name) rest) → Sort names word
  unknown : is_end word ≡ false → is_dashed word ≡ true → (name : List ℕ) (value : Option (List ℕ)) → is_some (place_in names name) ≡ false → long_of word ≡ Some (name, value)
      → ((rest : List (List ℕ)) → given_from names None (word ∷ rest) ≡ None) → Sort names word
  short : is_end word ≡ false → is_dashed word ≡ true → long_of word ≡ None → (byte : ℕ) (bytes : List ℕ) (letter : ℕ) → short_of word ≡ Some (byte ∷ bytes) → slice_get (chars (byte ∷ bytes)) 0 ≡ Some letter
      → ((rest : List (List ℕ)) → given_from names None (word ∷ rest) ≡ None) → Sort names word
  positional : is_end word ≡ false → long_of word ≡ None → short_of word ≡ None
      → ((rest : List (List ℕ)) → given_from names None (word ∷ rest) ≡ with_positional word (given_from names None rest)) → Sort names word

-- the byte is `-`, or no test says so
is_minus : (byte : ℕ) → (byte ≡ 45) ⊎ ((nat_eq byte 45 ≡ false) × (nat_eq 45 byte ≡ false))
is_minus byte = go (nat_eq byte 45) refl
  where
    go : (t : Bool) → nat_eq byte 45 ≡ t → (byte ≡ 45) ⊎ ((nat_eq byte 45 ≡ false) × (nat_eq 45 byte ≡ false))
    go true is = inl (eqb-true byte 45 is)
    go false is = inr (is, grind (arith, nat_tests))

-- a text behind a `-` has a first character
first_letter : (byte : ℕ) (bytes : List ℕ) → IsUtf8 (45 ∷ byte ∷ bytes) → (letter : ℕ) × (slice_get (chars (byte ∷ bytes)) 0 ≡ Some letter)
unfolding chars encode_utf8
first_letter byte bytes text = go (chars (byte ∷ bytes)) refl
  where
    all : 45 ∷ chars (byte ∷ bytes) ≡ text.0
    all = ap chars (sym text.1.1) ∙ chars-encodes text.0 text.1.0

    go : (letters : List ℕ) → chars (byte ∷ bytes) ≡ letters → (letter : ℕ) × (slice_get (chars (byte ∷ bytes)) 0 ≡ Some letter)
    go (letter ∷ letters) is = (letter, rw is refl)
    go [] is =
        let spelt : encode_utf8_all (45 ∷ []) ≡ 45 ∷ byte ∷ bytes = ap encode_utf8_all (ap (λ (l : List ℕ). 45 ∷ l) (sym is) ∙ all) ∙ text.1.1 in
        absurd (true≢false (sym (ap second_stands spelt)))
      where
        second_stands : List ℕ → Bool
        second_stands (a ∷ b ∷ rest) = true
        second_stands _ = false

-- `--` and a name
long_word : (names : List (List ℕ)) (byte : ℕ) (bytes : List ℕ) → Sort names (45 ∷ 45 ∷ byte ∷ bytes)
long_word names byte bytes = go (is_some (place_in names (name_in (45 ∷ 45 ∷ byte ∷ bytes)))) refl (is_some (position is_equals (byte ∷ bytes))) refl
  where
    word : List ℕ
    word = 45 ∷ 45 ∷ byte ∷ bytes

    tests : has_byte 61 (byte ∷ bytes) ≡ is_some (position is_equals (byte ∷ bytes))
    tests = sym (any_position is_equals (byte ∷ bytes))

    go : (known : Bool) → is_some (place_in names (name_in (45 ∷ 45 ∷ byte ∷ bytes))) ≡ known → (value : Bool) → is_some (position is_equals (byte ∷ bytes)) ≡ value
        → Sort names (45 ∷ 45 ∷ byte ∷ bytes)
    go false known value has = unknown refl refl (before_first is_equals (byte ∷ bytes)) _ known refl (λ rest. rw known refl)
    go true known true has = assigned refl refl (before_first is_equals (byte ∷ bytes)) (after_first is_equals (byte ∷ bytes)) known (rw (tests ∙ has) refl) (λ rest. rw (known, has) refl)
    go true known false has = named refl refl (before_first is_equals (byte ∷ bytes)) known (rw (tests ∙ has) refl) (λ rest. rw (known, has) refl)

after_minus : (names : List (List ℕ)) (rest : List ℕ) → IsUtf8 (45 ∷ rest) → Sort names (45 ∷ rest)
after_minus names [] text = positional refl refl refl (λ rest. refl)
after_minus names (byte ∷ bytes) text = elim (is_minus byte) [
  | inl is ↦ subst (λ (b : ℕ). Sort names (45 ∷ b ∷ bytes)) (sym is) (two bytes)
  | inr other ↦ let letter = first_letter byte bytes text in
      short (rw other.0 refl) refl (rw other.0 refl) byte bytes letter.0 (rw other.0 refl) letter.1 (λ rest. rw (other.0, other.1) refl)
]
  where
    two : (bytes : List ℕ) → Sort names (45 ∷ 45 ∷ bytes)
    two [] = ends refl refl (λ rest. refl)
    two (b ∷ bs) = long_word names b bs

pub sort_of : (names : List (List ℕ)) (word : List ℕ) → IsUtf8 word → Sort names word
sort_of names [] text = positional refl refl refl (λ rest. refl)
sort_of names (byte ∷ bytes) text = elim (is_minus byte) [
  | inl is ↦ subst (λ (b : ℕ). Sort names (b ∷ bytes)) (sym is) (after_minus names bytes (subst (λ (b : ℕ). IsUtf8 (b ∷ bytes)) is text))
  | inr other ↦ plain bytes other
]
  where
    plain : (bytes : List ℕ) → (nat_eq byte 45 ≡ false) × (nat_eq 45 byte ≡ false) → Sort names (byte ∷ bytes)
    plain [] other = positional (rw other.0 refl) (rw other.0 refl) (rw other.0 refl) (λ rest. rw (other.0, other.1) refl)
    plain (b ∷ bs) other = positional (rw other.0 refl) (rw other.0 refl) (rw other.0 refl) (λ rest. rw (other.0, other.1) refl)
