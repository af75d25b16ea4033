-- A word written between two separators is read again.
use Rattle.std.proofs.Common.{◌≡◌, ℕ, ◌/◌, ◌%◌, ◌<◌, ◌≤◌, ◌^◌, zero, suc, Bool, true, false, not, List, [], ◌∷◌, ◌++◌, Some, None, refl, sym, ap, ◌∙◌, arith, decimal, eq-eqb, eqb-true}
use Rattle.std.specs.Prelude.{◌==◌, nat_lt, slice_index, bytes_eq, codes}
use Rattle.std.specs.List.{list_all}
use Rattle.std.specs.Char.{is_ascii_digit}
use Rattle.std.specs.Cmp.Lexicographic.{same_text}
use Rattle.std.proofs.lemmas.Bool.{and_parts, le-ltb}
use Rattle.std.proofs.lemmas.List.Folds.{list_all-append}
use Rattle.hex.specs.Hex.{encode_with, encode_lower, lower_digits}
use Rattle.cg_types.specs.Numbers.{IsEndpoint, IsGeneration, IsKey, address_of, port_of}
use Rattle.cg_types.specs.EndpointText.{endpoint_text}
use Rattle.cg_types.specs.Text.{plain, printable}
use Rattle.std.specs.Str.{is_utf8}
use Rattle.cg_types.specs.Words.{cut_at, number_of, number_between, generation_in, key_in}
use Rattle.cg_types.proofs.RisingLemmas.{both}
use Rattle.cg_types.proofs.WordLemmas.{number_of-decimal, digits_of_decimal}

-- ---- a word that lacks a byte

-- `true` if none of the bytes is this one
abbrev pub lacks : ℕ → List ℕ → Bool
lacks c word = list_all (λ b. not (b == c)) word

not_true : (b : Bool) → not b ≡ true → b ≡ false
not_true true e = absurd cc
not_true false e = refl

pub cut_at-word : (c : ℕ) (word rest : List ℕ) → lacks c word ≡ true → cut_at c (word ++ (c ∷ rest)) ≡ Some (word, rest)
cut_at-word c [] rest h = rw (eq-eqb c c refl) refl
cut_at-word c (b ∷ word) rest h =
    let parts = and_parts (not (b == c)) (lacks c word) h in
    rw (not_true (b == c) parts.0, cut_at-word c word rest parts.1) refl

pub cut_at-none : (c : ℕ) (word : List ℕ) → lacks c word ≡ true → cut_at c word ≡ None
cut_at-none c [] h = refl
cut_at-none c (b ∷ word) h =
    let parts = and_parts (not (b == c)) (lacks c word) h in
    rw (not_true (b == c) parts.0, cut_at-none c word parts.1) refl

pub lacks-append : (c : ℕ) (xs ys : List ℕ) → lacks c xs ≡ true → lacks c ys ≡ true → lacks c (xs ++ ys) ≡ true
lacks-append c xs ys p q = list_all-append (λ (b : ℕ). not (b == c)) xs ys ∙ both (lacks c xs) (lacks c ys) p q

-- A byte that a test separates from others is none of those.
other_by : (p : ℕ → Bool) (t : Bool) (c d : ℕ) → (d == c) ≡ t → p c ≡ false → p d ≡ true → not t ≡ true
other_by p false c d is none some = refl
other_by p true c d is none some = let same : p d ≡ p c = ap p (eqb-true d c is) in absurd cc

pub lacks-where : (p : ℕ → Bool) (c : ℕ) → p c ≡ false → (word : List ℕ) → list_all p word ≡ true → lacks c word ≡ true
lacks-where p c none [] h = refl
lacks-where p c none (d ∷ word) h =
    let parts = and_parts (p d) (list_all p word) h in
    both (not (d == c)) (lacks c word) (other_by p (d == c) c d refl none parts.0) (lacks-where p c none word parts.1)

pub lacks-decimal : (c n : ℕ) → is_ascii_digit c ≡ false → n < 2 ^ 64 → lacks c (decimal n) ≡ true
lacks-decimal c n none lt = lacks-where is_ascii_digit c none (decimal n) (digits_of_decimal n lt)

-- a number, and the text after the byte that follows it
pub lacks-number : (c n at : ℕ) (rest : List ℕ) → is_ascii_digit c ≡ false → not (at == c) ≡ true → n < 2 ^ 64 → lacks c rest ≡ true
    → lacks c (decimal n ++ (at ∷ rest)) ≡ true
lacks-number c n at rest none other lt h =
    lacks-append c (decimal n) (at ∷ rest) (lacks-decimal c n none lt) (both (not (at == c)) (lacks c rest) other h)

pub lacks-endpoint : (c e : ℕ) → is_ascii_digit c ≡ false → not (46 == c) ≡ true → not (58 == c) ≡ true → IsEndpoint e
    → lacks c (endpoint_text e) ≡ true
unfolding endpoint_text
lacks-endpoint c e none dot colon is =
    lacks-number c (address_of e / 16777216) 46 _ none dot (omega (arith, is.0))
    (lacks-number c (address_of e / 65536 % 256) 46 _ none dot (omega arith)
    (lacks-number c (address_of e / 256 % 256) 46 _ none dot (omega arith)
    (lacks-number c (address_of e % 256) 58 _ none colon (omega arith) (lacks-decimal c (port_of e) none (omega arith)))))

-- a byte at some place, or 0
lacks-at : (c : ℕ) → not (0 == c) ≡ true → (t : List ℕ) (i : ℕ) → lacks c t ≡ true → not (slice_index t i == c) ≡ true
lacks-at c some [] i h = some
lacks-at c some (x ∷ t) zero h = (and_parts (not (x == c)) (lacks c t) h).0
lacks-at c some (x ∷ t) (suc i) h = lacks-at c some t i (and_parts (not (x == c)) (lacks c t) h).1

lacks-encoded : (c : ℕ) (t : List ℕ) → not (0 == c) ≡ true → lacks c t ≡ true → (bytes : List ℕ) → lacks c (encode_with t bytes) ≡ true
unfolding encode_with
lacks-encoded c t some h [] = refl
lacks-encoded c t some h (b ∷ bytes) =
    both (not (slice_index t (b / 16) == c)) (lacks c (slice_index t (b % 16) ∷ encode_with t bytes)) (lacks-at c some t (b / 16) h)
    (both (not (slice_index t (b % 16) == c)) (lacks c (encode_with t bytes)) (lacks-at c some t (b % 16) h) (lacks-encoded c t some h bytes))

pub lacks-hex : (c : ℕ) → not (0 == c) ≡ true → lacks c lower_digits ≡ true → (bytes : List ℕ) → lacks c (encode_lower bytes) ≡ true
lacks-hex c some h bytes = lacks-encoded c lower_digits some h bytes

-- Plain text has no line feed.
pub lacks-plain : (text : List ℕ) → plain text ≡ true → lacks 10 text ≡ true
lacks-plain text h = lacks-where _ 10 refl text (and_parts (is_utf8 text) (printable text) h).1

-- A word with no dash is not the dash.
pub is_no_dash : (word : List ℕ) → lacks 45 word ≡ true → bytes_eq word (codes "-") ≡ false
is_no_dash word h =
    elim (bytes_eq word (codes "-")) as (λ (b : Bool). bytes_eq word (codes "-") ≡ b → b ≡ false) [
      | true ↦ λ e. let same : word ≡ codes "-" = same_text word (codes "-") (sym e) in let none : lacks 45 word ≡ false = ap (lacks 45) same in absurd cc
      | false ↦ λ e. refl
    ] refl

-- ---- numbers

between-decimal : (least most n : ℕ) → most < 2 ^ 64 → least ≤ n → n ≤ most → number_between least most (decimal n) ≡ Some n
unfolding number_between
between-decimal least most n small low high =
    let found : number_of most (decimal n) ≡ Some n = number_of-decimal most n small high in
    let not_less : nat_lt n least ≡ false = le-ltb n least low in
    rw (found, not_less) refl

pub generation_in-decimal : (n : ℕ) → IsGeneration n → generation_in (decimal n) ≡ Some n
generation_in-decimal n is = between-decimal 1 _ n (omega arith) (omega (arith, is.0)) (omega (arith, is.1))

pub key_in-decimal : (n : ℕ) → IsKey n → key_in (decimal n) ≡ Some n
key_in-decimal n is = between-decimal 1 _ n (omega arith) (omega (arith, is.0)) (omega (arith, is.1))
