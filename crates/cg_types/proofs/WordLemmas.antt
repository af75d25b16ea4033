-- Laws of parts and numbers.
use Rattle.std.proofs.Common.{◌≡◌, ◌≢◌, ℕ, ◌+◌, ◌-◌, ◌*◌, ◌^◌, ◌<◌, ◌≤◌, Bool, true, false, cond, List, ◌++◌, length, take, get_or, Option, Some, None, refl, sym, ap, ◌∙◌, arith, decimal, rules, inl, inr, IfSome, IfNone}
use Rattle.std.specs.Prelude.{◌&&◌, nat_le, nat_lt}
use Rattle.std.specs.List.{list_all}
use Rattle.std.specs.Char.{is_ascii_digit, digit_value}
use Rattle.std.specs.Str.Parse.{digits_value}
use Rattle.std.proofs.lemmas.Bool.{cases_lt, and_parts, ltb-false, le-ltb}
use Rattle.std.proofs.lemmas.Fmt.{decimal-digits_value, digits_decimal, digits_value-decimal, decimal_nonempty, first_decimal, decimal_digit}
use Rattle.std.proofs.lemmas.Grind.{common_steps}
use Rattle.std.proofs.lemmas.Option.{same_Some}
use Rattle.std.proofs.lemmas.Int.Digits.{digits_value_more}
use Rattle.std.proofs.lemmas.List.Folds.{list_all_more}
use Rattle.std.proofs.lemmas.Str.Parse.{IsNumeralModel, IsDigitsTest, numerals_by_value, digits_value-take-le}
use Rattle.cg_types.specs.OptionSteps.{◌>>=◌}
use Rattle.cg_types.specs.Words.{number_of, is_number, number_between}

-- a part with more before it
abbrev pub with_front : List ℕ → Option (List ℕ × List ℕ) → Option (List ℕ × List ℕ)
with_front front None = None
with_front front (Some p) = Some (front ++ p.0, p.1)

-- digits, as std sees them
tells : IsDigitsTest (λ ds. list_all is_ascii_digit ds ≡ true)
tells = search rules

own : IsNumeralModel (λ ds. list_all is_ascii_digit ds ≡ true) (digits_value 10)
own = numerals_by_value _ tells

-- the facts of a text that is a number
pub record Canonical (text : List ℕ) : Type 0 where
  pub digits : list_all is_ascii_digit text ≡ true
  pub some : 0 < length text
  pub first : get_or text 0 0 ≡ 48 → length text ≡ 1

pub is_number-parts : (text : List ℕ) → is_number text ≡ true → Canonical text
is_number-parts text h = record { digits = (and_parts _ _ h).0; some = grind (arith, common_steps); first = grind (arith, common_steps) }

pub is_number-from : (text : List ℕ) → Canonical text → is_number text ≡ true
is_number-from text h = let d = h.digits in let s = h.some in let f = h.first in grind (arith, common_steps)

-- ---- the number of some digits, one after the other

some_guard : (b : Bool) (x n : ℕ) → cond b (Some x) None ≡ Some n → (b ≡ true) × (x ≡ n)
some_guard true x n e = (refl, cc)
some_guard false x n e = absurd cc

digit_here : (b : ℕ) → is_ascii_digit b ≡ true → digit_value b ≡ b - 48
digit_here b h = grind (arith, common_steps)

-- one more digit
pub value_more : (text : List ℕ) (i value byte digit : ℕ) → i < length text → list_all is_ascii_digit (take i text) ≡ true
    → value ≡ digits_value 10 (take i text) → byte ≡ get_or text i 0 → is_ascii_digit byte ≡ true → digit ≡ byte - 48
    → (list_all is_ascii_digit (take (i + 1) text) ≡ true) × (value * 10 + digit ≡ digits_value 10 (take (i + 1) text))
value_more text i value byte digit inside all is at ascii same =
    let here : is_ascii_digit (get_or text i 0) ≡ true = ap is_ascii_digit (sym at) ∙ ascii in
    let one : digit ≡ digit_value (get_or text i 0) = same ∙ sym (digit_here byte ascii) ∙ ap digit_value at in (
      list_all_more is_ascii_digit text i 0 inside ∙ rw (all, here) refl,
      rw (is, one) (sym (digits_value_more 10 text i inside)),
    )

-- a number that fits is kept
pub digit_kept : (sum most n : ℕ) (r : Option ℕ) → r ≡ cond (nat_le sum most) (Some sum) None → r ≡ Some n → (n ≡ sum) × (n ≤ most)
digit_kept sum most n r e is =
    let g = some_guard (nat_le sum most) sum n (sym e ∙ is) in
    let same = g.1 in
    let fits = g.0 in
    let le : sum ≤ most = grind (arith, common_steps) in
    (sym same, omega arith)

no_value : {X : Type 0} (a b : Bool) (x : X) → b ≡ false → cond (a && b) (Some x) None ≡ None
no_value true b x e = rw e refl
no_value false b x e = refl

-- digits that make too great a number still do with more digits
pub value_past : (text : List ℕ) (i sum most : ℕ) (r : Option ℕ) → r ≡ cond (nat_le sum most) (Some sum) None → r ≡ None
    → sum ≡ digits_value 10 (take i text)
    → None ≡ cond (list_all is_ascii_digit text && nat_le (digits_value 10 text) most) (Some (digits_value 10 text)) None
value_past text i sum most r e is same =
    let lost : cond (nat_le sum most) (Some sum) None ≡ None = sym e ∙ is in
    let more : digits_value 10 (take i text) ≤ digits_value 10 text = digits_value-take-le 10 text i (omega arith) in
    let high : most < sum = elim (cases_lt most sum) [
      | inl lt ↦ lt
      | inr le ↦ grind (arith, common_steps)
    ] in
    let none : nat_le (digits_value 10 text) most ≡ false = grind (arith, common_steps) in
    sym (no_value (list_all is_ascii_digit text) (nat_le (digits_value 10 text) most) (digits_value 10 text) none)

-- a number is the decimal of its value
pub number_of-some : (most : ℕ) (text : List ℕ) (n : ℕ) → most < 2 ^ 64 → number_of most text ≡ Some n → (text ≡ decimal n) × (n ≤ most)
unfolding number_of
number_of-some most text n small e =
    let g = some_guard (is_number text && nat_le (digits_value 10 text) most) (digits_value 10 text) n e in
    let parts = and_parts (is_number text) (nat_le (digits_value 10 text) most) g.0 in
    let c = is_number-parts text parts.0 in
    let le : digits_value 10 text ≤ most = grind (arith, common_steps) in
    let same = g.1 in
    (sym (decimal-digits_value own text c.digits c.some c.first (omega arith)) ∙ ap decimal same, omega arith)

first_zero : (n : ℕ) → n < 2 ^ 64 → get_or (decimal n) 0 0 ≡ 48 → length (decimal n) ≡ 1
first_zero n lt e =
    elim (cases_lt 0 n) [
      | inl some ↦ absurd (omega (arith, first_decimal n some lt))
      | inr none ↦ ap length (decimal_digit n (omega arith))
    ]

Canonical-decimal : (n : ℕ) → n < 2 ^ 64 → Canonical (decimal n)
Canonical-decimal n lt = record { digits = digits_decimal own n lt; some = decimal_nonempty n lt; first = first_zero n lt }

-- and a decimal is read as its number
pub number_of-decimal : (most n : ℕ) → most < 2 ^ 64 → n ≤ most → number_of most (decimal n) ≡ Some n
unfolding number_of
number_of-decimal most n small le =
    let is = is_number-from (decimal n) (Canonical-decimal n (omega arith)) in
    let value = digits_value-decimal own n (omega arith) in
    rw (is, value) (grind (arith, common_steps))

-- a caller's view of a number that is there, or is not
pub numbers_found : (most : ℕ) (text : List ℕ) (r : Option ℕ) → most < 2 ^ 64 → r ≡ number_of most text → IfSome r (λ n. (text ≡ decimal n) × (n ≤ most))
numbers_found most text None small e = tt
numbers_found most text (Some n) small e = number_of-some most text n small (sym e)

pub numbers_missed : (most : ℕ) (text : List ℕ) (r : Option ℕ) → most < 2 ^ 64 → r ≡ number_of most text → IfNone r ((n : ℕ) → n ≤ most → text ≢ decimal n)
numbers_missed most text (Some n) small e = tt
numbers_missed most text None small e = λ n le is. let found = number_of-decimal most n small le in let lost : number_of most (decimal n) ≡ None = rw (← is) (sym e) in absurd cc

pub digits_of_decimal : (n : ℕ) → n < 2 ^ 64 → list_all is_ascii_digit (decimal n) ≡ true
digits_of_decimal n lt = digits_decimal own n lt

-- ---- numbers between bounds

between_by : (o : Option ℕ) (least n : ℕ) → (o >>= λ k. cond (nat_lt k least) None (Some k)) ≡ Some n → (o ≡ Some n) × (least ≤ n)
between_by None least n e = absurd cc
between_by (Some k) least n e =
    elim (nat_lt k least) as (λ b. nat_lt k least ≡ b → cond b None (Some k) ≡ Some n → (Some k ≡ Some n) × (least ≤ n)) [
      | true ↦ λ b e. absurd cc
      | false ↦ λ b e. let same : k ≡ n = same_Some k n e in let le : least ≤ k = ltb-false k least b in (e, omega arith)
    ] refl e

-- a caller's view of such a number that is there, or is not
pub between_found : (least most : ℕ) (text : List ℕ) (r : Option ℕ) → most < 2 ^ 64 → r ≡ number_between least most text
    → IfSome r (λ n. (text ≡ decimal n) × (least ≤ n) × (n ≤ most))
unfolding number_between
between_found least most text None small e = tt
between_found least most text (Some n) small e =
    let parts = between_by (number_of most text) least n (sym e) in
    let found = number_of-some most text n small parts.0 in
    (found.0, parts.1, found.1)

pub between_missed : (least most : ℕ) (text : List ℕ) (r : Option ℕ) → most < 2 ^ 64 → r ≡ number_between least most text
    → IfNone r ((n : ℕ) → least ≤ n → n ≤ most → text ≢ decimal n)
unfolding number_between
between_missed least most text (Some n) small e = tt
between_missed least most text None small e = λ n low le is.
    let found : number_of most text ≡ Some n = ap (number_of most) is ∙ number_of-decimal most n small le in
    let high : nat_lt n least ≡ false = le-ltb n least low in
    let there : (number_of most text >>= λ k. cond (nat_lt k least) None (Some k)) ≡ Some n = rw (found, high) refl in
    cc
