-- Pieces of a text, and the tokens in them.
use Rattle.std.proofs.Common.{◌≡◌, ℕ, zero, suc, ◌+◌, ◌*◌, ◌^◌, ◌<◌, ◌≤◌, Bool, true, false, cond, ◌==◌, List, [], ◌∷◌, length, take, get_or, Option, Some, None, refl, sym, ap, ◌∙◌, arith, length-take, length-append}
use Rattle.std.specs.Prelude.{◌&&◌, nat_le, not, is_some, IsTrue}
use Rattle.std.specs.List.{list_all, filter_map, onto_first, before_first, position_or_len}
use Rattle.std.specs.Char.{digit_value}
use Rattle.std.specs.Str.Parse.{digits_value, AllDigits}
use Rattle.std.proofs.lemmas.Bool.{and_parts}
use Rattle.std.proofs.lemmas.Grind.{common_steps}
use Rattle.std.proofs.lemmas.Int.Digits.{digits_value-lt, digits_value_more}
use Rattle.std.proofs.Math.Nat.{pow-le-pow_right}
use Rattle.cg_types.specs.Words.{cut_at, with_first}
use Rattle.cg_types.proofs.EndpointLaws.{cut_at-some}
use Rattle.cg_types.specs.Rising.{rise_past}
use Rattle.cg_tokens.specs.declared.limits.TheConstants.{TOKEN_DIGITS, TOKEN_COUNT_LIMIT, COMMA}
use Rattle.cg_tokens.specs.Text.{is_lower_digit, token_in, is_comma, pieces}

-- ---- pieces

abbrev parted : List ℕ → Option (List ℕ × List ℕ) → List (List ℕ)
parted text None = text ∷ []
parted text (Some p) = p.0 ∷ pieces p.1

onto_parted : (b : ℕ) (bs : List ℕ) (cut : Option (List ℕ × List ℕ)) → onto_first b (parted bs cut) ≡ parted (b ∷ bs) (with_first b cut)
onto_parted b bs None = refl
onto_parted b bs (Some p) = refl

pieces-step : (t : Bool) (b : ℕ) (bs : List ℕ) → pieces bs ≡ parted bs (cut_at COMMA bs) → cond t ([] ∷ pieces bs) (onto_first b (pieces bs)) ≡ parted (b ∷ bs) (cond t (Some ([], bs)) (with_first b (cut_at COMMA bs)))
pieces-step true b bs e = refl
pieces-step false b bs e = ap (onto_first b) e ∙ onto_parted b bs (cut_at COMMA bs)

-- the first piece ends where the text is cut
pieces-cut : (text : List ℕ) → pieces text ≡ parted text (cut_at COMMA text)
pieces-cut [] = refl
pieces-cut (b ∷ bs) = pieces-step (b == COMMA) b bs (pieces-cut bs)

pub pieces-some : (text piece rest : List ℕ) → Some (piece, rest) ≡ cut_at COMMA text → pieces text ≡ piece ∷ pieces rest
pieces-some text piece rest e = pieces-cut text ∙ ap (parted text) (sym e)

pub pieces-none : (text : List ℕ) → None ≡ cut_at COMMA text → pieces text ≡ text ∷ []
pieces-none text e = pieces-cut text ∙ ap (parted text) (sym e)

pub pieces-shorter : (text piece rest : List ℕ) → Some (piece, rest) ≡ cut_at COMMA text → length rest < length text
pieces-shorter text piece rest e =
    let joined = ap length (cut_at-some COMMA text (piece, rest) (sym e)) in
    omega (arith, joined, length-append piece (COMMA ∷ rest))

-- the first piece
abbrev first_of : List (List ℕ) → List ℕ
first_of [] = []
first_of (p ∷ ps) = p

first_of-onto : (b : ℕ) (ps : List (List ℕ)) → first_of (onto_first b ps) ≡ b ∷ first_of ps
first_of-onto b [] = refl
first_of-onto b (p ∷ ps) = refl

first_by : (t : Bool) (b : ℕ) (bs : List ℕ) (n : ℕ) → first_of (pieces bs) ≡ take n bs → first_of (cond t ([] ∷ pieces bs) (onto_first b (pieces bs))) ≡ take (cond (not t) (1 + n) 0) (b ∷ bs)
first_by true b bs n e = refl
first_by false b bs n e =
    let next : 1 + n ≡ suc n = omega arith in
    rw next (first_of-onto b (pieces bs) ∙ ap (λ (p : List ℕ). b ∷ p) e)

first_of-pieces : (text : List ℕ) → first_of (pieces text) ≡ before_first is_comma text
first_of-pieces [] = refl
first_of-pieces (b ∷ bs) = first_by (is_comma b) b bs (position_or_len is_comma bs) (first_of-pieces bs)

pub first_word : (text word : List ℕ) (ps : List (List ℕ)) → pieces text ≡ word ∷ ps → word ≡ before_first is_comma text
first_word text word ps e = sym (ap first_of e) ∙ first_of-pieces text

-- ---- the number of digits

pub lower_value : (c : ℕ) → is_lower_digit c ≡ true → digit_value c < 16
lower_value c h = grind (arith, common_steps)

all_digits : (ds : List ℕ) (n : ℕ) → list_all is_lower_digit ds ≡ true → AllDigits 16 (take n ds)
all_digits ds zero h = tt
all_digits [] (suc n) h = tt
all_digits (c ∷ cs) (suc n) h =
    let parts = and_parts (is_lower_digit c) (list_all is_lower_digit cs) h in
    (lower_value c parts.0, all_digits cs n parts.1)

-- 32 digits and no more fit 128 bits
value_fits : (ds : List ℕ) (n : ℕ) → IsTrue (list_all is_lower_digit ds) → length ds ≤ TOKEN_DIGITS → digits_value 16 (take n ds) < 2 ^ 128
value_fits ds n h few =
    let below = digits_value-lt 16 (take n ds) (all_digits ds n h) in
    let short : length (take n ds) ≤ TOKEN_DIGITS = omega (arith, length-take n ds) in
    let widest : 16 ^ length (take n ds) ≤ 16 ^ TOKEN_DIGITS = pow-le-pow_right {n = 16} (omega arith) short in
    omega (arith, below, widest)

-- one more digit
module _ (ds : List ℕ) (i number digit : ℕ) (lt : i < length ds) (so_far : number ≡ digits_value 16 (take i ds)) (value : digit ≡ digit_value (get_or ds i 0)) where
  pub value_more : number * 16 + digit ≡ digits_value 16 (take (i + 1) ds)
  value_more = rw (so_far, value) (sym (digits_value_more 16 ds i lt))

  pub value_more_fits : IsTrue (list_all is_lower_digit ds) → length ds ≤ TOKEN_DIGITS → number * 16 + digit < 2 ^ 128
  value_more_fits h few = let below = value_fits ds (i + 1) h few in rw value_more below

-- ---- tokens

-- the checks that are left after some pieces
abbrev pub checks : Option ℕ → ℕ → List (List ℕ) → Bool
checks last count ps = nat_le (count + length ps) TOKEN_COUNT_LIMIT && (list_all (λ p. is_some (token_in p)) ps && rise_past last (filter_map token_in ps))

-- the number of bytes that are left, and one for the piece
abbrev pub left : Option (List ℕ) → ℕ
left None = 0
left (Some text) = length text + 1
