-- Parts of a line, and numbers in decimal digits, as bytes.
use Rattle.std.specs.Prelude.{ℕ, ◌-◌, Bool, not, ◌&&◌, ◌||◌, ◌==◌, nat_le, nat_lt, if◌then◌else◌, List, [], ◌∷◌, length, slice_index, Option, Some, None}
use Rattle.std.specs.List.{list_all}
use Rattle.std.specs.Char.{is_ascii_digit}
use Rattle.std.specs.Str.Parse.{digits_value}
use Rattle.cg_types.specs.declared.limits.TheConstants.{NUMBER_LIMIT, STATE_LIMIT}
use Rattle.cg_types.specs.OptionSteps.{◌>>=◌}

-- a part and what follows the byte after it, with b put before the part
abbrev pub with_first : ℕ → Option (List ℕ × List ℕ) → Option (List ℕ × List ℕ)
with_first b None = None
with_first b (Some p) = Some (b ∷ p.0, p.1)

-- the parts before and after the first byte c; nothing if there is no c
abbrev pub cut_at : ℕ → List ℕ → Option (List ℕ × List ℕ)
cut_at c [] = None
cut_at c (b ∷ bs) = if b == c then Some ([], bs) else with_first b (cut_at c bs)

-- digits with no leading zero, or one zero
abbrev pub is_number : List ℕ → Bool
is_number text =
    list_all is_ascii_digit text && (nat_lt 0 (length text) && (not (slice_index text 0 == 48) || length text == 1))

-- the number of at most `most` that a text writes
unfoldable pub number_of : ℕ → List ℕ → Option ℕ
number_of most text =
    if is_number text && nat_le (digits_value 10 text) most then Some (digits_value 10 text) else None

-- the number from `least` to `most` that a text writes
unfoldable pub number_between : ℕ → ℕ → List ℕ → Option ℕ
number_between least most text = do
  n ← number_of most text
  if nat_lt n least then None else Some n

-- the generation that a text writes; versions have the same range
abbrev pub generation_in : List ℕ → Option ℕ
generation_in = number_between 1 (NUMBER_LIMIT - 1)

-- the key that a text writes
abbrev pub key_in : List ℕ → Option ℕ
key_in = number_between 1 STATE_LIMIT
