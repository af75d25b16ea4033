-- The text of a generation that is kept.
use Rattle.std.specs.Prelude.{◌≡◌, ◌<◌, ℕ, List, [], ◌∷◌, ◌++◌, Option, Some, None, codes, decimal}
use Rattle.cg_types.specs.Words.{cut_at, generation_in as number_in}
use Rattle.cg_types.specs.declared.limits.TheConstants.{NUMBER_LIMIT}

abbrev pub behind_number : List ℕ → Option (List ℕ × List ℕ) → Option ℕ
behind_number text None = number_in text
behind_number text (Some (digits, [])) = number_in digits
behind_number text (Some (digits, b ∷ bs)) = None

-- one number, and perhaps a line feed
unfoldable pub kept_generation_in : List ℕ → Option ℕ
kept_generation_in text = behind_number text (cut_at 10 text)

-- its number and a line feed
unfoldable pub kept_text_of : ℕ → List ℕ
kept_text_of generation = decimal generation ++ codes "\n"

-- A generation that is kept is read back.
abbrev pub KeptIsRead : Type 0
KeptIsRead =
    (generation : ℕ) → 0 < generation → generation < NUMBER_LIMIT
    → kept_generation_in (kept_text_of generation) ≡ Some generation
