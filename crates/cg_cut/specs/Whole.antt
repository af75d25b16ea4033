-- The whole lines of a text: those that a line feed ends.
use Rattle.std.specs.Prelude.{ℕ, zero, suc, ◌≡◌, ◌==◌, if◌then◌else◌, List, [], ◌∷◌, take, Option}
use Rattle.std.specs.Io.KnownBytes.{Consumes, IsAtEnd}

-- the length of whole lines, with one byte more before them
abbrev pub length_behind : ℕ → ℕ → ℕ
length_behind b zero = if b == 10 then 1 else 0
length_behind b (suc n) = suc (suc n)

-- the number of bytes up to the last line feed, with it; 0 if there is none
abbrev pub whole_length : List ℕ → ℕ
whole_length [] = 0
whole_length (b ∷ bs) = length_behind b (whole_length bs)

-- the lines that end with a line feed
abbrev pub whole_lines : List ℕ → List ℕ
whole_lines text = take (whole_length text) text

-- All that a reader had left was read, and this is the length of its whole lines.
pub record ReadsLength (before after : Option (List ℕ)) (n : ℕ) : Type 0 where
  pub text : List ℕ
  pub read : Consumes before after text
  pub end : IsAtEnd after
  pub is : n ≡ whole_length text
