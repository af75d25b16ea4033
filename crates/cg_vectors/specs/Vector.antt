-- The lines of a file of vectors.
use Rattle.std.specs.Prelude.{◌≡◌, ◌==◌, ◌++◌, ◌∷◌, [], ℕ, Bool, List, true, codes}

-- true if a line has no vector: it is empty, or a remark, which begins with a number sign
abbrev pub is_remark : List ℕ → Bool
is_remark [] = true
is_remark (byte ∷ rest) = byte == 35

-- the line of a vector with this input and that expected text
abbrev pub IsVector : List ℕ → List ℕ → List ℕ → Type 0
IsVector line given expected = line ≡ given ++ (codes " = " ++ expected)
