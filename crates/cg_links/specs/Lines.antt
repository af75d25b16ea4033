-- The lines of a text, whose last line feed may be missing.
use Rattle.std.specs.Prelude.{ℕ, ◌==◌, List, [], ◌∷◌, ◌++◌, if◌then◌else◌}

-- the lines that end with a line feed, if `front` comes before the text
abbrev pub ended_lines : List ℕ → List ℕ → List (List ℕ)
ended_lines front [] = []
ended_lines front (b ∷ bs) = if b == 10 then front ∷ ended_lines [] bs else ended_lines (front ++ b ∷ []) bs

-- the bytes after the last line feed, if `front` comes before the text
abbrev pub unended_line : List ℕ → List ℕ → List ℕ
unended_line front [] = front
unended_line front (b ∷ bs) = if b == 10 then unended_line [] bs else unended_line (front ++ b ∷ []) bs

-- a last line that does not end with a line feed, if there is one
abbrev pub last_line : List ℕ → List (List ℕ)
last_line [] = []
last_line (b ∷ bs) = (b ∷ bs) ∷ []

abbrev pub lines_of : List ℕ → List (List ℕ)
lines_of text = ended_lines [] text ++ last_line (unended_line [] text)
