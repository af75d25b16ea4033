-- Lines written one after the other are read as those lines.
use Rattle.std.proofs.Common.{◌≡◌, ℕ, true, List, [], ◌∷◌, ◌++◌, ap, ◌∙◌, append_assoc}
use Rattle.cg_links.specs.Lines.{ended_lines, unended_line, last_line, lines_of}
use Rattle.cg_links.proofs.LineLemmas.{ended_some, open_some}
use Rattle.cg_journal.proofs.WordsRead.{lacks, cut_at-word}

-- a line with its line feed
abbrev pub ended : List ℕ → List ℕ
ended line = line ++ 10 ∷ []

-- a line, and the lines after its line feed
lines_of-first : (line rest : List ℕ) → lacks 10 line ≡ true → lines_of (line ++ 10 ∷ rest) ≡ line ∷ lines_of rest
lines_of-first line rest h =
    let cut = cut_at-word 10 line rest h in
    ap (λ (ls : List (List ℕ)). ls ++ last_line (unended_line [] (line ++ 10 ∷ rest))) (ended_some [] (line ++ 10 ∷ rest) (line, rest) cut)
    ∙ ap (λ (l : List ℕ). (line ∷ ended_lines [] rest) ++ last_line l) (open_some [] (line ++ 10 ∷ rest) (line, rest) cut)

pub lines_of-ended : (line rest : List ℕ) → lacks 10 line ≡ true → lines_of (ended line ++ rest) ≡ line ∷ lines_of rest
lines_of-ended line rest h = ap lines_of (append_assoc line (10 ∷ []) rest) ∙ lines_of-first line rest h
