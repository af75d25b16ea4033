-- A journal that is cut after a line feed.
use Rattle.std.proofs.Common.{◌≡◌, ℕ, suc, List, [], ◌∷◌, ◌++◌, Option, Some, None, Ok, refl, sym, ap, ◌∙◌, append_assoc, append-nil}
use Rattle.cg_history.specs.History.{HistoryValue}
use Rattle.cg_links.specs.Lines.{ended_lines, unended_line, last_line, lines_of}
use Rattle.cg_links.proofs.LineLemmas.{ended_lines-append, unended_line-append}
use Rattle.cg_journal.specs.Reading.{life_in, after_line, on_line, after_lines, journal_in}
use Rattle.cg_journal.specs.Laws.{FrontsAreRead}
use Rattle.cg_journal.proofs.OfLines.{AreOf, of_lines}

-- lines that end, the one that the line feed ends, and those after it
lines_cut : (front rest : List ℕ) → lines_of (front ++ 10 ∷ rest) ≡ (ended_lines [] front ++ unended_line [] front ∷ []) ++ lines_of rest
lines_cut front rest =
    let E = ended_lines [] front in
    let o = unended_line [] front in
    ap (λ (ls : List (List ℕ)). ls ++ last_line (unended_line [] (front ++ 10 ∷ rest))) (ended_lines-append [] front (10 ∷ rest))
    ∙ ap (λ (l : List ℕ). (E ++ o ∷ ended_lines [] rest) ++ last_line l) (unended_line-append [] front (10 ∷ rest))
    ∙ append_assoc E (o ∷ ended_lines [] rest) (last_line (unended_line [] rest))
    ∙ sym (append_assoc E (o ∷ []) (lines_of rest))

-- the history after the first of some lines, which the history after all of them continues
abbrev Cut : HistoryValue → List (List ℕ) → (HistoryValue → Type 0) → Type 0
Cut k ys is = (g : HistoryValue) × is g × AreOf g k ys

split_on : (n : ℕ) (k : HistoryValue) (xs ys : List (List ℕ)) (o : Option HistoryValue)
    → ((h : HistoryValue) → after_lines (suc n) (Some h) (xs ++ ys) ≡ Ok k → Cut k ys (λ g. after_lines (suc n) (Some h) xs ≡ Ok g))
    → on_line n o (λ h. after_lines (suc n) (Some h) (xs ++ ys)) ≡ Ok k → Cut k ys (λ g. on_line n o (λ h. after_lines (suc n) (Some h) xs) ≡ Ok g)
split_on n k xs ys None go e = absurd cc
split_on n k xs ys (Some h) go e = go h e

split_some : (n : ℕ) (h k : HistoryValue) (xs ys : List (List ℕ)) → after_lines n (Some h) (xs ++ ys) ≡ Ok k → Cut k ys (λ g. after_lines n (Some h) xs ≡ Ok g)
split_some n h k [] ys e = (h, refl, of_lines n h k ys e)
split_some n h k (x ∷ xs) ys e = split_on n k xs ys (after_line (Some h) x) (λ g. split_some (suc n) g k xs ys) e

cut_first : (front : List (List ℕ)) (last : List ℕ) (ys : List (List ℕ)) (k : HistoryValue) → after_lines 1 None ((front ++ last ∷ []) ++ ys) ≡ Ok k
    → Cut k ys (λ g. after_lines 1 None (front ++ last ∷ []) ≡ Ok g)
cut_first [] last ys k e = split_on 1 k [] ys (life_in last) (λ g. split_some 2 g k [] ys) e
cut_first (x ∷ front) last ys k e = split_on 1 k (front ++ last ∷ []) ys (life_in x) (λ g. split_some 2 g k (front ++ last ∷ []) ys) e

pub fronts_are_read : FrontsAreRead
unfolding journal_in
fronts_are_read front rest h e =
    let all = ended_lines [] front ++ unended_line [] front ∷ [] in
    let (g, read, of) = cut_first (ended_lines [] front) (unended_line [] front) (lines_of rest) h (ap (after_lines 1 None) (sym (lines_cut front rest)) ∙ e) in (
      g,
      ap (after_lines 1 None) (lines_cut front [] ∙ append-nil all) ∙ read,
      record { start = of.start; base = of.base; folded = of.folded; more = of.items; records = of.records },
    )
