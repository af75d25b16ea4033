-- The whole lines of a text that is cut.
use Rattle.std.proofs.Common.{◌≡◌, ◌⊎◌, inl, inr, ℕ, List, [], ◌∷◌, ◌++◌, Ok, sym, ap, ◌∙◌, append_assoc, take, drop, take-append-drop}
use Rattle.cg_history.specs.History.{HistoryValue}
use Rattle.cg_journal.specs.Reading.{journal_in}
use Rattle.cg_journal.specs.Laws.{Continues}
use Rattle.cg_journal.proofs.Fronts.{fronts_are_read}
use Rattle.cg_cut.specs.Whole.{whole_length, whole_lines}
use Rattle.cg_cut.specs.Laws.{CutJournalsAreRead}
use Rattle.cg_cut.proofs.Wholes.{whole_ends}

module _ (text : List ℕ) (h : HistoryValue) (n : ℕ) (read : journal_in text ≡ Ok h) where
  abbrev front : List ℕ
  front = take n text

  by_end : (whole_length front ≡ 0) ⊎ ((f : List ℕ) × (whole_lines front ≡ f ++ 10 ∷ []))
      → (whole_lines front ≡ []) ⊎ ((g : HistoryValue) × (journal_in (whole_lines front) ≡ Ok g) × Continues g h)
  by_end (inl none) = inl (ap (λ (k : ℕ). take k front) none)
  by_end (inr (f, is)) =
      let rest = drop (whole_length front) front ++ drop n text in
      let all : f ++ 10 ∷ rest ≡ text =
      sym (append_assoc f (10 ∷ []) rest) ∙ ap (λ (l : List ℕ). l ++ rest) (sym is) ∙ sym (append_assoc (whole_lines front) (drop (whole_length front) front) (drop n text))
      ∙ ap (λ (l : List ℕ). l ++ drop n text) (take-append-drop (whole_length front) front) ∙ take-append-drop n text in
      let g = fronts_are_read f rest h (ap journal_in all ∙ read) in
      inr (g.0, ap journal_in is ∙ g.1, g.2)

pub cut_journals_are_read : CutJournalsAreRead
cut_journals_are_read text h n read = by_end text h n read (whole_ends (take n text))
