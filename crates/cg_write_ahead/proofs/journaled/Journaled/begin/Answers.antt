use Rattle.std.proofs.Common.{◌≡◌, ℕ, false, Option, List, [], ◌∷◌, sym, ap, ◌∙◌, subst, arith}
use Rattle.std.specs.Io.KnownBytes.{Appends}
use Rattle.cg_links.specs.Counted.{link_of}
use Rattle.cg_history.specs.declared.item.Item.{Item}
use Rattle.cg_history.specs.History.{HistoryValue}
use Rattle.cg_journal.specs.Text.{life_line, event_lines, journal_lines, joined}
use Rattle.cg_write_ahead.specs.Text.{life_text, HoldsText}
use Rattle.cg_write_ahead.specs.Weights.{weight_of_all}
use Rattle.cg_write_ahead.proofs.Writing.{begun}
use Rattle.cg_write_ahead.proofs.journaled.Journaled.begin.Goals as goal

pub invariant_of-journaled : goal.invariant_of-journaled
invariant_of-journaled g c =
    let h = c.args.history in
    let old : Option (List ℕ) = g.W.Write.contents (link_of c.args.sink) in
    let new : Option (List ℕ) = g.W.Write.contents (link_of c.write_journal.new.writer) in
    let its = c.requires.history in
    let made = c.in_ok-board.ensures.history in
    let first : joined (journal_lines h) ≡ life_text g.N.Name.start [] = λ i. joined (life_line (its.2 i) ∷ event_lines (its.0 i)) in
    let none : weight_of_all c.in_ok-board.board.history.records ≡ 0 =
    ap (λ (x : HistoryValue). weight_of_all x.records) made.0 ∙ ap weight_of_all its.0 in record {
      folds = c.requires.folds;
      text = λ tells. subst (λ (l : List Item). HoldsText g.N.Name.start l false new) (sym made.1)
          (begun g.N.Name.start old new (tells (link_of c.args.sink)) (tells (link_of c.write_journal.new.writer)) c.requires.sink
          (subst (λ (l : List ℕ). Appends old new l) first (c.in-Ok.ensures.written its.1).written));
      flushed = λ _. c.in-Ok.ensures.flushed;
      unsent = λ is. absurd cc;
      weighed = λ short. omega (arith, none);
    }
