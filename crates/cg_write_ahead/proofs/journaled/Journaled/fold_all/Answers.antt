use Rattle.std.proofs.Common.{true, false, ◌≡◌, List, sym, ◌∙◌, subst, arith}
use Rattle.cg_links.specs.Counted.{link_of}
use Rattle.cg_history.specs.declared.item.Item.{Item}
use Rattle.cg_write_ahead.specs.Text.{HoldsText}
use Rattle.cg_write_ahead.proofs.WeightLemmas.{folded_lighter}
use Rattle.cg_write_ahead.proofs.journaled.Journaled.fold_all.Goals as goal

pub invariant_of-self-else-is_empty : goal.invariant_of-self-else-is_empty
invariant_of-self-else-is_empty g c =
    let s = c.args.self.now in
    let less = folded_lighter _ s.board.history c.fold.new.self.history c.in_ok-fold.ensures.ok in record {
      folds = s.folds;
      text = λ tells. subst (λ (l : List Item). HoldsText g.N.Name.start l s.torn (g.W.Write.contents (link_of s.sink))) (sym c.in_ok-fold.ensures.same.2) (s.text tells);
      flushed = s.flushed;
      unsent = λ is. (let both : true ≡ false = sym is ∙ c.requires in absurd cc);
      weighed = λ short. (let few = s.weighed short in omega (arith, few, less));
    }
