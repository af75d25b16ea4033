use Rattle.std.proofs.Common.{◌≡◌, ◌≤◌, ◌+◌, List, length, Ok, arith, sym, ap, ◌∙◌, subst}
use Rattle.cg_history.specs.declared.item.Item.{Item}
use Rattle.cg_history.specs.Items.{puts_of}
use Rattle.cg_history.specs.History.{apply, unfolded}
use Rattle.cg_locked.proofs.Showing.{kept}
use Rattle.cg_locked.proofs.board.Board.enter.Goals as goal

pub invariant_of-self-2 : goal.invariant_of-self-2
invariant_of-self-2 g c =
    let s = c.args.self.now in
    let done = c.in_ok-receipt.ensures in
    let few = s.within in
    let published : s.published ≤ length s.history.records = omega (arith, few.0, few.1) in
    let whole =
    subst (λ (l : List Item). apply (unfolded l s.history) c.caller-caller.result c.args.event ≡ Ok (unfolded c.apply_logged.new.log c.apply_logged.new.self, c.in_ok-receipt.receipt))
    c.meet.ensures.log done.whole in
    let keeps = kept g.N.Name.start s.log c.apply_logged.new.log s.history c.caller-caller.result c.args.event c.apply_logged.new.self c.in_ok-receipt.receipt s.listed s.replays done.due whole in
    let k = keeps s.appended few.1 in record {
      listed = done.told;
      replays = k.led;
      counted = c.count.ensures.book ∙ ap (λ n. n + 1) (c.meet.ensures.book ∙ s.counted) ∙ sym k.count;
      within = (few.0, (let long = k.long in omega (arith, few.1)));
      shown = s.shown ∙ ap puts_of (sym k.front);
      shows = s.shows ∙ ap puts_of (sym (keeps s.published published).front);
      start = k.start ∙ s.start;
      whole = λ not. k.folded ∙ s.whole not;
      opening = s.opening;
    }
