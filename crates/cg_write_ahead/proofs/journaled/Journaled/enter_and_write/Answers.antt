use Rattle.std.proofs.Common.{true, false, ◌≡◌, sym, ◌∙◌, arith}
use Rattle.cg_links.specs.Counted.{link_of}
use Rattle.cg_write_ahead.proofs.Writing.{line_kept, line_lost}
use Rattle.cg_write_ahead.proofs.WeightLemmas.{counted, covers_more, longer}
use Rattle.cg_write_ahead.proofs.journaled.Journaled.enter_and_write.Goals as goal

pub invariant_of-self-in-Ok : goal.invariant_of-self-in-Ok
invariant_of-self-in-Ok g c =
    let s = c.args.self.now in
    let done = c.in_ok-receipt.ensures in record {
      folds = s.folds;
      text = λ tells. line_kept g.N.Name.start s.board.log _ c.args.event _ done.log s.torn c.requires.whole c.args.line.now c.requires.line (g.W.Write.contents (link_of s.sink)) (g.W.Write.contents (link_of c.write_and_flush.new.writer)) (tells (link_of s.sink)) (tells (link_of c.write_and_flush.new.writer)) (s.text tells) c.in-Ok.ensures.ok;
      flushed = λ _. c.in-Ok.ensures.flushed;
      unsent = λ is. (let both : true ≡ false = sym is ∙ c.requires.whole in absurd cc);
      weighed = λ short. covers_more c.args.event _ s.board.history.records _ done.records c.args.line.now c.requires.line s.weight _ s.weighed (counted _ _ _ _ _ _ c.length.ensures c.with_record.ensures) short;
    }

pub invariant_of-self-in-Err : goal.invariant_of-self-in-Err
invariant_of-self-in-Err g c =
    let s = c.args.self.now in
    let done = c.in_ok-receipt.ensures in
    let first = s.board.within.0 in
    let few = s.board.within.1 in
    let long = longer c.args.event _ s.board.history.records _ done.records in
    let same = done.published in record {
      folds = s.folds;
      text = λ tells. line_lost g.N.Name.start s.board.log _ c.args.event _ done.log s.torn c.requires.whole c.args.line.now c.requires.line (g.W.Write.contents (link_of s.sink)) (g.W.Write.contents (link_of c.write_and_flush.new.writer)) (tells (link_of s.sink)) (tells (link_of c.write_and_flush.new.writer)) (s.text tells) c.in-Err.ensures.front;
      flushed = λ is. absurd cc;
      unsent = λ _. omega (arith, first, few, long, same);
      weighed = λ short. covers_more c.args.event _ s.board.history.records _ done.records c.args.line.now c.requires.line s.weight _ s.weighed (counted _ _ _ _ _ _ c.length.ensures c.with_record.ensures) short;
    }
