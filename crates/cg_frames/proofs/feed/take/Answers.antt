use Rattle.std.proofs.Common.{rules, ◌≡◌, length}
use Rattle.cg_frames.proofs.CuttingLemmas.{cut_nothing}
use Rattle.cg_frames.proofs.feed.take.Goals as goal

pub returns-then-is_empty-clause-ok : goal.returns-then-is_empty-clause-ok
returns-then-is_empty-clause-ok c =
    let none : length c.args.piece.now ≡ 0 = search rules in
    rw c.new-messages.ensures.items (cut_nothing c.args.layouts.now c.args.held.now.items c.args.piece.now none c.requires.partial)
