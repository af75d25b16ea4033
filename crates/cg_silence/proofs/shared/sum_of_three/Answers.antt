use Rattle.cg_silence.proofs.WindowLemmas.{sum_of_three}
use Rattle.cg_silence.proofs.shared.sum_of_three.Goals as goal

pub returns : goal.returns
returns c =
    rw (c.sum_first-of_long.ensures.sum, c.sum_first-of_recent.ensures.sum, c.sum_first-of_tail.ensures.sum, c.sum_first-of_recent.ensures.left, c.sum_first-of_long.ensures.left)
    (sum_of_three c.args.count c.args.long.now c.args.recent.now c.args.tail.now)
