use Rattle.std.proofs.Common.{arith}
use Rattle.cg_cut.proofs.Wholes.{behind_none, behind_some, whole_short}
use Rattle.cg_cut.proofs.whole.length_with.Goals as goal

pub overflow_add-result : goal.overflow_add-result
overflow_add-result c =
    let short = whole_short c.args.piece.now in
    let is = c.length_in-n.ensures in
    let few = c.requires in
    omega (arith, short, is, few)

pub returns-then-n-eq0 : goal.returns-then-n-eq0
returns-then-n-eq0 c = λ text long was. behind_none c.args.piece.now c.length_in-n.result c.args.whole c.args.read c.length_in-n.ensures text long was c.if-n-eq0.true

pub returns : goal.returns
returns c = λ text long was. behind_some c.args.piece.now c.length_in-n.result c.args.whole c.args.read c.length_in-n.ensures text long was c.if-n-eq0.false
