use Rattle.std.proofs.Common.{arith}
use Rattle.std.specs.FinMap.{entries}
use Rattle.cg_entry.proofs.SectionLemmas.{length-states}
use Rattle.cg_frames.proofs.LengthLemmas.{length-delta}
use Rattle.cg_frames.proofs.lengths.delta_length.Goals as goal

pub overflow_mul-result : goal.overflow_mul-result
overflow_mul-result c =
    let es = entries c.args.delta.now.delta.states in
    omega (arith, c.requires, length-delta c.args.delta.now, length-states es, c.count.ensures.value)

pub overflow_add-result : goal.overflow_add-result
overflow_add-result c =
    let es = entries c.args.delta.now.delta.states in
    omega (arith, c.requires, length-delta c.args.delta.now, length-states es, c.count.ensures.value)

pub overflow_add-result-2 : goal.overflow_add-result-2
overflow_add-result-2 c =
    let es = entries c.args.delta.now.delta.states in
    omega (arith, c.requires, length-delta c.args.delta.now, length-states es, c.count.ensures.value, c.text_bytes.ensures)

pub returns : goal.returns
returns c =
    let es = entries c.args.delta.now.delta.states in
    omega (arith, length-delta c.args.delta.now, length-states es, c.count.ensures.value, c.text_bytes.ensures)
