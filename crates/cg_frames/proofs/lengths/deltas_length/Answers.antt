use Rattle.std.proofs.Common.{arith, ap, length}
use Rattle.std.specs.List.{flat_map}
use Rattle.std.proofs.lemmas.List.{take_all}
use Rattle.cg_frames.specs.Spelling.{delta}
use Rattle.cg_frames.proofs.LengthLemmas.{length-members, part_shorter}
use Rattle.cg_frames.proofs.lengths.deltas_length.Goals as goal

pub delta_length-length-requires : goal.delta_length-length-requires
delta_length-length-requires c =
    let ds = c.args.deltas.now in
    omega (arith, part_shorter delta ds c.loop-delta.delta-index c.delta-item.result c.loop-delta-test.true c.delta-item.is, length-members delta ds)

pub overflow_add-length : goal.overflow_add-length
overflow_add-length c =
    let ds = c.args.deltas.now in
    let part = part_shorter delta ds c.loop-delta.delta-index c.delta-item.result c.loop-delta-test.true c.delta-item.is in
    omega (arith, part, length-members delta ds, c.loop-delta.invariant, c.delta_length-length.ensures)

pub returns : goal.returns
returns c =
    let ds = c.args.deltas.now in
    let whole = take_all c.loop-delta.delta-index ds c.loop-delta-test.false in
    omega (arith, c.loop-delta.invariant, ap (λ ms. length (flat_map delta ms)) whole, length-members delta ds)
