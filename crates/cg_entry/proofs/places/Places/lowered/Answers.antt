use Rattle.std.proofs.Common.{◌≡◌, ◌≤◌, take, length, ap, arith}
use Rattle.std.proofs.lemmas.List.{length-take-le}
use Rattle.cg_entry.specs.Block.{lowered}
use Rattle.cg_entry.proofs.BlockLemmas.{lowered_few}
use Rattle.cg_entry.proofs.places.Places.lowered.Goals as goal

pub push-requires : goal.push-requires
push-requires c =
    let front = take c.loop-place.place-index c.as_slice-place-items.result.now in
    let few : length (lowered c.args.from front) ≤ length front = lowered_few c.args.from front in
    let here : length front ≡ c.loop-place.place-index = length-take-le c.loop-place.place-index c.as_slice-place-items.result.now (omega arith) in
    let is : length c.loop-place.lower ≡ length (lowered c.args.from front) = ap length c.loop-place.invariant.so_far in
    omega (arith, c.loop-place-test.true, c.loop-place.invariant.few)
