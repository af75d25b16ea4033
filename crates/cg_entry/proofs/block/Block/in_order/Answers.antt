use Rattle.std.proofs.Common.{length, List, ap, arith}
use Rattle.std.specs.FinMap as map
use Rattle.std.specs.Ordering.{nat_cmp}
use Rattle.cg_entry.specs.declared.state.State.{State}
use Rattle.cg_entry.specs.State.{pairs}
use Rattle.cg_entry.proofs.OrderLemmas.{few_listed, block_first, picked_first}
use Rattle.cg_entry.proofs.block.Block.in_order.Goals as goal

pub overflow_cast-count : goal.overflow_cast-count
overflow_cast-count c =
    omega (arith, few_listed c.args.items.items c.args.text_bytes c.requires.listed, ap (λ (xs : List State). length xs) c.as_slice-count.ensures.value)

pub first-requires : goal.first-requires
first-requires c =
    omega (arith, few_listed c.args.items.items c.args.text_bytes c.requires.listed, ap (λ (xs : List State). length xs) c.as_slice-count.ensures.value)

pub invariant_of-result : goal.invariant_of-result
invariant_of-result c = rw (c.first.ensures, c.as_slice-count.ensures.value) (block_first c.args.items.items c.args.text_bytes c.requires.listed c.requires.versions)

pub returns : goal.returns
returns c = rw (c.first.ensures, c.as_slice-count.ensures.value) (ap (λ (xs : List State). map.from_sorted {R = nat_cmp} (pairs xs)) (picked_first c.args.items.items))
