use Rattle.std.proofs.Common.{rules, arith, length, ◌-◌, ap}
use Rattle.std.specs.Prelude.{nat_le}
use Rattle.std.proofs.lemmas.List.Sorted.{IsPartitionPoint-from_clause, IsPartitionedBy-leb}
use Rattle.cg_entry.specs.declared.state.State.{State}
use Rattle.cg_entry.proofs.BlockLemmas.{not_over, is_over}
use Rattle.cg_entry.proofs.OrderLemmas.{none_over, each_over}
use Rattle.cg_entry.proofs.block.first_above.Goals as goal

pub returns-clause-older : goal.returns-clause-older
returns-clause-older c = λ k d lo hi.
    let point = IsPartitionPoint-from_clause (λ (s : State). nat_le s.version c.args.above) c.args.items.now c.partition_point.result c.partition_point.ensures.partitioned (IsPartitionedBy-leb (λ (s : State). s.version) c.args.items.now c.args.above c.requires) (λ a r f called. search rules) in
    not_over c.args.above _ (point.0 k d lo hi)

pub returns-clause-newer : goal.returns-clause-newer
returns-clause-newer c = λ k d lo hi.
    let point = IsPartitionPoint-from_clause (λ (s : State). nat_le s.version c.args.above) c.args.items.now c.partition_point.result c.partition_point.ensures.partitioned (IsPartitionedBy-leb (λ (s : State). s.version) c.args.items.now c.args.above c.requires) (λ a r f called. search rules) in
    is_over c.args.above _ (point.1 k d lo hi)

pub returns-then-get-above-clause-older : goal.returns-then-get-above-clause-older
returns-then-get-above-clause-older c =
    none_over c.args.above c.args.items.now c.requires (length c.args.items.now - 1) _ c.index-items-count.result (omega (arith, c.if-count-eq0.false)) (omega (arith, c.if-count-eq0.false)) c.index-items-count.is
    (omega (arith, c.if-get-above.true, c.get.ensures.value, ap (λ (s : State). s.version) c.index-items-count.is))

pub returns-then-above-get-clause-newer : goal.returns-then-above-get-clause-newer
returns-then-above-get-clause-newer c =
    each_over c.args.above c.args.items.now c.requires 0 c.index-items-0.result (omega (arith, c.if-count-eq0.false)) c.index-items-0.is (omega (arith, c.if-above-get.true, c.get-2.ensures.value, ap (λ (s : State). s.version) c.index-items-0.is))

pub returns-then-get-above-2-clause-older : goal.returns-then-get-above-2-clause-older
returns-then-get-above-2-clause-older c =
    none_over c.args.above c.args.items.now c.requires (length c.args.items.now - 2) _ c.index-items-count-then-count-gt1.result (omega (arith, c.if-count-gt1.true)) (omega (arith, c.if-count-gt1.true)) c.index-items-count-then-count-gt1.is
    (omega (arith, c.if-get-above-2.true, c.get-then-count-gt1.ensures.value, ap (λ (s : State). s.version) c.index-items-count-then-count-gt1.is))
