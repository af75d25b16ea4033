use Rattle.std.proofs.Common.{sym, ◌∙◌, ap}
use Rattle.std.specs.Prelude.{option_copied}
use Rattle.cg_world.specs.Merging.{merged_three, IsJoinIn}
use Rattle.cg_world.specs.WorldLaws.{IsReached}
use Rattle.cg_world.proofs.MergingLemmas.{FindTheJoin, find_the_join, if_answered}
use Rattle.cg_world.proofs.merging.merge_is_join.Goals as goal

found : (c : goal.After-table-3) → FindTheJoin c.args.world.now c.args.a c.args.b c.args.c c.in-Some-Some-Some.one.now c.in-Some-Some-Some.two.now c.in-Some-Some-Some.three.now
found c =
    let s = c.in-Some-Some-Some in
    let reached : IsReached c.args.world.now = c.node.ensures.consistent.reached in
    find_the_join c.args.world.now reached c.args.a c.args.b c.args.c s.one.now s.two.now s.three.now
    (sym c.node.ensures.value ∙ ap option_copied s.is-0) (sym c.node-2.ensures.value ∙ ap option_copied s.is-1) (sym c.node-3.ensures.value ∙ ap option_copied s.is-2)

pub merge_three-requires : goal.merge_three-requires
merge_three-requires c = rw (c.table.ensures, c.table-2.ensures, c.table-3.ensures) (found c).fit

found_then : (c : goal.After-merge_three) → FindTheJoin c.args.world.now c.args.a c.args.b c.args.c c.in-Some-Some-Some.one.now c.in-Some-Some-Some.two.now c.in-Some-Some-Some.three.now
found_then c =
    let s = c.in-Some-Some-Some in
    let reached : IsReached c.args.world.now = c.node.ensures.consistent.reached in
    find_the_join c.args.world.now reached c.args.a c.args.b c.args.c s.one.now s.two.now s.three.now
    (sym c.node.ensures.value ∙ ap option_copied s.is-0) (sym c.node-2.ensures.value ∙ ap option_copied s.is-1) (sym c.node-3.ensures.value ∙ ap option_copied s.is-2)

pub returns-clause-due : goal.returns-clause-due
returns-clause-due c =
    let s = c.in-Some-Some-Some in
    let answered = rw (c.table.ensures, c.table-2.ensures, c.table-3.ensures) at c.merge_three.ensures in
    rw (← c.node.ensures.value, ← c.node-2.ensures.value, ← c.node-3.ensures.value, s.is-0, s.is-1, s.is-2) answered

pub returns-clause-join : goal.returns-clause-join
returns-clause-join c =
    let s = c.in-Some-Some-Some in
    let answered = rw (c.table.ensures, c.table-2.ensures, c.table-3.ensures) at c.merge_three.ensures in
    if_answered (IsJoinIn c.args.world.now c.args.a c.args.b c.args.c) (merged_three s.one.now.table s.two.now.table s.three.now.table) c.merge_three.result answered (found_then c).join
