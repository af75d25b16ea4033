use Rattle.std.proofs.Common.{sym, ◌∙◌, ap}
use Rattle.std.specs.Prelude.{option_copied}
use Rattle.cg_world.specs.WorldLaws.{IsReached}
use Rattle.cg_world.proofs.MergingLemmas.{tells_equal}
use Rattle.cg_world.proofs.merging.equal_digests.Goals as goal

pub returns-clause-ok : goal.returns-clause-ok
returns-clause-ok c =
    let s = c.in-Some-Some in
    let reached : IsReached c.args.world.now = c.node.ensures.consistent.reached in
    let same = rw (c.table.ensures, c.table-2.ensures) at c.same_entries.ensures in
    tells_equal c.args.world.now reached c.args.a c.args.b s.one.now s.other.now
    (sym c.node.ensures.value ∙ ap option_copied s.is-0) (sym c.node-2.ensures.value ∙ ap option_copied s.is-1) c.same_entries.result same
