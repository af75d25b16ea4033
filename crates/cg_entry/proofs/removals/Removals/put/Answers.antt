use Rattle.std.proofs.Common.{◌∙◌, arith}
use Rattle.cg_entry.proofs.RemovalLemmas.{put_behind}
use Rattle.cg_entry.proofs.removals.Removals.put.Goals as goal

pub returns : goal.returns
returns c = λ k.
    put_behind c.by_key-versions.result c.args.self.now c.from.result c.get.result c.args.key c.args.version k (c.from.ensures ∙ c.get-2.ensures.value) c.get.ensures.value
    (omega (arith, c.get-2.ensures)) (omega (arith, c.by_key-versions.ensures.long, c.get-2.ensures)) (c.by_key-versions.ensures.value k)
