use Rattle.std.proofs.Common.{◌∙◌, ℕ, List, length, ap}
use Rattle.cg_entry.specs.declared.state.State.{State}
use Rattle.cg_entry.specs.State.{pairs}
use Rattle.cg_entry.specs.Block.{picked}
use Rattle.cg_entry.proofs.OrderLemmas.{take_range, picked_first}
use Rattle.cg_entry.proofs.by_key.ByKey.listed.Goals as goal

pub returns : goal.returns
returns c =
    c.picked.ensures ∙ ap (λ (ps : List ℕ). pairs (picked c.args.items.now ps)) (take_range 0 16 (length c.args.items.now) c.requires)
    ∙ ap (λ (xs : List State). pairs xs) (picked_first c.args.items.now)
