use Rattle.std.proofs.Common.{◌≡◌, ◌++◌, take}
use Rattle.std.specs.List.{flat_map}
use Rattle.cg_status.specs.Flat.{row_tokens}
use Rattle.cg_status.proofs.shown.add_items.Given as goal

abbrev pub invariant-loop-row : goal.invariant-loop-row
invariant-loop-row l =
    (l.writer.tokens ≡ l.initial.writer.tokens ++ flat_map (row_tokens l.status.seen.items) (take l.row-index l.rows))
    × (l.writer.before ≡ l.initial.writer.before)
