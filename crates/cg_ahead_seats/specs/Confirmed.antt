-- Receipts that are confirmed at once.
use Rattle.std.specs.Prelude.{◌≡◌, List, [], ◌∷◌}
use Rattle.cg_core.specs.Values.{NodeValue}
use Rattle.cg_history.specs.declared.item.Item.{Item}
use Rattle.cg_history.specs.declared.item.Receipt.{Receipt}
use Rattle.cg_history.specs.Confirming.{AreConfirmed}
use Rattle.cg_history.specs.History.{HistoryValue, IsFoldOf}

-- The history of the node with this start that has these records, of which the first may be folded, confirmed the
-- receipt.
pub record WasConfirmed (start : NodeValue) (records : List Item) (q : Receipt) : Type 0 where
  pub history : HistoryValue
  pub starts : history.start ≡ start
  pub fold : IsFoldOf records history
  pub confirmed : AreConfirmed history.folded history.records (q ∷ [])
