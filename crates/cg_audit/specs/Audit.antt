-- The answers of an audit.
use Rattle.std.specs.Prelude.{◌≡◌, List, map, Result, Ok, Err}
use Rattle.cg_types.specs.declared.fault.Fault.{Fault}
use Rattle.cg_types.specs.declared.fault.Fault.TheVariants.{Folded, NotRising, OutOfMemory}
use Rattle.cg_audit.specs.Items.{RunItem, LivesValue, AreLives, AreWhole}
use Rattle.cg_audit.specs.OneRun.{IsOneRun, GenerationsRise}
use Rattle.cg_audit.specs.Turns as turns
use Rattle.cg_audit.specs.Laws.{AreStuck}
use Rattle.cg_audit.specs.declared.item.LifeItem.{LifeItem}
use Rattle.cg_audit.specs.declared.item.Order.{Order}
use Rattle.cg_audit.specs.declared.item.AuditFault.{AuditFault}
use Rattle.cg_audit.specs.declared.item.AuditFault.TheVariants.{Other, Stuck}

-- an item, without its messages
abbrev pub life_item : RunItem → LifeItem
life_item i = record { endpoint = i.endpoint; generation = i.generation; number = i.number }

-- These are all items of all lives, in an order in which they can have been one run. Each life began with a start of
-- its endpoint, and no record of it is folded. It is the order by turns: at each turn the least endpoint goes whose
-- next item can go.
pub record IsOrder (lives : List LivesValue) (order : List LifeItem) : Type 0 where
  pub items : List RunItem
  pub named : order ≡ map life_item items
  pub are_lives : AreLives lives
  pub are_whole : AreWhole lives
  pub is_run : IsOneRun lives items
  pub by_turns : turns.order_of lives ≡ turns.Order items

-- No order of all items is one run, though the generations rise and no record is folded. These are the heads that turns
-- leave: each handles a message that no item gone sent.
pub record IsStuck (lives : List LivesValue) (heads : List LifeItem) : Type 0 where
  pub items : List RunItem
  pub named : heads ≡ map life_item items
  pub rise : GenerationsRise lives
  pub are_whole : AreWhole lives
  pub none : (order : List RunItem) → IsOneRun lives order → ⊥
  pub are_stuck : AreStuck lives items
  pub by_turns : turns.order_of lives ≡ turns.Stuck items

-- NotRising comes first, exactly if the generations of an endpoint do not rise. Folded comes next, exactly if a record
-- of a life is folded. OutOfMemory comes only in place of an order or of heads.
abbrev pub IsAudited : List LivesValue → Result Order AuditFault → Type 0
IsAudited lives (Ok order) = IsOrder lives order.items.items
IsAudited lives (Err (Stuck heads)) = IsStuck lives heads.items
IsAudited lives (Err (Other NotRising)) = GenerationsRise lives → ⊥
IsAudited lives (Err (Other Folded)) = GenerationsRise lives × (AreWhole lives → ⊥)
IsAudited lives (Err (Other OutOfMemory)) = GenerationsRise lives × AreWhole lives
IsAudited lives (Err (Other fault)) = ⊥
