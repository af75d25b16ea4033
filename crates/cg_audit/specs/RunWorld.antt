-- The world by places after the order of lives that are one run.
use Rattle.std.specs.Prelude.{ℕ, suc, ◌≡◌, ◌⊎◌, ⊤, List, [], ◌∷◌}
use Rattle.cg_places.specs.PlaceWorld.{PlaceWorld, PlaceAction, Start, nobody, after_action, world_after}
use Rattle.cg_places.specs.Laws.{IsWorld}
use Rattle.cg_places.specs.Step.{handed_message, action_at, IsPlaced, IsSentBefore}
use Rattle.cg_history.specs.declared.item.Item.{Item}
use Rattle.cg_history.specs.History.{HistoryValue}
use Rattle.cg_audit.specs.Items.{RunItem, LivesValue, AreLives, AreWhole, generation_of}
use Rattle.cg_audit.specs.OneRun.{IsOneRun}
use Rattle.cg_audit.specs.RunHeadline.{histories_at, EndsWith}

-- ---- records by their numbers

-- The record has this number among these, of which the first has the other number.
abbrev pub IsNumbered : ℕ → List Item → ℕ → Item → Type 0
IsNumbered first [] number r = ⊥
IsNumbered first (q ∷ qs) number r = ((first ≡ number) × (q ≡ r)) ⊎ IsNumbered (suc first) qs number r

-- The record has this number in the life of this generation.
abbrev pub IsRecordOf : List HistoryValue → ℕ → ℕ → Item → Type 0
IsRecordOf [] generation number r = ⊥
IsRecordOf (h ∷ hs) generation number r =
    ((generation_of h ≡ generation) × IsNumbered 1 h.records number r) ⊎ IsRecordOf hs generation number r

-- ---- actions of items

-- By the records of each endpoint, generation and number.
module _ (Holds : ℕ → ℕ → ℕ → Item → Type 0) where
  -- The action is the event of the item's record. A message that it hands over was sent under this number.
  pub record IsEventOf (w : PlaceWorld) (i : RunItem) (a : PlaceAction) : Type 0 where
    pub done : Item
    pub held : Holds i.endpoint i.generation i.number done
    pub message : ℕ
    pub sent : IsSentBefore w message (handed_message done.event)
    pub is : a ≡ action_at i.endpoint message done.event

  -- The action is the item's: a start, or an event.
  abbrev pub IsActionOf : PlaceWorld → RunItem → PlaceAction → Type 0
  IsActionOf w i a = ((i.number ≡ 0) × (a ≡ Start i.endpoint i.generation)) ⊎ IsEventOf w i a

  -- The actions are those of the items, one after the other from this world.
  abbrev pub AreActionsOf : PlaceWorld → List RunItem → List PlaceAction → Type 0
  AreActionsOf w [] [] = ⊤
  AreActionsOf w (i ∷ is) (a ∷ actions) = IsActionOf w i a × AreActionsOf (after_action w a) is actions
  AreActionsOf w _ _ = ⊥

-- ---- the world

-- the world after the actions of an order, in which the table at the end of each endpoint's last life spells its places
pub record IsWorldOf (lives : List LivesValue) (order : List RunItem) (w : PlaceWorld) : Type 0 where
  pub actions : List PlaceAction
  pub are : AreActionsOf (λ e. IsRecordOf (histories_at lives e)) nobody order actions
  pub after : w ≡ world_after actions
  pub world : IsWorld w
  pub placed : (endpoint : ℕ) (h : HistoryValue) → EndsWith lives endpoint h → IsPlaced w endpoint h.node

-- Lives that are one run, none of whose records is folded, have such a world, whatever the settings of each and however
-- many endpoints there are.
abbrev pub RunsHaveAWorld : Type 0
RunsHaveAWorld =
    (lives : List LivesValue) (order : List RunItem) → AreLives lives → AreWhole lives → IsOneRun lives order
    → (w : PlaceWorld) × IsWorldOf lives order w
