-- Messages that a layout can spell: the premise of the laws of spelling and reading.
use Rattle.std.specs.Prelude.{ℕ, ◌≡◌, ◌≤◌, true, List, length, Option, Some, None}
use Rattle.std.specs.List.{AllByRecursion}
use Rattle.std.specs.FinMap as map
use Rattle.cg_messages.specs.declared.owner_delta.OwnerDelta.{OwnerDelta}
use Rattle.cg_messages.specs.declared.message.Message.{Message}
use Rattle.cg_messages.specs.declared.message.Message.TheVariants.{Syn, Ack, Ack2}
use Rattle.cg_messages.specs.Messages.{IsMessage}
use Rattle.cg_frames.specs.declared.layout.Layout.{Layout}

-- A list has no more members than the layout allows.
abbrev pub AreFew : {X : Type 0} → Layout → List X → Type 0
AreFew layout members = length members ≤ layout.members

-- A text is no longer than the layout allows; None is a tombstone, which is allowed if the layout has tombstones.
abbrev pub IsShort : Layout → Option (List ℕ) → Type 0
IsShort layout (Some text) = length text ≤ layout.text
IsShort layout None = layout.tombstones ≡ true

-- No text of a delta is longer than the layout allows, and if the layout has no tombstones, the delta has none.
abbrev pub HasShortTexts : Layout → OwnerDelta → Type 0
HasShortTexts layout d = AllByRecursion (λ s. IsShort layout s.1.text) (map.entries d.delta.states)

-- few deltas, each value of which the layout allows
pub record AreWithin (layout : Layout) (deltas : List OwnerDelta) : Type 0 where
  pub few : AreFew layout deltas
  pub short : AllByRecursion (HasShortTexts layout) deltas

-- Lists and texts of the message are within the limits of the layout.
abbrev pub WithinLayout : Layout → Message → Type 0
WithinLayout layout (Syn m) = AreFew layout m.digests
WithinLayout layout (Ack m) = AreFew layout m.requests × AreWithin layout m.deltas
WithinLayout layout (Ack2 m) = AreWithin layout m.deltas

-- The layout can spell the message, which keeps the rules of all messages and the limits of the layout.
pub record Fits (layout : Layout) (m : Message) : Type 0 where
  pub is : IsMessage m
  pub within : WithinLayout layout m
