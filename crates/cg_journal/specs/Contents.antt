-- Histories whose text is read again: their numbers and texts are such as the types of events and settings allow.
use Rattle.std.specs.Prelude.{ℕ, ◌≡◌, ◌<◌, ◌^◌, List, length}
use Rattle.std.specs.List.{AllByRecursion}
use Rattle.cg_types.specs.Numbers.{IsEndpoint, IsKey}
use Rattle.cg_types.specs.Text.{IsStateText, IsCluster}
use Rattle.cg_messages.specs.Contents.{IsSyn, IsAck, IsAck2}
use Rattle.cg_silence.specs.Values.{IsSilence}
use Rattle.cg_core.specs.declared.event.Event.{Event}
use Rattle.cg_core.specs.declared.event.Event.TheVariants as event
use Rattle.cg_core.specs.SettingsValues.{SettingsValue, IsSettings}
use Rattle.cg_history.specs.History.{HistoryValue, IsReplayed}

-- a time in milliseconds or a random word
abbrev pub IsCount : ℕ → Type 0
IsCount n = n < 2 ^ 64

-- the random words of a round
pub record AreWords (words : List ℕ) : Type 0 where
  pub four : length words ≡ 4
  pub counts : AllByRecursion IsCount words

-- A property of every event: its values are in their ranges.
abbrev pub IsEvent : Event → Type 0
IsEvent event.Beat = Unit
IsEvent (event.Set key text) = IsKey key × IsStateText text
IsEvent (event.Remove key) = IsKey key
IsEvent (event.Tick now words) = IsCount now × AreWords words
IsEvent event.Opening = Unit
IsEvent (event.Syn m) = IsSyn m
IsEvent (event.Ack now m) = IsCount now × IsAck m
IsEvent (event.Ack2 now m) = IsCount now × IsAck2 m

-- An endpoint and settings that a node may start with.
pub record MayStart (own : ℕ) (s : SettingsValue) : Type 0 where
  pub endpoint : IsEndpoint own
  pub settings : IsSettings s
  pub cluster : IsCluster s.cluster
  pub seeds : AllByRecursion IsEndpoint s.seeds
  pub silence : IsSilence s.silence

-- A history with a text: no record of it is folded, its node may start, and its records are of events.
pub record IsWritable (h : HistoryValue) : Type 0 where
  pub replayed : IsReplayed h
  pub whole : h.folded ≡ 0
  pub start : MayStart h.start.table.own h.start.settings
  pub events : AllByRecursion (λ r. IsEvent r.event) h.records
