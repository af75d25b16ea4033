-- Items: the starts and the records of nodes' lives.
use Rattle.std.specs.Prelude.{ℕ, suc, ◌==◌, ◌≡◌, List, [], ◌∷◌, ◌++◌, Option, None, if◌then◌else◌}
use Rattle.std.specs.List.{AllByRecursion}
use Rattle.cg_table.specs.Own.{own_entry}
use Rattle.cg_messages.specs.declared.message.Message.{Message}
use Rattle.cg_core.specs.Sending.{message_of}
use Rattle.cg_places.specs.Step.{handed_message}
use Rattle.cg_history.specs.declared.item.Item.{Item}
use Rattle.cg_history.specs.History.{HistoryValue, IsReplayed}

-- an item of a life: its start, which is item 0, or a record, by its number
pub record RunItem : Type 0 where
  pub endpoint : ℕ
  pub generation : ℕ
  pub number : ℕ
  -- the message that was handled, and the one that was sent
  pub handled : Option Message
  pub sent : Option Message

-- all lives of an endpoint, the first one first
pub record LivesValue : Type 0 where
  pub endpoint : ℕ
  pub histories : List HistoryValue

-- The history began with a start of the endpoint. Records led from there to its base, and those kept lead on to its
-- node.
pub record IsLife (endpoint : ℕ) (h : HistoryValue) : Type 0 where
  pub own : h.start.table.own ≡ endpoint
  pub replayed : IsReplayed h

-- Each of these histories is a life of its endpoint.
abbrev pub AreLives : List LivesValue → Type 0
AreLives lives = AllByRecursion (λ (l : LivesValue). AllByRecursion (IsLife l.endpoint) l.histories) lives

-- No record of any of these histories is folded, so each has all records since its start.
abbrev pub AreWhole : List LivesValue → Type 0
AreWhole lives =
    AllByRecursion (λ (l : LivesValue). AllByRecursion (λ (h : HistoryValue). h.folded ≡ 0) l.histories) lives

abbrev pub start_item : ℕ → ℕ → RunItem
start_item endpoint generation =
    record { endpoint = endpoint; generation = generation; number = 0; handled = None; sent = None }

abbrev pub item_of : ℕ → ℕ → ℕ → Item → RunItem
item_of endpoint generation number r = record {
  endpoint = endpoint;
  generation = generation;
  number = number;
  handled = handed_message r.event;
  sent = message_of r.reply;
}

-- records as items, numbered from here
abbrev pub items_from : ℕ → ℕ → ℕ → List Item → List RunItem
items_from endpoint generation number [] = []
items_from endpoint generation number (r ∷ rs) =
    item_of endpoint generation number r ∷ items_from endpoint generation (suc number) rs

-- the generation of a life
abbrev pub generation_of : HistoryValue → ℕ
generation_of h = (own_entry h.base.table).generation

-- the items of one life, and those of more
abbrev pub items_of_life : ℕ → HistoryValue → List RunItem
items_of_life endpoint h =
    start_item endpoint (generation_of h) ∷ items_from endpoint (generation_of h) 1 h.records

abbrev pub items_of_lives : ℕ → List HistoryValue → List RunItem
items_of_lives endpoint [] = []
items_of_lives endpoint (h ∷ hs) = items_of_life endpoint h ++ items_of_lives endpoint hs

-- all items of an endpoint, which may have no life
abbrev pub items_at : List LivesValue → ℕ → List RunItem
items_at [] endpoint = []
items_at (l ∷ ls) endpoint =
    if l.endpoint == endpoint then items_of_lives endpoint l.histories else items_at ls endpoint
