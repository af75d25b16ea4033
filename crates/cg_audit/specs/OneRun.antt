-- One run: an order that the items of all lives can have had.
use Rattle.std.specs.Prelude.{ℕ, ◌≡◌, ◌==◌, ⊤, List, [], ◌∷◌, ◌++◌, Option, Some, None, map}
use Rattle.std.specs.List.{AllByRecursion, Contains, filter, filter_map}
use Rattle.cg_types.specs.Rising.{Rises}
use Rattle.cg_messages.specs.declared.message.Message.{Message}
use Rattle.cg_audit.specs.Items.{RunItem, LivesValue, generation_of, items_at}

-- the messages that these items sent
abbrev pub messages_of : List RunItem → List Message
messages_of items = filter_map (λ (i : RunItem). i.sent) items

-- The message, if there is one, was sent by one of these items.
abbrev pub WasSent : List RunItem → Option Message → Type 0
WasSent before None = ⊤
WasSent before (Some m) = Contains (messages_of before) m

-- Each item handles only messages that those before it had sent.
abbrev pub EachWasSent : List RunItem → List RunItem → Type 0
EachWasSent before [] = ⊤
EachWasSent before (i ∷ is) = WasSent before i.handled × EachWasSent (before ++ i ∷ []) is

-- the items of an endpoint among these
abbrev pub items_by : ℕ → List RunItem → List RunItem
items_by endpoint items = filter (λ (i : RunItem). i.endpoint == endpoint) items

-- Each endpoint's later lives have greater generations.
abbrev pub GenerationsRise : List LivesValue → Type 0
GenerationsRise lives = AllByRecursion (λ (l : LivesValue). Rises (map generation_of l.histories)) lives

-- The order has the items of all lives, those of each endpoint in their order, and each message was sent before it is
-- handled.
pub record IsOneRun (lives : List LivesValue) (order : List RunItem) : Type 0 where
  pub items : (endpoint : ℕ) → items_by endpoint order ≡ items_at lives endpoint
  pub sent : EachWasSent [] order
  pub rise : GenerationsRise lives
