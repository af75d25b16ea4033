-- The order that turns find: at each turn the least endpoint goes whose next item can go.
use Rattle.std.specs.Prelude.{ℕ, zero, suc, ◌==◌, ◌||◌, ◌+◌, Bool, true, false, nat_le, if◌then◌else◌, List, [], ◌∷◌, ◌++◌, length, map, Option, Some, None}
use Rattle.cg_types.specs.Equality.{same_by}
use Rattle.cg_messages.specs.declared.message.Message.{Message}
use Rattle.cg_messages.specs.MessageCode.{message_code}
use Rattle.cg_audit.specs.Items.{RunItem, LivesValue, items_at}
use Rattle.cg_audit.specs.OneRun.{messages_of}

abbrev pub is_among : List Message → Message → Bool
is_among [] m = false
is_among (x ∷ xs) m = same_by message_code x m || is_among xs m

-- `true` if the message that an item handles, if any, was sent by those gone
abbrev pub can_go : List RunItem → Option Message → Bool
can_go gone None = true
can_go gone (Some m) = is_among (messages_of gone) m

-- the next of these items, if it can go
abbrev pub ready : List RunItem → List RunItem → Option RunItem
ready gone [] = None
ready gone (i ∷ is) = if can_go gone i.handled then Some i else None

-- the item of the lesser endpoint, of two items
abbrev pub lesser : Option RunItem → Option RunItem → Option RunItem
lesser None y = y
lesser (Some x) None = Some x
lesser (Some x) (Some y) = if nat_le x.endpoint y.endpoint then Some x else Some y

-- the item that goes next, of those left of these endpoints
abbrev pub next : List ℕ → (ℕ → List RunItem) → List RunItem → Option RunItem
next [] left gone = None
next (e ∷ es) left gone = lesser (ready gone (left e)) (next es left gone)

abbrev pub rest : List RunItem → List RunItem
rest [] = []
rest (i ∷ is) = is

-- the items left once the next item of an endpoint has gone
abbrev pub without_next : (ℕ → List RunItem) → ℕ → ℕ → List RunItem
without_next left endpoint e = if e == endpoint then rest (left e) else left e

-- an order, or the next items that are left, none of which can go
pub data Found : Type 0 where
  Order : List RunItem → Found
  Stuck : List RunItem → Found

abbrev pub first : List RunItem → List RunItem
first [] = []
first (i ∷ is) = i ∷ []

-- the next item of each endpoint that has one
abbrev pub heads : List ℕ → (ℕ → List RunItem) → List RunItem
heads [] left = []
heads (e ∷ es) left = first (left e) ++ heads es left

abbrev pub found : List RunItem → List RunItem → Found
found [] gone = Order gone
found (i ∷ is) gone = Stuck (i ∷ is)

-- the result of a turn
abbrev pub after_turn : Option RunItem → Found → (RunItem → Found) → Found
after_turn None ended onward = ended
after_turn (Some i) ended onward = onward i

-- this number of turns, after these items have gone
abbrev pub turns : ℕ → List ℕ → (ℕ → List RunItem) → List RunItem → Found
turns zero es left gone = found (heads es left) gone
turns (suc n) es left gone =
    after_turn (next es left gone) (found (heads es left) gone)
    (λ i. turns n es (without_next left i.endpoint) (gone ++ i ∷ []))

-- the number of items left
abbrev pub count_left : List ℕ → (ℕ → List RunItem) → ℕ
count_left [] left = 0
count_left (e ∷ es) left = length (left e) + count_left es left

abbrev pub endpoints_of : List LivesValue → List ℕ
endpoints_of lives = map (λ (l : LivesValue). l.endpoint) lives

-- the order of all lives, by as many turns as there are items
abbrev pub order_of : List LivesValue → Found
order_of lives = turns (count_left (endpoints_of lives) (items_at lives)) (endpoints_of lives) (items_at lives) []
