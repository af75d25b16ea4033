-- Turns over the items left of each endpoint.
use Rattle.std.specs.Prelude.{ℕ, ◌≡◌, ◌≤◌, ◌==◌, ◌&&◌, is_some, nat_lt, slice_index, Bool, true, not, if◌then◌else◌, ⊤, List, [], ◌∷◌, ◌++◌, length, drop, map, Option, Some, None, Result, Ok, Err, slice_get}
use Rattle.std.specs.Option.{option_and_then}
use Rattle.cg_types.specs.Rising.{is_among}
use Rattle.cg_types.specs.declared.fault.Fault.TheVariants.{OutOfMemory}
use Rattle.cg_messages.specs.declared.message.Message.{Message}
use Rattle.cg_history.specs.History.{HistoryValue}
use Rattle.cg_audit.specs.Items.{RunItem, LivesValue, items_of_life, items_of_lives}
use Rattle.cg_audit.specs.Turns as turns
use Rattle.cg_audit.specs.declared.item.Order.{Order}
use Rattle.cg_audit.specs.declared.item.AuditFault.{AuditFault}
use Rattle.cg_audit.specs.declared.item.AuditFault.TheVariants.{Other, Stuck}
use Rattle.cg_audit.specs.declared.cursor.Cursor.{Cursor}
use Rattle.cg_audit.specs.Track.{Track}
use Rattle.cg_audit.specs.Audit.{life_item}

-- all items of lives, none of which has gone
abbrev pub track_of : LivesValue → Track
track_of l = record { endpoint = l.endpoint; left = items_of_lives l.endpoint l.histories }

-- `true` if no number comes twice
abbrev pub are_distinct : List ℕ → Bool
are_distinct [] = true
are_distinct (x ∷ xs) = not (is_among xs x) && are_distinct xs

abbrev pub endpoints_in : List Track → List ℕ
endpoints_in ts = map (λ (t : Track). t.endpoint) ts

-- the items left of an endpoint
abbrev pub left_in : List Track → ℕ → List RunItem
left_in [] e = []
left_in (t ∷ ts) e = if t.endpoint == e then t.left else left_in ts e

-- ---- cursors

-- the items of these lives, from this item of the first life on
abbrev pub left_from : ℕ → List HistoryValue → ℕ → List RunItem
left_from e [] number = []
left_from e (h ∷ hs) number = drop number (items_of_life e h) ++ items_of_lives e hs

abbrev pub left_at : ℕ → List HistoryValue → Cursor → List RunItem
left_at e histories c = left_from e (drop c.life histories) c.number

-- The life has an item of this number, if there is such a life.
abbrev pub IsHere : List HistoryValue → Cursor → Type 0
IsHere histories c = (h : HistoryValue) → slice_get histories c.life ≡ Some h → c.number ≤ length h.records

-- the item of this number
abbrev pub item_here : ℕ → List HistoryValue → Cursor → Option RunItem
item_here e histories c =
    option_and_then (λ (h : HistoryValue). slice_get (items_of_life e h) c.number) (slice_get histories c.life)

abbrev pub track_at : LivesValue → Cursor → Track
track_at l c = record { endpoint = l.endpoint; left = left_at l.endpoint l.histories c }

abbrev pub tracks : List LivesValue → List Cursor → List Track
tracks [] cs = []
tracks (l ∷ ls) [] = []
tracks (l ∷ ls) (c ∷ cs) = track_at l c ∷ tracks ls cs

-- cursors before the first item of each endpoint
abbrev pub first_cursors : List LivesValue → List Cursor
first_cursors lives = map (λ (l : LivesValue). record { life = 0; number = 0 }) lives

-- the track after its next item has gone
abbrev pub advanced : Track → Track
advanced t = record { endpoint = t.endpoint; left = turns.rest t.left }

-- the result of the turns
abbrev pub found_of : List Track → turns.Found
found_of ts =
    turns.turns (turns.count_left (endpoints_in ts) (left_in ts)) (endpoints_in ts) (left_in ts) []

-- ---- one turn

-- `true` if the message that an item handles, if any, was sent
abbrev pub goes : List Message → Option Message → Bool
goes sent None = true
goes sent (Some m) = turns.is_among sent m

-- the next of these items, if it can go
abbrev pub ready_item : List Message → List RunItem → Option RunItem
ready_item sent [] = None
ready_item sent (i ∷ is) = if goes sent i.handled then Some i else None

-- the item that goes next
abbrev pub next_item : List Message → List Track → Option RunItem
next_item sent [] = None
next_item sent (t ∷ ts) = turns.lesser (ready_item sent t.left) (next_item sent ts)

-- the next item of each endpoint that has one
abbrev pub heads_left : List Track → List RunItem
heads_left [] = []
heads_left (t ∷ ts) = turns.first t.left ++ heads_left ts

-- ---- the choice of a turn

-- The item is the next one of the track at this place.
pub record IsFirstAt (ts : List Track) (place : ℕ) (i : RunItem) : Type 0 where
  pub track : Track
  pub at : slice_get ts place ≡ Some track
  pub first : turns.first track.left ≡ i ∷ []

-- The item, if there is one, is the next one of the track at the place, if there is one.
abbrev pub AreFirst : List Track → Option ℕ → Option RunItem → Type 0
AreFirst ts None None = ⊤
AreFirst ts None (Some i) = ⊥
AreFirst ts (Some place) None = ⊥
AreFirst ts (Some place) (Some i) = IsFirstAt ts place i

-- The item that goes next, if one can, is the next one of the track at the place.
pub record IsNext (sent : List Message) (ts : List Track) (place : Option ℕ) : Type 0 where
  pub item : Option RunItem
  pub next : next_item sent ts ≡ item
  pub first : AreFirst ts place item

-- `true` if the number at a place is less than the one at another, or if there is no other
abbrev pub is_before : List ℕ → ℕ → Option ℕ → Bool
is_before es place None = true
is_before es place (Some other) = nat_lt (slice_index es place) (slice_index es other)

-- `true` if the next item at a place can go
abbrev pub is_ready : List Message → List Track → ℕ → Bool
is_ready sent ts place =
    is_some (option_and_then (λ (t : Track). ready_item sent t.left) (slice_get ts place))

-- the place that goes, of the chosen one and another
abbrev pub better_place : List Message → List ℕ → List Track → ℕ → Option ℕ → Option ℕ
better_place sent es ts place chosen =
    if is_before es place chosen && is_ready sent ts place then Some place else chosen

-- ---- the answer

-- The order, or the heads, are those that turns found; the only other answer is that memory ran out.
abbrev pub IsFound : turns.Found → Result Order AuditFault → Type 0
IsFound (turns.Order items) (Ok order) = order.items.items ≡ map life_item items
IsFound (turns.Order items) (Err (Stuck heads)) = ⊥
IsFound (turns.Order items) (Err (Other fault)) = fault ≡ OutOfMemory
IsFound (turns.Stuck items) (Ok order) = ⊥
IsFound (turns.Stuck items) (Err (Stuck heads)) = heads.items ≡ map life_item items
IsFound (turns.Stuck items) (Err (Other fault)) = fault ≡ OutOfMemory
