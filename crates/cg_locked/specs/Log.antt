-- The rule of the log of records, and the outcomes of its steps.
use Rattle.std.specs.Prelude.{ℕ, ◌≡◌, ◌+◌, ◌*◌, ◌≤◌, ◌==◌, true, false, List, [], ◌∷◌, ◌++◌, length, replicate, MatchBool}
use Rattle.logbook.specs.Pages.{Cell, Step, View, Book, Named, Nib, nib, may_make, may_write}
use Rattle.cg_core.specs.declared.event.Event.TheVariants as event
use Rattle.cg_core.specs.declared.reply.Reply.TheVariants as reply
use Rattle.cg_history.specs.declared.item.Item.{Item}

-- a place at home for each record, and this number of places prepared, which are not at home
abbrev pub places : ℕ → ℕ → List Cell
places ready count = replicate count (0, true) ++ replicate ready (0, false)

-- The words of a book with this number of records. The first one rises by 1 with each step; the second is not used.
abbrev pub cells_of : ℕ → ℕ → List Cell
cells_of ready count = (2 * count + ready, true) ∷ (0, true) ∷ places ready count

-- The words are those of a book with these records, and some places prepared.
abbrev pub IsKept : {A : Type 0} → List Cell → List A → Type 0
IsKept cells log = (ready : ℕ) × (cells ≡ cells_of ready (length log))

abbrev pub head_of : Book → Named
head_of b = record { tracked = true; key = 0; book = b }

-- The right to the place behind these records. As long as it is not at home, there are no more records.
abbrev pub place_behind : {A : Type 0} → List A → Nib
place_behind log = nib may_write (length log + 2) 0

-- A place was prepared behind all records, which were seen before; or there were more.
abbrev pub Prepares : {A : Type 0} → Step A → View A ℕ → ℕ → View A ℕ → Type 0
Prepares s v found w =
    MatchBool (found == s.old)
    ((w.0 ≡ v.0) × (w.1.0.right ≡ may_make) × (w.1.0.key + length v.0 ≡ s.old + 2)) (Unit {0})

-- The record was added to all that had been seen, in the place behind them; or none was added, and the place is left.
abbrev pub Adds : {A : Type 0} → Step A → View A ℕ → ℕ → View A ℕ → Type 0
Adds s v found w =
    MatchBool (found == s.old) (w.0 ≡ v.0 ++ s.ask ∷ []) ((w.0 ≡ v.0) × (w.1.0 ≡ v.1.0))

-- All records were seen: they do not reach the place, which is left.
abbrev pub Looks : {A : Type 0} → Step A → View A ℕ → ℕ → View A ℕ → Type 0
Looks s v found w = (length w.0 + 2 ≤ v.1.0.key) × (w.1.0 ≡ v.1.0)

-- a record, chosen arbitrarily, for a step that adds none
abbrev pub no_item : Item
no_item = record { caller = 0; event = event.Beat; reply = reply.Done 0; puts = [] }
