-- The journal of a life, as far as a writer holds it.
use Rattle.std.specs.Prelude.{ℕ, ◌-◌, ◌≡◌, ◌≤◌, Bool, false, List, ◌∷◌, length, take, Option, None, Some, IsSome, ⊤}
use Rattle.std.specs.Coded.{Coded-set, coded_list, coded_ℕ, ×_prop, →_prop, Unit-prop, le_prop}
use Rattle.cg_core.specs.Values.{NodeValue}
use Rattle.cg_history.specs.declared.item.Item.{Item}
use Rattle.cg_journal.specs.Text.{life_line, event_lines, joined}

-- Whatever is written to such a writer, it tells what it holds.
abbrev pub AlwaysTells : {W : Type 0} → (W → Option (List ℕ)) → Type 0
AlwaysTells {W} contents = (w : W) → IsSome (contents w)

-- the text of a life: its first line, and a line for each of its records
abbrev pub life_text : NodeValue → List Item → List ℕ
life_text start records = joined (life_line start ∷ event_lines records)

-- all of these records but the last
abbrev pub but_last : List Item → List Item
but_last records = take (length records - 1) records

-- The bytes are the text of a life. After a write that failed, the end of the last line may be missing.
abbrev pub IsTextOf : NodeValue → List Item → Bool → List ℕ → Type 0
IsTextOf start records torn bytes =
    (torn ≡ false → bytes ≡ life_text start records)
    × ((bytes ≡ take (length bytes) (life_text start records))
    × (length (life_text start (but_last records)) ≤ length bytes))

-- What a writer holds, if it tells, is the text of a life.
abbrev pub HoldsText : NodeValue → List Item → Bool → Option (List ℕ) → Type 0
HoldsText start records torn None = ⊤
HoldsText start records torn (Some bytes) = IsTextOf start records torn bytes

-- That has one proof at most, so a ghost field may say it.
pub HoldsText-prop : (start : NodeValue) (records : List Item) (torn : Bool) (held : Option (List ℕ))
    → IsProp (HoldsText start records torn held)
HoldsText-prop start records torn None = Unit-prop
HoldsText-prop start records torn (Some bytes) =
    ×_prop (→_prop (Coded-set (coded_list coded_ℕ) bytes (life_text start records)))
    (×_prop (Coded-set (coded_list coded_ℕ) bytes (take (length bytes) (life_text start records))) le_prop)
