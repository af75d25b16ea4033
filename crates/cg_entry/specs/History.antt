-- Histories: the entries of one owner, each following the one before.
use Rattle.std.specs.Prelude.{◌≡◌, ℕ, suc, ◌<◌, true, List, Option, Some, None}
pub use Rattle.cg_types.specs.ListPlace.{at_place}
use Rattle.cg_entry.specs.Values.{EntryValue}
use Rattle.cg_entry.specs.Entry.{starting_entry, entry_after_beat, with_state, has_text}

-- Entry y may come next after x: the owner starts again, beats, gives a key a text, or removes a text that stands.
pub data Follows (x y : EntryValue) : Type 0 where
  Starts : (generation : ℕ) → x.generation < generation → y ≡ starting_entry generation → Follows x y
  Beats : y ≡ entry_after_beat x → Follows x y
  Sets : (key : ℕ) (text : List ℕ) → y ≡ with_state key (Some text) x → Follows x y
  Removes : (key : ℕ) → has_text key x ≡ true → y ≡ with_state key None x → Follows x y

-- The entries of one owner, oldest first: the first is a start, and each other follows the one before.
pub record IsHistory (history : List EntryValue) : Type 0 where
  pub begins : (x : EntryValue) → at_place history 1 ≡ Some x → (generation : ℕ) × (x ≡ starting_entry generation)
  pub goes_on : (place : ℕ) (x y : EntryValue)
      → at_place history place ≡ Some x → at_place history (suc place) ≡ Some y → Follows x y

abbrev pub generation_of : Option EntryValue → ℕ
generation_of None = 0
generation_of (Some e) = e.generation

-- the generation at a place, and 0 at none
abbrev pub generation_at : List EntryValue → ℕ → ℕ
generation_at history place = generation_of (at_place history place)
