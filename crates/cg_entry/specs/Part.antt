-- The part of an entry's states that is newer than a version.
use Rattle.std.specs.Prelude.{◌≡◌, ℕ, [], ◌∷◌}
use Rattle.std.specs.FinMap as map
use Rattle.std.specs.List.{flat_map}
use Rattle.cg_entry.specs.declared.part.Part.{Part}
use Rattle.cg_entry.specs.declared.part.Part.TheVariants.{Nothing, Each, Last, Some}
use Rattle.cg_entry.specs.Entry.{newer_than}
use Rattle.cg_entry.specs.Section.{state}
use Rattle.cg_entry.specs.State.{pair}
use Rattle.cg_entry.specs.Versioned.{States}

-- That part of the states is newer than the version. Of some nothing more is said.
abbrev pub IsPart : ℕ → States → Part → Type 0
IsPart above states Nothing = newer_than above states ≡ map.empty
IsPart above states (Each section) = (newer_than above states ≡ states) × (section.now ≡ flat_map state (map.entries states))
IsPart above states (Last state) = newer_than above states ≡ map.from_sorted (pair state.now ∷ [])
IsPart above states Some = Unit {0}
