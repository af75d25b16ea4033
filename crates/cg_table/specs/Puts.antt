-- Puts of whole entries, which lead from a table to a later one.
use Rattle.std.specs.Prelude.{ℕ, ◌==◌, Bool, true, false, ◌&&◌, ◌||◌, not, nat_le, List, [], ◌∷◌, Option, Some, None, if◌then◌else◌}
use Rattle.std.specs.Coded.{Coded, coded×, coded_ℕ, coded_list}
use Rattle.std.specs.List.{list_all, filter_map}
use Rattle.std.specs.Option.{option_map}
use Rattle.std.specs.FinMap as map
use Rattle.cg_types.specs.Rising.{rise_past}
use Rattle.cg_types.specs.Rows.{keys_of}
use Rattle.cg_types.specs.Map.{put_each}
use Rattle.cg_entry.specs.Versioned.{Versioned, States}
use Rattle.cg_entry.specs.Values.{EntryValue, entry_code}
use Rattle.cg_table.specs.Values.{TableValue, Entries}
use Rattle.cg_table.specs.Merge.{is_ahead, later_entries}

-- an owner with its whole new entry
abbrev pub Put : Type 0
Put = ℕ × EntryValue

-- the code that a model of puts requires
abbrev pub puts_code : Coded (List Put)
puts_code = coded_list (coded× coded_ℕ entry_code)

-- the puts of a list, if its owners rise
abbrev pub rising_puts : List Put → Option (List Put)
rising_puts ps = if rise_past None (keys_of ps) then Some ps else None

-- The puts that lead from a table to a later one: the owners whose entry changed, rising, each with the whole new
-- entry. An entry changes only to a later one.
abbrev pub puts : TableValue → TableValue → List Put
puts before after = later_entries before.entries after.entries

-- the row of an owner, if it is held
abbrev pub row_at : Entries → ℕ → Option Put
row_at entries owner = option_map (λ e. (owner, e)) (map.get entries owner)

-- the rows of those owners that are held
abbrev pub rows_at : Entries → List ℕ → List Put
rows_at entries owners = filter_map (row_at entries) owners

-- the table with an entry put
abbrev pub with_put : TableValue → Put → TableValue
with_put t put = record { own = t.own; entries = map.insert t.entries put.0 put.1 }

-- the table with entries put, one after the other
abbrev pub with_puts : TableValue → List Put → TableValue
with_puts t ps = record { own = t.own; entries = put_each ps t.entries }

-- a test that something is held, and not at a smaller version
abbrev pub is_held_from : ℕ → Option Versioned → Bool
is_held_from version None = false
is_held_from version (Some s) = nat_le version s.version

-- a test that each key of the old states is among the new ones, and not at a smaller version
abbrev pub keeps_keys : States → States → Bool
keeps_keys old new = list_all (λ s. is_held_from s.1.version (map.get new s.0)) (map.entries old)

-- a test that an owner's entry goes on from what is held: in the same generation, and keeping its keys
abbrev pub goes_on : Option EntryValue → EntryValue → Bool
goes_on None new = false
goes_on (Some old) new = (new.generation == old.generation) && keeps_keys old.states new.states

-- a test that a put is later than what the table holds, and goes on from it if it is the table's own
abbrev pub is_in_order : TableValue → Put → Bool
is_in_order t put =
    let held = map.get t.entries put.0 in
    is_ahead held put.1 && (not (put.0 == t.own) || goes_on held put.1)

-- a test that puts keep the order, one after the other
abbrev pub keep_order : TableValue → List Put → Bool
keep_order t [] = true
keep_order t (put ∷ ps) = is_in_order t put && keep_order (with_put t put) ps
