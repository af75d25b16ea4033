-- The seeds that an array lists: endpoints, sorted and made distinct.
use Rattle.std.specs.Prelude.{ℕ, List, [], ◌∷◌, Option, Some, None}
use Rattle.std.specs.Ordering.{nat_cmp}
use Rattle.std.specs.BTreeSet.{insert_key}
use Rattle.toml.specs.Data.{Data, Items, no_items, item, as_array}
use Rattle.cg_types.specs.OptionSteps.{◌>>=◌}
use Rattle.cg_settings_file.specs.Values.{endpoint_in_value}

-- the endpoints whose texts the items are, if each is one
unfoldable pub endpoints_in : Items → Option (List ℕ)
endpoints_in no_items = Some []
endpoints_in (item value items) = do
  endpoint ← endpoint_in_value value
  endpoints ← endpoints_in items
  Some (endpoint ∷ endpoints)

-- rising endpoints with others inserted, each in its order unless it is there already
abbrev pub put_in_order : List ℕ → List ℕ → List ℕ
put_in_order seeds [] = seeds
put_in_order seeds (endpoint ∷ endpoints) = put_in_order (insert_key nat_cmp seeds endpoint) endpoints

-- the same endpoints, rising, each once
unfoldable pub distinct : List ℕ → List ℕ
distinct = put_in_order []

-- the endpoints that a value lists, sorted and made distinct; an empty list if there is no value
unfoldable pub seeds_in : Option Data → Option (List ℕ)
seeds_in None = Some []
seeds_in (Some value) = do
  items ← as_array value
  listed ← endpoints_in items
  Some (distinct listed)
