-- The values at the keys of a table.
use Rattle.std.specs.Prelude.{ℕ, nat_le, List, codes, pos, Option, Some, None, Result, if◌then◌else◌}
use Rattle.std.specs.Option.{ok_or}
use Rattle.std.specs.Result.{result_ok}
use Rattle.toml.specs.Data.{Data, Members, integer, as_str, get_member}
use Rattle.cg_types.specs.OptionSteps.{◌>>=◌}
use Rattle.cg_types.specs.EndpointText.{endpoint_in}
use Rattle.cg_types.specs.Text.{ClusterValue, cluster_of}
use Rattle.cg_types.specs.declared.limits.TheConstants.{PARTITIONER}

-- the text at a key
unfoldable pub text_at : List ℕ → Members → Option (List ℕ)
text_at key table = get_member key table >>= as_str

-- the endpoint whose text a value is
unfoldable pub endpoint_in_value : Data → Option ℕ
endpoint_in_value value = as_str value >>= endpoint_in

-- the endpoint at a key
unfoldable pub endpoint_at : List ℕ → Members → Option ℕ
endpoint_at key table = get_member key table >>= endpoint_in_value

-- the cluster that the table names
unfoldable pub cluster_from : Members → Option ClusterValue
cluster_from table = do
  name ← text_at (codes "cluster") table
  result_ok (cluster_of name PARTITIONER)

-- the whole number from 0 on that a value is
unfoldable pub number_in : Data → Option ℕ
number_in (integer (pos n)) = Some n
number_in _ = None

-- the whole number from 0 to the greatest that a value is
unfoldable pub small_number_in : ℕ → Data → Option ℕ
small_number_in most value = do
  n ← number_in value
  if nat_le n most then Some n else None

abbrev pub number_or : ℕ → Option ℕ → Option Data → Option ℕ
number_or most default None = default
number_or most default (Some value) = small_number_in most value

-- the whole number from 0 to the greatest at a key; if the key is missing, the default, if there is one
unfoldable pub number_at : List ℕ → ℕ → Option ℕ → Members → Option ℕ
number_at key most default table = number_or most default (get_member key table)

-- the same number, or the key
abbrev pub number_or_key : List ℕ → ℕ → Option ℕ → Members → Result ℕ (List ℕ)
number_or_key key most default table = ok_or (number_at key most default table) key

-- the text at a key, or the key
abbrev pub text_or_key : List ℕ → Members → Result (List ℕ) (List ℕ)
text_or_key key table = ok_or (text_at key table) key
