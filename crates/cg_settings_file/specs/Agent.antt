-- The settings of a node that runs until it is stopped, or the key by which a text holds none.
use Rattle.std.specs.Prelude.{ℕ, ◌||◌, nat_lt, Bool, false, List, codes, bytes_eq, Option, Some, None, Result, Ok, Err, if◌then◌else◌}
use Rattle.std.specs.Option.{ok_or}
use Rattle.std.specs.Result.{result_map_both}
use Rattle.toml.specs.Data.{Data, Members, no_members, member, as_str, as_bool, get_member}
use Rattle.toml.specs.Parse.{parse_document}
use Rattle.cg_types.specs.ResultSteps.{◌>>=◌}
use Rattle.cg_core.specs.SettingsValues.{SettingsValue}
use Rattle.cg_settings_file.specs.declared.agent.AgentInput.{AgentInput}
use Rattle.cg_settings_file.specs.declared.agent.AgentInput.TheVariants.{Ignore, Stop, Lines}
use Rattle.cg_settings_file.specs.declared.limits.TheConstants.{INTERVAL_LIMIT, DEFAULT_INTERVAL, LOAD_LIMIT, RECEIVER_LIMIT, DEFAULT_JOURNAL_MB, DEFAULT_KEEP, DEFAULT_RECEIVERS}
use Rattle.cg_settings_file.specs.Keys.{is_silence_key}
use Rattle.cg_settings_file.specs.Values.{text_or_key, endpoint_at, number_or_key}
use Rattle.cg_settings_file.specs.Settings.{node_from, random_from, text_in}

-- ---- keys

-- keys whose values are texts: of the cluster, the endpoint, the files, the seeds, and of standard input
unfoldable pub is_agent_text_key : List ℕ → Bool
is_agent_text_key key =
    bytes_eq key (codes "cluster") || (bytes_eq key (codes "listen") || (bytes_eq key (codes "generation_file")
    || (bytes_eq key (codes "journals") || (bytes_eq key (codes "seeds") || bytes_eq key (codes "stdin")))))

-- keys of its loads, and of the seed of the random words
unfoldable pub is_load_key : List ℕ → Bool
is_load_key key =
    bytes_eq key (codes "interval") || (bytes_eq key (codes "random") || (bytes_eq key (codes "journal_mb")
    || (bytes_eq key (codes "keep") || bytes_eq key (codes "receivers"))))

-- keys of HTTP
unfoldable pub is_http_key : List ℕ → Bool
is_http_key key = bytes_eq key (codes "http") || bytes_eq key (codes "http_writes")

-- a key that has a meaning
unfoldable pub is_agent_key : List ℕ → Bool
is_agent_key key = is_agent_text_key key || (is_load_key key || (is_http_key key || is_silence_key key))

-- the first key that has no meaning
unfoldable pub unknown_to_agents : Members → Option (List ℕ)
unknown_to_agents no_members = None
unknown_to_agents (member key value table) = if is_agent_key key then unknown_to_agents table else Some key

-- ---- values

-- the number, unless it is 0
abbrev pub if_positive : List ℕ → ℕ → Result ℕ (List ℕ)
if_positive key n = if nat_lt 0 n then Ok n else Err key

-- the whole number from 1 to the greatest at a key, or the default if the key is missing; or the key
abbrev pub positive_or_key : List ℕ → ℕ → ℕ → Members → Result ℕ (List ℕ)
positive_or_key key most default table = number_or_key key most (Some default) table >>= if_positive key

-- milliseconds between two rounds, MiB of journal, records in memory, threads that answer
pub record LoadsValue : Type 0 where
  pub interval : ℕ
  pub journal_mb : ℕ
  pub keep : ℕ
  pub receivers : ℕ

unfoldable pub loads_from : Members → Result LoadsValue (List ℕ)
loads_from table = do
  interval ← number_or_key (codes "interval") INTERVAL_LIMIT (Some DEFAULT_INTERVAL) table
  journal_mb ← positive_or_key (codes "journal_mb") LOAD_LIMIT DEFAULT_JOURNAL_MB table
  keep ← positive_or_key (codes "keep") LOAD_LIMIT DEFAULT_KEEP table
  receivers ← positive_or_key (codes "receivers") RECEIVER_LIMIT DEFAULT_RECEIVERS table
  Ok (record { interval = interval; journal_mb = journal_mb; keep = keep; receivers = receivers })

abbrev pub journals_or : Members → Option Data → Result (Option (List ℕ)) (List ℕ)
journals_or table None = Ok None
journals_or table (Some value) = text_or_key (codes "journals") table >>= λ path. Ok (Some path)

-- the path of the folder of journals, if there is one
unfoldable pub journals_from : Members → Result (Option (List ℕ)) (List ℕ)
journals_from table = journals_or table (get_member (codes "journals") table)

-- the use of standard input that a word names
abbrev pub input_named : List ℕ → Option AgentInput
input_named word =
    if bytes_eq word (codes "ignore") then Some Ignore
    else if bytes_eq word (codes "stop") then Some Stop
    else if bytes_eq word (codes "lines") then Some Lines
    else None

abbrev pub input_of : Option (List ℕ) → Option AgentInput
input_of None = None
input_of (Some word) = input_named word

-- the use of standard input
unfoldable pub input_from : Option Data → Option AgentInput
input_from None = Some Ignore
input_from (Some value) = input_of (as_str value)

-- where HTTP is served, if anywhere, and whether it may change keys and stop the node
pub record HttpValue : Type 0 where
  pub at : Option ℕ
  pub writes : Bool

abbrev pub http_at_or : Members → Option Data → Result (Option ℕ) (List ℕ)
http_at_or table None = Ok None
http_at_or table (Some value) = ok_or (endpoint_at (codes "http") table) (codes "http") >>= λ at. Ok (Some at)

unfoldable pub http_at_from : Members → Result (Option ℕ) (List ℕ)
http_at_from table = http_at_or table (get_member (codes "http") table)

unfoldable pub writes_from : Option Data → Option Bool
writes_from None = Some false
writes_from (Some value) = as_bool value

unfoldable pub http_from : Members → Result HttpValue (List ℕ)
http_from table = do
  at ← http_at_from table
  writes ← ok_or (writes_from (get_member (codes "http_writes") table)) (codes "http_writes")
  Ok (record { at = at; writes = writes })

-- the settings of a node that runs until it is stopped
pub record AgentValue : Type 0 where
  pub node : SettingsValue
  pub listen : ℕ
  pub generation_file : List ℕ
  pub journals : Option (List ℕ)
  pub loads : LoadsValue
  pub random : ℕ
  pub input : AgentInput
  pub http : HttpValue

-- the settings, unless a key has no meaning
abbrev pub if_agent_known : Option (List ℕ) → AgentValue → Result AgentValue (List ℕ)
if_agent_known None s = Ok s
if_agent_known (Some key) s = Err key

-- The settings in a table; or the key by which it holds none: the first, in this order, whose value is missing, of
-- another type or out of its range, else the first that has no meaning.
unfoldable pub agent_from : Members → Result AgentValue (List ℕ)
agent_from table = do
  told ← node_from table
  listen ← ok_or (endpoint_at (codes "listen") table) (codes "listen")
  generation_file ← text_or_key (codes "generation_file") table
  journals ← journals_from table
  loads ← loads_from table
  random ← ok_or (random_from table) (codes "random")
  input ← ok_or (input_from (get_member (codes "stdin") table)) (codes "stdin")
  http ← http_from table
  if_agent_known (unknown_to_agents table)
      (record { node = told; listen = listen; generation_file = generation_file; journals = journals; loads = loads; random = random; input = input; http = http })

-- the settings in a text, or the key by which it holds none, if it is a table
unfoldable pub agent_or_key : List ℕ → Result AgentValue (Option (List ℕ))
agent_or_key text =
    ok_or (parse_document text) None >>= λ table. result_map_both (λ s. s) Some (agent_from table)

-- the settings in the bytes of a file, or the key by which they hold none, if they are a table's text
unfoldable pub agent_or_key_in_bytes : List ℕ → Result AgentValue (Option (List ℕ))
agent_or_key_in_bytes bytes = ok_or (text_in bytes) None >>= agent_or_key
