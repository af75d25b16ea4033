-- The settings that a text holds, or the key by which it holds none.
use Rattle.std.specs.Prelude.{ℕ, List, codes, Option, Some, None, Result, Ok, Err, if◌then◌else◌}
use Rattle.std.specs.Option.{ok_or}
use Rattle.std.specs.Result.{result_ok, result_map_both}
use Rattle.std.specs.Str.{is_utf8}
use Rattle.toml.specs.Data.{Data, Members, get_member}
use Rattle.toml.specs.Parse.{parse_document}
use Rattle.cg_types.specs.ResultSteps.{◌>>=◌}
use Rattle.cg_silence.specs.declared.limits.TheConstants.{WINDOW_LIMIT, GAP_LIMIT, THRESHOLD_LIMIT, DEFAULT_WINDOW, DEFAULT_INITIAL_GAP, DEFAULT_MAX_GAP, DEFAULT_THRESHOLD}
use Rattle.cg_silence.specs.declared.fault.SilenceFault.{SilenceFault}
use Rattle.cg_silence.specs.declared.fault.SilenceFault.TheVariants as silence_fault
use Rattle.cg_silence.specs.Values.{SilenceValue, silence_of}
use Rattle.cg_silence.specs.Settings as silence
use Rattle.cg_core.specs.SettingsValues.{SettingsValue, settings_of_parts}
use Rattle.cg_core.specs.Settings as node
use Rattle.cg_settings_file.specs.declared.limits.TheConstants.{TURN_LIMIT, INTERVAL_LIMIT, DEFAULT_INTERVAL, DEFAULT_RANDOM}
use Rattle.cg_settings_file.specs.Values.{text_or_key, endpoint_at, cluster_from, number_in, number_or_key}
use Rattle.cg_settings_file.specs.Seeds.{seeds_in}
use Rattle.cg_settings_file.specs.Keys.{unknown_in}

-- the key of a number that is out of its range, by the fault of silence and the initial gap in the table: one that is not
-- there is right, so the greatest gap is not
abbrev pub silence_key : Option Data → SilenceFault → List ℕ
silence_key initial_gap silence_fault.Window = codes "window"
silence_key initial_gap silence_fault.MaxGap = codes "max_gap"
silence_key None silence_fault.InitialGap = codes "max_gap"
silence_key (Some value) silence_fault.InitialGap = codes "initial_gap"
silence_key initial_gap silence_fault.Threshold = codes "threshold"

-- the settings by which four numbers judge silence, if each is in its range
unfoldable pub silence_by : Option Data → SilenceValue → Result SilenceValue (List ℕ)
silence_by in_table judged = result_map_both (λ s. s) (silence_key in_table) (silence.settings_or_fault judged)

-- the settings by which silence is judged, each number with its default
unfoldable pub silence_from : Members → Result SilenceValue (List ℕ)
silence_from table = do
  window ← number_or_key (codes "window") WINDOW_LIMIT (Some DEFAULT_WINDOW) table
  initial_gap ← number_or_key (codes "initial_gap") GAP_LIMIT (Some DEFAULT_INITIAL_GAP) table
  max_gap ← number_or_key (codes "max_gap") GAP_LIMIT (Some DEFAULT_MAX_GAP) table
  threshold ← number_or_key (codes "threshold") THRESHOLD_LIMIT (Some DEFAULT_THRESHOLD) table
  silence_by (get_member (codes "initial_gap") table) (silence_of window initial_gap max_gap threshold)

-- the settings of the node itself
unfoldable pub node_from : Members → Result SettingsValue (List ℕ)
node_from table = do
  cluster ← ok_or (cluster_from table) (codes "cluster")
  seeds ← ok_or (seeds_in (get_member (codes "seeds") table)) (codes "seeds")
  judged ← silence_from table
  ok_or (result_ok (node.settings_or_fault (settings_of_parts cluster seeds judged))) (codes "seeds")

abbrev pub random_or : Option Data → Option ℕ
random_or None = Some DEFAULT_RANDOM
random_or (Some value) = number_in value

-- the seed of the random words
unfoldable pub random_from : Members → Option ℕ
random_from table = random_or (get_member (codes "random") table)

-- rounds, exchanges, and milliseconds between two rounds
pub record TurnsValue : Type 0 where
  pub rounds : ℕ
  pub exchanges : ℕ
  pub interval : ℕ

unfoldable pub turns_from : Members → Result TurnsValue (List ℕ)
turns_from table = do
  rounds ← number_or_key (codes "rounds") TURN_LIMIT None table
  exchanges ← number_or_key (codes "exchanges") TURN_LIMIT None table
  interval ← number_or_key (codes "interval") INTERVAL_LIMIT (Some DEFAULT_INTERVAL) table
  Ok (record { rounds = rounds; exchanges = exchanges; interval = interval })

-- the files' paths, of the generation and of the journal
unfoldable pub paths_from : Members → Result (List ℕ × List ℕ) (List ℕ)
paths_from table = do
  generation_file ← text_or_key (codes "generation_file") table
  journal ← text_or_key (codes "journal") table
  Ok (generation_file, journal)

-- the settings of a node that serves
pub record ServeValue : Type 0 where
  pub node : SettingsValue
  pub listen : ℕ
  pub generation_file : List ℕ
  pub journal : List ℕ
  pub turns : TurnsValue
  pub random : ℕ

abbrev pub serve_of : SettingsValue → ℕ → List ℕ × List ℕ → TurnsValue → ℕ → ServeValue
serve_of node listen paths turns random = record {
  node = node;
  listen = listen;
  generation_file = paths.0;
  journal = paths.1;
  turns = turns;
  random = random;
}

-- the settings, unless a key has no meaning
abbrev pub if_known : Option (List ℕ) → ServeValue → Result ServeValue (List ℕ)
if_known None s = Ok s
if_known (Some key) s = Err key

-- The settings in a table; or the key by which it holds none: the first, in this order, whose value is missing, of
-- another type or out of its range, else the first that has no meaning.
unfoldable pub settings_from : Members → Result ServeValue (List ℕ)
settings_from table = do
  told ← node_from table
  listen ← ok_or (endpoint_at (codes "listen") table) (codes "listen")
  paths ← paths_from table
  turns ← turns_from table
  random ← ok_or (random_from table) (codes "random")
  if_known (unknown_in table) (serve_of told listen paths turns random)

-- the settings in a text, or the key by which it holds none, if it is a table
unfoldable pub settings_or_key : List ℕ → Result ServeValue (Option (List ℕ))
settings_or_key text =
    ok_or (parse_document text) None >>= λ table. result_map_both (λ s. s) Some (settings_from table)

-- the settings in a text
abbrev pub settings_in : List ℕ → Option ServeValue
settings_in text = result_ok (settings_or_key text)

-- the text that bytes are, if they are UTF-8
unfoldable pub text_in : List ℕ → Option (List ℕ)
text_in bytes = if is_utf8 bytes then Some bytes else None

-- the settings in the bytes of a file, or the key by which they hold none, if they are a table's text
unfoldable pub settings_or_key_in_bytes : List ℕ → Result ServeValue (Option (List ℕ))
settings_or_key_in_bytes bytes = ok_or (text_in bytes) None >>= settings_or_key

-- the settings in the bytes of a file
abbrev pub settings_in_bytes : List ℕ → Option ServeValue
settings_in_bytes bytes = result_ok (settings_or_key_in_bytes bytes)
