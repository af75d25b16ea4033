-- The lines of a script: the action or the view that each requests.
use Rattle.std.specs.Prelude.{ℕ, List, [], ◌∷◌, Option, Some, None, Result, Ok, Err, bytes_eq, codes, if◌then◌else◌}
use Rattle.cg_types.specs.declared.fault.Fault.{Fault}
use Rattle.cg_types.specs.declared.fault.Fault.TheVariants.{BadText}
use Rattle.cg_types.specs.declared.limits.TheConstants.{PARTITIONER}
use Rattle.cg_types.specs.OptionSteps.{◌>>=◌}
use Rattle.cg_types.specs.EndpointText.{endpoint_in}
use Rattle.cg_types.specs.Rising.{rise_past}
use Rattle.cg_types.specs.Words.{cut_at, generation_in, key_in}
use Rattle.cg_silence.specs.Values.{default_silence}
use Rattle.cg_tokens.specs.Tokens.{token_of}
use Rattle.cg_core.specs.SettingsValues.{SettingsValue}
use Rattle.cg_core.specs.declared.limits.TheConstants.{SEED_LIMIT}
use Rattle.cg_world.specs.declared.action.Action.TheVariants.{Start, Local, Deliver}
use Rattle.cg_world.specs.declared.action.LocalEvent.TheVariants.{Beat, Set, Remove, Opening, Tick}
use Rattle.cg_sim.specs.declared.line.Line.{Line}
use Rattle.cg_sim.specs.declared.line.Line.TheVariants.{Seeds, Act, Show}
use Rattle.cg_text.specs.declared.view.View.TheVariants.{Gossipinfo, Ring, Digests, Replicas}
use Rattle.cg_sim.specs.declared.word.Word.{Word}
use Rattle.cg_sim.specs.declared.word.Word.TheVariants as word
use Rattle.cg_text.specs.Words.{count_in, endpoint_before, count_before, four_in, key_before, text_in, state_text_in, endpoints_in}

-- ---- the first word

-- the first word of a line, by its letters
unfoldable pub word_named : List ℕ → Option Word
word_named name =
    if bytes_eq name (codes "deliver") then Some word.Deliver
    else if bytes_eq name (codes "digests") then Some word.Digests
    else if bytes_eq name (codes "open") then Some word.Open
    else if bytes_eq name (codes "beat") then Some word.Beat
    else if bytes_eq name (codes "seeds") then Some word.Seeds
    else if bytes_eq name (codes "start") then Some word.Start
    else if bytes_eq name (codes "set") then Some word.Set
    else if bytes_eq name (codes "remove") then Some word.Remove
    else if bytes_eq name (codes "tick") then Some word.Tick
    else if bytes_eq name (codes "gossipinfo") then Some word.Gossipinfo
    else if bytes_eq name (codes "ring") then Some word.Ring
    else if bytes_eq name (codes "replicas") then Some word.Replicas
    else None

-- ---- the words after each first word

-- seeds: endpoints that rise strictly, at most `SEED_LIMIT` of them
unfoldable pub seeds_in : List ℕ → Option (List ℕ)
seeds_in text = do
  seeds ← endpoints_in 32 SEED_LIMIT text
  if rise_past None seeds then Some seeds else None

abbrev pub settings_with : List ℕ → SettingsValue
settings_with seeds = record {
  cluster = record { name = codes "sim"; partitioner = PARTITIONER };
  seeds = seeds;
  silence = default_silence;
}

-- `seeds EP ..`
unfoldable pub seeds_line : List ℕ → Option Line
seeds_line words = do
  seeds ← seeds_in words
  Some (Seeds (settings_with seeds))

-- `start EP GENERATION`
unfoldable pub start_line : List ℕ → Option Line
start_line words = do
  node ← endpoint_before words
  generation ← generation_in node.1
  Some (Act (Start node.0 generation))

-- `beat EP`
unfoldable pub beat_line : List ℕ → Option Line
beat_line words = do
  node ← endpoint_in words
  Some (Act (Local node Beat))

-- `remove EP KEY`
unfoldable pub remove_line : List ℕ → Option Line
remove_line words = do
  node ← endpoint_before words
  key ← key_in node.1
  Some (Act (Local node.0 (Remove key)))

-- `open EP`
unfoldable pub open_line : List ℕ → Option Line
open_line words = do
  node ← endpoint_in words
  Some (Act (Local node Opening))

-- `tick EP NOW W1 W2 W3 W4`
unfoldable pub tick_line : List ℕ → Option Line
tick_line words = do
  node ← endpoint_before words
  now ← count_before node.1
  random ← four_in now.1
  Some (Act (Local node.0 (Tick now.0 random)))

-- `deliver N EP NOW`
unfoldable pub deliver_line : List ℕ → Option Line
deliver_line words = do
  number ← count_before words
  node ← endpoint_before number.1
  now ← count_in node.1
  Some (Act (Deliver number.0 node.0 now))

-- `gossipinfo EP`, `ring EP` and `digests EP`
unfoldable pub gossipinfo_line : List ℕ → Option Line
gossipinfo_line words = do
  node ← endpoint_in words
  Some (Show node Gossipinfo)

unfoldable pub ring_line : List ℕ → Option Line
ring_line words = do
  node ← endpoint_in words
  Some (Show node Ring)

unfoldable pub digests_line : List ℕ → Option Line
digests_line words = do
  node ← endpoint_in words
  Some (Show node Digests)

-- `replicas EP RF TEXT`: for the token of the text's bytes
unfoldable pub replicas_line : List ℕ → Option Line
replicas_line words = do
  node ← endpoint_before words
  rf ← count_before node.1
  text ← text_in rf.1
  Some (Show node.0 (Replicas (token_of text) rf.0))

-- ---- a line

abbrev pub or_unreadable : Option Line → Result Line Fault
or_unreadable None = Err BadText
or_unreadable (Some line) = Ok line

-- the action that sets a key, or the fault of its text
abbrev pub set_or_fault : ℕ → ℕ → Result (List ℕ) Fault → Result Line Fault
set_or_fault node key (Ok text) = Ok (Act (Local node (Set key text)))
set_or_fault node key (Err f) = Err f

-- `set EP KEY TEXT`, after its endpoint
abbrev pub key_set : ℕ → Option (ℕ × List ℕ) → Result Line Fault
key_set node None = Err BadText
key_set node (Some key) = set_or_fault node key.0 (state_text_in key.1)

-- `set EP KEY TEXT`
abbrev pub node_set : Option (ℕ × List ℕ) → Result Line Fault
node_set None = Err BadText
node_set (Some node) = key_set node.0 (key_before node.1)

unfoldable pub set_line : List ℕ → Result Line Fault
set_line words = node_set (endpoint_before words)

-- the line that the words after the first one spell
abbrev pub line_of_word : Word → List ℕ → Result Line Fault
line_of_word word.Seeds words = or_unreadable (seeds_line words)
line_of_word word.Start words = or_unreadable (start_line words)
line_of_word word.Beat words = or_unreadable (beat_line words)
line_of_word word.Set words = set_line words
line_of_word word.Remove words = or_unreadable (remove_line words)
line_of_word word.Open words = or_unreadable (open_line words)
line_of_word word.Tick words = or_unreadable (tick_line words)
line_of_word word.Deliver words = or_unreadable (deliver_line words)
line_of_word word.Gossipinfo words = or_unreadable (gossipinfo_line words)
line_of_word word.Ring words = or_unreadable (ring_line words)
line_of_word word.Digests words = or_unreadable (digests_line words)
line_of_word word.Replicas words = or_unreadable (replicas_line words)

abbrev pub line_behind : Option Word → List ℕ → Result Line Fault
line_behind None words = Err BadText
line_behind (Some word) words = line_of_word word words

abbrev pub line_of_parts : Option (List ℕ × List ℕ) → Result Line Fault
line_of_parts None = Err BadText
line_of_parts (Some parts) = line_behind (word_named parts.0) parts.1

-- the line that a text spells, or the fault for which it is refused
unfoldable pub line_in : List ℕ → Result Line Fault
line_in line = line_of_parts (cut_at 32 line)
