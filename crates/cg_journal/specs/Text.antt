-- The text of a history: the line of its life, and a line for each record.
use Rattle.std.specs.Prelude.{ℕ, List, [], ◌∷◌, ◌++◌, map, codes, decimal}
use Rattle.std.specs.List.{flat_map}
use Rattle.hex.specs.Hex.{encode_lower}
use Rattle.cg_types.specs.EndpointText.{endpoint_text}
use Rattle.cg_table.specs.Own.{own_entry}
use Rattle.cg_messages.specs.declared.message.Message.{Message}
use Rattle.cg_messages.specs.declared.message.Message.TheVariants as messages
use Rattle.cg_silence.specs.Values.{SilenceValue}
use Rattle.cg_core.specs.declared.event.Event.{Event}
use Rattle.cg_core.specs.declared.event.Event.TheVariants as event
use Rattle.cg_core.specs.SettingsValues.{SettingsValue}
use Rattle.cg_core.specs.Values.{NodeValue}
use Rattle.cg_frames.specs.declared.layout.TheConstants.{WRITTEN}
use Rattle.cg_frames.specs.Spelling.{frame}
use Rattle.cg_history.specs.declared.item.Item.{Item}
use Rattle.cg_history.specs.History.{HistoryValue}

-- ---- the life

-- the window, the initial gap, the greatest gap and the threshold
unfoldable pub silence_text : SilenceValue → List ℕ
silence_text s =
    decimal s.window ++ (codes " " ++ (decimal s.initial_gap ++ (codes " " ++ (decimal s.max_gap
    ++ (codes " " ++ decimal s.threshold)))))

-- a seed after a comma
unfoldable pub further_seed : ℕ → List ℕ
further_seed seed = codes "," ++ endpoint_text seed

-- the seeds with commas between them, or `-` if there are none
abbrev pub seeds_text : List ℕ → List ℕ
seeds_text [] = codes "-"
seeds_text (seed ∷ seeds) = endpoint_text seed ++ flat_map further_seed seeds

-- the settings: the limits of silence, the seeds, and the cluster's name
unfoldable pub settings_text : SettingsValue → List ℕ
settings_text s =
    silence_text s.silence ++ (codes " " ++ (seeds_text s.seeds ++ (codes " " ++ s.cluster.name)))

-- `life EP GENERATION W INITIAL MAX THRESHOLD SEEDS CLUSTER`, of the node that a history began with
unfoldable pub life_line : NodeValue → List ℕ
life_line n =
    codes "life " ++ (endpoint_text n.table.own ++ (codes " " ++ (decimal (own_entry n.table).generation ++ (codes " "
    ++ (settings_text n.settings ++ codes "\n")))))

-- ---- the events

-- a text's bytes in hexadecimal digits, or `-` if there are none
abbrev pub text_digits : List ℕ → List ℕ
text_digits [] = codes "-"
text_digits (b ∷ bs) = encode_lower (b ∷ bs)

-- a frame in hexadecimal digits
abbrev pub frame_digits : Message → List ℕ
frame_digits m = encode_lower (frame WRITTEN m)

-- a word after a space
unfoldable pub further_word : ℕ → List ℕ
further_word word = codes " " ++ decimal word

-- `set KEY HEX`
unfoldable pub set_line : ℕ → List ℕ → List ℕ
set_line key text = codes "set " ++ (decimal key ++ (codes " " ++ (text_digits text ++ codes "\n")))

-- `remove KEY`
unfoldable pub remove_line : ℕ → List ℕ
remove_line key = codes "remove " ++ (decimal key ++ codes "\n")

-- `tick NOW W1 W2 W3 W4`
unfoldable pub tick_line : ℕ → List ℕ → List ℕ
tick_line now words = codes "tick " ++ (decimal now ++ (flat_map further_word words ++ codes "\n"))

-- `syn HEX`
unfoldable pub syn_line : Message → List ℕ
syn_line m = codes "syn " ++ (frame_digits m ++ codes "\n")

-- `ack NOW HEX`
unfoldable pub ack_line : ℕ → Message → List ℕ
ack_line now m = codes "ack " ++ (decimal now ++ (codes " " ++ (frame_digits m ++ codes "\n")))

-- `ack2 NOW HEX`
unfoldable pub ack2_line : ℕ → Message → List ℕ
ack2_line now m = codes "ack2 " ++ (decimal now ++ (codes " " ++ (frame_digits m ++ codes "\n")))

abbrev pub event_line : Event → List ℕ
event_line event.Beat = codes "beat\n"
event_line (event.Set key text) = set_line key text
event_line (event.Remove key) = remove_line key
event_line (event.Tick now words) = tick_line now words
event_line event.Opening = codes "open\n"
event_line (event.Syn m) = syn_line (messages.Syn m)
event_line (event.Ack now m) = ack_line now (messages.Ack m)
event_line (event.Ack2 now m) = ack2_line now (messages.Ack2 m)

-- ---- all of it

abbrev pub event_lines : List Item → List (List ℕ)
event_lines records = map (λ r. event_line r.event) records

-- each line, with its line feed
abbrev pub journal_lines : HistoryValue → List (List ℕ)
journal_lines h = life_line h.base ∷ event_lines h.records

-- lines, one after the other
abbrev pub joined : List (List ℕ) → List ℕ
joined [] = []
joined (line ∷ lines) = line ++ joined lines

-- the text of a history; callers, replies and puts are not in it
abbrev pub journal_of : HistoryValue → List ℕ
journal_of h = joined (journal_lines h)
