-- The history that the text of a journal spells, or the number of the first line that can't be read.
use Rattle.std.specs.Prelude.{ℕ, ◌-◌, ◌^◌, suc, ◌==◌, if◌then◌else◌, List, [], ◌∷◌, length, Option, Some, None, Result, Ok, Err, bytes_eq, codes, option_map, min}
use Rattle.hex.specs.Hex.{decode_of}
use Rattle.cg_types.specs.declared.fault.Fault.{Fault}
use Rattle.cg_types.specs.declared.limits.TheConstants.{PARTITIONER}
use Rattle.cg_types.specs.OptionSteps.{◌>>=◌}
use Rattle.cg_types.specs.Text.{cluster_of}
use Rattle.cg_types.specs.Words.{cut_at, number_of, generation_in, key_in}
use Rattle.cg_messages.specs.declared.message.Message.{Message}
use Rattle.cg_silence.specs.Values.{SilenceValue, silence_of}
use Rattle.cg_silence.specs.Settings.{settings_or_fault as silence_or_fault}
use Rattle.cg_core.specs.declared.event.Event.{Event}
use Rattle.cg_core.specs.declared.event.Event.TheVariants as event
use Rattle.cg_core.specs.declared.limits.TheConstants.{SEED_LIMIT}
use Rattle.cg_core.specs.SettingsValues.{SettingsValue, settings_of_parts}
use Rattle.cg_core.specs.Settings.{settings_or_fault}
use Rattle.cg_frames.specs.declared.layout.TheConstants.{LAYOUTS}
use Rattle.cg_frames.specs.Choosing.{frame_among}
use Rattle.cg_engine.specs.Expected.{expected_syn, expected_ack, expected_ack2}
use Rattle.cg_text.specs.Gives.{readable}
use Rattle.cg_text.specs.Words.{endpoint_before, endpoints_in, count_before, key_before, state_text_in}
use Rattle.cg_text.specs.Words.{four_in}
use Rattle.cg_history.specs.History.{HistoryValue, new_history, apply}
use Rattle.cg_links.specs.Lines.{lines_of}
use Rattle.cg_journal.specs.declared.life.TheConstants.{GREATEST_SETTING}

-- ---- the first line

-- a generation, and the text after the space that follows it
unfoldable pub generation_before : List ℕ → Option (ℕ × List ℕ)
generation_before words = do
  parts ← cut_at 32 words
  generation ← generation_in parts.0
  Some (generation, parts.1)

-- a number among the settings, and the text after the space that follows it
unfoldable pub setting_before : List ℕ → Option (ℕ × List ℕ)
setting_before words = do
  parts ← cut_at 32 words
  n ← number_of GREATEST_SETTING parts.0
  Some (n, parts.1)

-- the limits of silence, and the text after the space that follows them
unfoldable pub silence_before : List ℕ → Option (SilenceValue × List ℕ)
silence_before words = do
  window ← setting_before words
  initial ← setting_before window.1
  greatest ← setting_before initial.1
  threshold ← setting_before greatest.1
  silence ← readable (silence_or_fault (silence_of window.0 initial.0 greatest.0 threshold.0))
  Some (silence, threshold.1)

-- seeds with commas between them, or `-`
unfoldable pub seeds_in : List ℕ → Option (List ℕ)
seeds_in word = if bytes_eq word (codes "-") then Some [] else endpoints_in 44 SEED_LIMIT word

-- settings, to the end of the line
unfoldable pub settings_in : List ℕ → Option SettingsValue
settings_in words = do
  silence ← silence_before words
  parts ← cut_at 32 silence.1
  seeds ← seeds_in parts.0
  cluster ← readable (cluster_of parts.1 PARTITIONER)
  readable (settings_or_fault (settings_of_parts cluster seeds silence.0))

-- the history that the words after `life` begin
unfoldable pub life_behind : List ℕ → Option HistoryValue
life_behind words = do
  own ← endpoint_before words
  generation ← generation_before own.1
  settings ← settings_in generation.1
  Some (new_history own.0 generation.0 settings)

abbrev pub life_of_parts : Option (List ℕ × List ℕ) → Option HistoryValue
life_of_parts None = None
life_of_parts (Some parts) = if bytes_eq parts.0 (codes "life") then life_behind parts.1 else None

-- the history that a first line begins
unfoldable pub life_in : List ℕ → Option HistoryValue
life_in line = life_of_parts (cut_at 32 line)

-- ---- the other lines

-- the message whose frame is all of the bytes
abbrev pub whole_message : List ℕ → Result (Option (Message × ℕ)) Fault → Option Message
whole_message bytes (Ok None) = None
whole_message bytes (Ok (Some m)) = if m.1 == length bytes then Some m.0 else None
whole_message bytes (Err f) = None

unfoldable pub message_in : List ℕ → Option Message
message_in digits = do
  bytes ← readable (decode_of digits)
  whole_message bytes (frame_among LAYOUTS bytes)

-- the bytes of a text in hexadecimal digits; the empty one is `-`
unfoldable pub text_bytes_in : List ℕ → Option (List ℕ)
text_bytes_in digits =
    if bytes_eq digits (codes "-") then Some []
    else if length digits == 0 then None
    else readable (decode_of digits)

-- `set KEY HEX`
unfoldable pub set_in : List ℕ → Option Event
set_in words = do
  key ← key_before words
  bytes ← text_bytes_in key.1
  text ← readable (state_text_in bytes)
  Some (event.Set key.0 text)

-- `remove KEY`
unfoldable pub remove_in : List ℕ → Option Event
remove_in words = do
  key ← key_in words
  Some (event.Remove key)

-- `tick NOW W1 W2 W3 W4`
unfoldable pub tick_in : List ℕ → Option Event
tick_in words = do
  now ← count_before words
  random ← four_in now.1
  Some (event.Tick now.0 random)

-- `syn HEX`
unfoldable pub syn_in : List ℕ → Option Event
syn_in words = do
  message ← message_in words
  syn ← readable (expected_syn message)
  Some (event.Syn syn)

-- `ack NOW HEX`
unfoldable pub ack_in : List ℕ → Option Event
ack_in words = do
  now ← count_before words
  message ← message_in now.1
  ack ← readable (expected_ack message)
  Some (event.Ack now.0 ack)

-- `ack2 NOW HEX`
unfoldable pub ack2_in : List ℕ → Option Event
ack2_in words = do
  now ← count_before words
  message ← message_in now.1
  ack2 ← readable (expected_ack2 message)
  Some (event.Ack2 now.0 ack2)

-- a line of one word
unfoldable pub bare_event : List ℕ → Option Event
bare_event word =
    if bytes_eq word (codes "beat") then Some event.Beat
    else if bytes_eq word (codes "open") then Some event.Opening
    else None

-- a line of more words, after the first one
unfoldable pub event_behind : List ℕ → List ℕ → Option Event
event_behind word words =
    if bytes_eq word (codes "set") then set_in words
    else if bytes_eq word (codes "remove") then remove_in words
    else if bytes_eq word (codes "tick") then tick_in words
    else if bytes_eq word (codes "syn") then syn_in words
    else if bytes_eq word (codes "ack") then ack_in words
    else if bytes_eq word (codes "ack2") then ack2_in words
    else None

abbrev pub event_of_parts : List ℕ → Option (List ℕ × List ℕ) → Option Event
event_of_parts line None = bare_event line
event_of_parts line (Some parts) = event_behind parts.0 parts.1

-- the event of a line
unfoldable pub event_in : List ℕ → Option Event
event_in line = event_of_parts line (cut_at 32 line)

-- ---- line by line

-- the history after an event that its node does for caller 0
abbrev pub history_after : HistoryValue → Option Event → Option HistoryValue
history_after h None = None
history_after h (Some e) = option_map (λ x. x.0) (readable (apply h 0 e))

-- the history after a line: the first line begins it
abbrev pub after_line : Option HistoryValue → List ℕ → Option HistoryValue
after_line None line = life_in line
after_line (Some h) line = history_after h (event_in line)

-- the history if a line began one; else the number of the line that should
abbrev pub begun_or : ℕ → Option HistoryValue → Result HistoryValue ℕ
begun_or number None = Err number
begun_or number (Some h) = Ok h

-- the result of the lines from this one on, if this one can be read
abbrev pub on_line : ℕ → Option HistoryValue → (HistoryValue → Result HistoryValue ℕ) → Result HistoryValue ℕ
on_line number None go = Err number
on_line number (Some h) go = go h

-- the history after lines, or the number of the first that can't be read; the first of these lines has this number
abbrev pub after_lines : ℕ → Option HistoryValue → List (List ℕ) → Result HistoryValue ℕ
after_lines number o [] = begun_or number o
after_lines number o (line ∷ lines) = on_line number (after_line o line) (λ h. after_lines (suc number) (Some h) lines)

-- the history of a journal
unfoldable pub journal_in : List ℕ → Result HistoryValue ℕ
journal_in text = after_lines 1 None (lines_of text)

-- the number of a line as it is reported: at most 2^64 - 1
abbrev pub told_number : ℕ → ℕ
told_number n = min n (2 ^ 64 - 1)
