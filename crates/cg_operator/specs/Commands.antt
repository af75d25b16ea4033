-- The commands in lines of the operator.
use Rattle.std.specs.Prelude.{ℕ, List, Option, Some, None, Result, Ok, Err, codes, bytes_eq, if◌then◌else◌}
use Rattle.cg_types.specs.declared.fault.Fault.{Fault}
use Rattle.cg_types.specs.declared.fault.Fault.TheVariants.{BadText}
use Rattle.cg_types.specs.OptionSteps.{◌>>=◌}
use Rattle.cg_types.specs.Words.{cut_at, key_in}
use Rattle.cg_tokens.specs.Tokens.{token_of}
use Rattle.cg_text.specs.declared.view.View.TheVariants as view
use Rattle.cg_text.specs.Words.{count_before, key_before, text_in, state_text_in}
use Rattle.cg_operator.specs.declared.command.OperatorCommand.{OperatorCommand}
use Rattle.cg_operator.specs.declared.command.OperatorCommand.TheVariants.{Show, Set, Remove, Quit}

abbrev pub or_unreadable : Option OperatorCommand → Result OperatorCommand Fault
or_unreadable None = Err BadText
or_unreadable (Some command) = Ok command

-- `replicas RF TEXT`: for the token of the text's bytes
unfoldable pub replicas_line : List ℕ → Option OperatorCommand
replicas_line words = do
  rf ← count_before words
  text ← text_in rf.1
  Some (Show (view.Replicas (token_of text) rf.0))

-- a key that is set, or the fault of its text
abbrev pub set_or_fault : ℕ → Result (List ℕ) Fault → Result OperatorCommand Fault
set_or_fault key (Ok text) = Ok (Set key text)
set_or_fault key (Err f) = Err f

abbrev pub key_set : Option (ℕ × List ℕ) → Result OperatorCommand Fault
key_set None = Err BadText
key_set (Some key) = set_or_fault key.0 (state_text_in key.1)

-- `set KEY TEXT`
unfoldable pub set_line : List ℕ → Result OperatorCommand Fault
set_line words = key_set (key_before words)

-- `remove KEY`
unfoldable pub remove_line : List ℕ → Option OperatorCommand
remove_line words = do
  key ← key_in words
  Some (Remove key)

-- a line of one word
unfoldable pub bare_command : List ℕ → Option OperatorCommand
bare_command word =
    if bytes_eq word (codes "gossipinfo") then Some (Show view.Gossipinfo)
    else if bytes_eq word (codes "ring") then Some (Show view.Ring)
    else if bytes_eq word (codes "digests") then Some (Show view.Digests)
    else if bytes_eq word (codes "quit") then Some Quit
    else None

-- the command of a line of more words: its first word, and the words after it
unfoldable pub command_behind : List ℕ → List ℕ → Result OperatorCommand Fault
command_behind word words =
    if bytes_eq word (codes "replicas") then or_unreadable (replicas_line words)
    else if bytes_eq word (codes "set") then set_line words
    else if bytes_eq word (codes "remove") then or_unreadable (remove_line words)
    else Err BadText

abbrev pub command_of_parts : List ℕ → Option (List ℕ × List ℕ) → Result OperatorCommand Fault
command_of_parts line None = or_unreadable (bare_command line)
command_of_parts line (Some parts) = command_behind parts.0 parts.1

-- the command in a line, or its fault
unfoldable pub command_in : List ℕ → Result OperatorCommand Fault
command_in line = command_of_parts line (cut_at 32 line)
