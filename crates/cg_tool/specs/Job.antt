-- The job of a command line.
use Rattle.std.specs.Prelude.{Bool, true, false, List, [], map, codes, Option, Some, None, unwrap_or, if◌then◌else◌, bytes_eq}
use Rattle.std.specs.Option.{option_map_or}
use Rattle.std.specs.Borrow.{Bor}
use Rattle.clap.specs.Words.{App, Kinds, Row, Rule, Text, all_of, fault_of, first_of, new_app, new_rule, subcommand_of, takes, with_rule, with_subcommand}
use Rattle.clap.specs.declared.builder.action.ArgAction.TheVariants.{Append, SetTrue}
use Rattle.cg_tool.specs.declared.job.Subcommand.{Subcommand}
use Rattle.cg_tool.specs.declared.job.Subcommand.TheVariants.{Answer, Sim, Audit, Serve, Agent}

-- a command with a version
abbrev pub with_version : App → App
with_version app = record app { top = record app.top { has_version = true } }

-- a command whose words are those after the program's name
abbrev pub without_name : App → App
without_name app = record app { top = record app.top { no_binary_name = true } }

-- one file
abbrev pub file_rule : Rule
file_rule = record (new_rule (codes "file")) { required = true }

-- one file or more
abbrev pub files_rule : Rule
files_rule = record (new_rule (codes "file")) { required = true; action = Some Append }

-- the flag `--cut`
abbrev pub cut_rule : Rule
cut_rule = record (new_rule (codes "cut")) { long = Some (codes "cut"); action = Some SetTrue }

-- `audit` with its flag and its files
abbrev pub audit_command : App
audit_command = with_rule (with_rule (new_app (codes "audit")) cut_rule) files_rule

-- `serve` with its file
abbrev pub serve_command : App
serve_command = with_rule (new_app (codes "serve")) file_rule

-- `agent` with its file
abbrev pub agent_command : App
agent_command = with_rule (new_app (codes "agent")) file_rule

-- the command with its subcommands
unfoldable pub program : App
program =
    with_subcommand
    (with_subcommand
    (with_subcommand
    (with_subcommand (with_subcommand (without_name (with_version (new_app (codes "cg")))) (new_app (codes "answer")).top)
    (new_app (codes "sim")).top)
    audit_command.top)
    serve_command.top)
    agent_command.top

-- the subcommand of this name
abbrev pub subcommand_named : Text → Subcommand
subcommand_named name =
    if bytes_eq name (codes "sim") then Sim
    else if bytes_eq name (codes "audit") then Audit
    else if bytes_eq name (codes "serve") then Serve
    else if bytes_eq name (codes "agent") then Agent
    else Answer

-- the subcommand that was met, or `answer` if none was
abbrev pub subcommand_met : Option (Text × List Row) → Subcommand
subcommand_met None = Answer
subcommand_met (Some met) = subcommand_named met.0

-- the files among the matches of a subcommand
abbrev pub files_in : List Row → List Text
files_in rows = unwrap_or (all_of (codes "file") rows) []

-- the files of the subcommand that was met
abbrev pub files_met : Option (Text × List Row) → List Text
files_met None = []
files_met (Some met) = files_in met.1

-- `true` if the flag is among the matches of a subcommand
abbrev pub is_cut_in : List Row → Bool
is_cut_in rows = option_map_or (λ value. bytes_eq value (codes "true")) (first_of (codes "cut") rows) false

-- `true` if the subcommand that was met has the flag
abbrev pub cut_met : Option (Text × List Row) → Bool
cut_met None = false
cut_met (Some met) = is_cut_in met.1

-- the texts that references point to
abbrev pub texts : List (Bor Text) → List Text
texts = map (λ s. s.now)

-- the subcommand that clap finds among the words, with its matches
unfoldable pub subcommand_in : List Text → Option (Text × List Row)
subcommand_in words = subcommand_of program words

-- `true` if the words name what the command has
unfoldable pub are_taken : List Text → Bool
are_taken words = takes program words

-- the kinds of the first error that clap finds
unfoldable pub faults_of : List Text → Kinds
faults_of words = fault_of program words
