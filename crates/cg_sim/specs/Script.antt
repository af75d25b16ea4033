-- The text that a script prints, line by line.
use Rattle.std.specs.Prelude.{ℕ, true, false, List, [], ◌∷◌, ◌++◌, Option, Some, None, Result, Ok, Err, if◌then◌else◌}
use Rattle.std.specs.FinMap as map
use Rattle.cg_types.specs.declared.fault.Fault.{Fault}
use Rattle.cg_types.specs.declared.fault.Fault.TheVariants.{BadText, NoSuchNode}
use Rattle.cg_types.specs.Fault.{fault_text}
use Rattle.cg_tokens.specs.Ring.{ring}
use Rattle.cg_messages.specs.declared.message.Message.{Message}
use Rattle.cg_messages.specs.Kind.{kind_of}
use Rattle.cg_core.specs.declared.reply.Reply.{Reply}
use Rattle.cg_core.specs.declared.reply.Reply.TheVariants.{Done, Round, Sent, Both, Took}
use Rattle.cg_core.specs.Values.{NodeValue}
use Rattle.cg_world.specs.declared.action.Action.{Action}
use Rattle.cg_world.specs.World.{WorldValue, new_world, act}
use Rattle.cg_places.specs.Step.{message_of}
use Rattle.cg_world.specs.declared.action.Action.TheVariants.{Start, Local, Deliver}
use Rattle.cg_world.specs.Acting.{showing}
use Rattle.cg_world.specs.declared.world.Shown.{Shown}
use Rattle.cg_text.specs.Printed.{started_line, version_line, message_line, round_line, outcome_lines, gossipinfo, digest_lines, ring_lines, replica_lines}
use Rattle.cg_sim.specs.declared.line.Line.{Line}
use Rattle.cg_sim.specs.declared.line.Line.TheVariants.{Seeds, Act, Show}
use Rattle.cg_text.specs.declared.view.View.{View}
use Rattle.cg_text.specs.declared.view.View.TheVariants.{Gossipinfo, Ring, Digests, Replicas}
use Rattle.cg_sim.specs.ScriptLines.{line_in, settings_with}
use Rattle.cg_sim.specs.declared.play.Play.{Play}
use Rattle.cg_links.specs.Lines.{lines_of}

-- ---- the text of an action

-- the text of a node's answer, except for the message that it sends
abbrev pub reply_lines : Reply → List ℕ
reply_lines (Done version) = version_line version
reply_lines (Round peers syn) = round_line peers
reply_lines (Sent m) = []
reply_lines (Both outcomes ack2) = outcome_lines outcomes
reply_lines (Took outcomes) = outcome_lines outcomes

-- the number and the kind of the message that was sent, if one was
abbrev pub sent_lines : Option ℕ → Option Message → List ℕ
sent_lines None m = []
sent_lines (Some number) None = []
sent_lines (Some number) (Some m) = message_line number (kind_of m)

abbrev pub answer_lines : Option Reply → Option ℕ → List ℕ
answer_lines None number = []
answer_lines (Some reply) number = reply_lines reply ++ sent_lines number (message_of reply)

-- the text of an action that is done
abbrev pub shown_lines : Action → Shown → List ℕ
shown_lines (Start node generation) shown = started_line node generation
shown_lines (Local node change) shown = answer_lines shown.reply shown.sent
shown_lines (Deliver number to now) shown = answer_lines shown.reply shown.sent

abbrev pub action_lines : Action → Result Shown Fault → List ℕ
action_lines action (Ok shown) = shown_lines action shown
action_lines action (Err f) = fault_text f

-- ---- the text of a view

abbrev pub node_lines : NodeValue → View → List ℕ
node_lines n Gossipinfo = gossipinfo n.table.entries
node_lines n Ring = ring_lines (ring n.table.entries)
node_lines n Digests = digest_lines n.table.entries
node_lines n (Replicas token rf) = replica_lines (ring n.table.entries) token rf

abbrev pub view_lines : Option NodeValue → View → List ℕ
view_lines None view = fault_text NoSuchNode
view_lines (Some n) view = node_lines n view

-- ---- a line

-- no line was read: no node runs, and there are no seeds
abbrev pub first_play : Play
first_play = record { world = new_world (settings_with []); is_begun = false }

-- the world after a line's request; the first line alone may request seeds
abbrev pub world_after_line : Play → Result Line Fault → WorldValue
world_after_line p (Ok (Seeds settings)) = if p.is_begun then p.world else new_world settings
world_after_line p (Ok (Act action)) = act p.world action
world_after_line p (Ok (Show node view)) = p.world
world_after_line p (Err f) = p.world

-- the text that the line prints
abbrev pub printed_of : Play → Result Line Fault → List ℕ
printed_of p (Ok (Seeds settings)) = if p.is_begun then fault_text BadText else []
printed_of p (Ok (Act action)) = action_lines action (showing p.world action)
printed_of p (Ok (Show node view)) = view_lines (map.get p.world.nodes node) view
printed_of p (Err f) = fault_text f

unfoldable pub after_line : Play → List ℕ → Play
after_line p line = record { world = world_after_line p (line_in line); is_begun = true }

unfoldable pub line_text : Play → List ℕ → List ℕ
line_text p line = printed_of p (line_in line)

-- ---- a script

-- lines, one after the other
abbrev pub after_lines : Play → List (List ℕ) → Play
after_lines p [] = p
after_lines p (line ∷ lines) = after_lines (after_line p line) lines

abbrev pub lines_text : Play → List (List ℕ) → List ℕ
lines_text p [] = []
lines_text p (line ∷ lines) = line_text p line ++ lines_text (after_line p line) lines

-- the text that a script prints
unfoldable pub script_text : List ℕ → List ℕ
script_text input = lines_text first_play (lines_of input)
