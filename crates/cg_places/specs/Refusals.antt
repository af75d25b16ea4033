-- Refusals of actions with ample memory, and the actions of a list that are done. `act` itself knows no limit: refused
-- actions are left out of the list.
use Rattle.std.specs.Prelude.{◌≡◌, ⊤, ℕ, List, [], ◌∷◌, length, Option, Some, None, nat_lt, if◌then◌else◌}
use Rattle.cg_types.specs.declared.fault.Fault.{Fault}
use Rattle.cg_types.specs.declared.fault.Fault.TheVariants.{TableFull, NotRising, NoSuchMessage, NoSuchNode, NoSuchKey}
use Rattle.cg_types.specs.declared.limits.TheConstants.{MEMBER_LIMIT}
use Rattle.cg_types.specs.Answer.{fault_of}
use Rattle.cg_version.specs.Version.{next_version}
use Rattle.cg_entry.specs.Values.{EntryValue}
use Rattle.cg_entry.specs.Entry.{newest, has_text}
use Rattle.cg_entry.specs.History.{at_place}
use Rattle.cg_places.specs.PlaceMessages.{PlaceMessage}
use Rattle.cg_places.specs.PlaceWorld.{PlaceAction, Start, Beat, Set, Remove, Opening, Tick, Deliver, PlaceWorld, runs, may_start, last_entry, after_action}
use Rattle.cg_places.specs.Exchange.{PlaceExchange, by_places, after_opening, after_syn, after_ack}

-- a generation that does not rise; or one owner more than there can be
abbrev pub start_refusal : PlaceWorld → ℕ → ℕ → Option Fault
start_refusal w node generation =
    if may_start w node generation
    then if runs w node then None else if nat_lt (length w.owners) MEMBER_LIMIT then None else Some TableFull
    else Some NotRising

-- no entry; or one with no next version
abbrev pub change_refusal : Option EntryValue → Option Fault
change_refusal None = Some NoSuchNode
change_refusal (Some entry) = fault_of (next_version (newest entry))

-- no entry; or one where the key has no text; or one with no next version
abbrev pub removal_refusal : ℕ → Option EntryValue → Option Fault
removal_refusal key None = Some NoSuchNode
removal_refusal key (Some entry) = if has_text key entry then change_refusal (Some entry) else Some NoSuchKey

-- no fault if the node runs
abbrev pub node_refusal : PlaceWorld → ℕ → Option Fault
node_refusal w node = if runs w node then None else Some NoSuchNode

abbrev pub deliver_refusal : PlaceWorld → ℕ → Option PlaceMessage → Option Fault
deliver_refusal w to None = Some NoSuchMessage
deliver_refusal w to (Some message) = node_refusal w to

-- the fault with which an action is refused, if it is
abbrev pub refusal : PlaceWorld → PlaceAction → Option Fault
refusal w (Start node generation) = start_refusal w node generation
refusal w (Beat node) = change_refusal (last_entry (w.histories node))
refusal w (Set node key text) = change_refusal (last_entry (w.histories node))
refusal w (Remove node key) = removal_refusal key (last_entry (w.histories node))
refusal w (Opening node) = node_refusal w node
refusal w (Tick node) = change_refusal (last_entry (w.histories node))
refusal w (Deliver number to) = deliver_refusal w to (at_place w.sent number)

abbrev pub unless_refused : Option Fault → PlaceAction → List PlaceAction → List PlaceAction → List PlaceAction
unless_refused None action rest others = action ∷ rest
unless_refused (Some fault) action rest others = others

-- the actions of a list that are done, each after those before it
abbrev pub done_from : PlaceWorld → List PlaceAction → List PlaceAction
done_from w [] = []
done_from w (action ∷ actions) =
    unless_refused (refusal w action) action (done_from (after_action w action) actions) (done_from w actions)

-- None of the actions is refused, each after those before it.
abbrev pub AreDone : PlaceWorld → List PlaceAction → Type 0
AreDone w [] = ⊤
AreDone w (action ∷ actions) = (refusal w action ≡ None) × AreDone (after_action w action) actions

-- ---- of an exchange

abbrev pub done_before_syn : PlaceWorld → PlaceExchange → PlaceExchange
done_before_syn w x = record x { before_syn = done_from (after_opening by_places w x) x.before_syn }

abbrev pub done_before_ack : PlaceWorld → PlaceExchange → PlaceExchange
done_before_ack w x = record x { before_ack = done_from (after_syn by_places w x) x.before_ack }

abbrev pub done_before_ack2 : PlaceWorld → PlaceExchange → PlaceExchange
done_before_ack2 w x = record x { before_ack2 = done_from (after_ack by_places w x) x.before_ack2 }

-- the exchange as it is done: refused actions are left out
abbrev pub done_exchange : PlaceWorld → PlaceExchange → PlaceExchange
done_exchange w x = done_before_ack2 w (done_before_ack w (done_before_syn w x))
