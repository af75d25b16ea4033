-- What is read of one endpoint at a node.
use Rattle.std.specs.Prelude.{ℕ, List, [], Option, Some, None, Result, Ok, Err}
use Rattle.std.specs.Option.{unwrap_or}
use Rattle.std.specs.FinMap as map
use Rattle.cg_types.specs.declared.fault.Fault.{Fault}
use Rattle.cg_types.specs.declared.fault.Fault.TheVariants.{NoSuchNode, NoSuchKey}
use Rattle.cg_types.specs.EndpointText.{endpoint_in}
use Rattle.cg_types.specs.ResultSteps.{then, ◌>>=◌}
use Rattle.cg_entry.specs.Entry.{newest, text_standing}
use Rattle.cg_entry.specs.Values.{EntryValue}
use Rattle.cg_entry.specs.Versioned.{Versioned}
use Rattle.cg_silence.specs.declared.verdict.Verdict.{Verdict}
use Rattle.cg_silence.specs.declared.verdict.Verdict.TheVariants.{Alive, Silent, Unheard}
use Rattle.cg_core.specs.Values.{NodeValue}
use Rattle.cg_core.specs.Step.{verdict_of}
use Rattle.cg_c.specs.Ranges.{key_of}
use Rattle.cg_c.specs.Told.{read_or_bad}

-- the entry that is held of the endpoint that a text names
abbrev pub some_entry : Option EntryValue → Result EntryValue Fault
some_entry None = Err NoSuchNode
some_entry (Some entry) = Ok entry

abbrev pub numbers_at : NodeValue → List ℕ → Result (ℕ × ℕ) Fault
numbers_at n endpoint = do
  owner ← read_or_bad (endpoint_in endpoint)
  entry ← some_entry (map.get n.table.entries owner)
  Ok (entry.generation, newest entry)

-- the text of a key, if it has one, with its version
abbrev pub some_text : Option Versioned → Result (List ℕ × ℕ) Fault
some_text None = Err NoSuchKey
some_text (Some state) = Ok (unwrap_or state.text [], state.version)

abbrev pub state_at : NodeValue → List ℕ → ℕ → Result (List ℕ × ℕ) Fault
state_at n endpoint number = do
  owner ← read_or_bad (endpoint_in endpoint)
  key ← key_of number
  entry ← some_entry (map.get n.table.entries owner)
  some_text (text_standing (map.get entry.states key))

abbrev pub verdict_number : Verdict → ℕ
verdict_number Alive = 0
verdict_number Silent = 1
verdict_number Unheard = 2

abbrev pub verdict_at : NodeValue → List ℕ → ℕ → Result ℕ Fault
verdict_at n endpoint now = then (read_or_bad (endpoint_in endpoint)) (λ owner. verdict_number (verdict_of n owner now))

-- ---- at a node that is held

abbrev pub held_entry : Option NodeValue → List ℕ → Result (ℕ × ℕ) Fault
held_entry None endpoint = Err NoSuchNode
held_entry (Some n) endpoint = numbers_at n endpoint

abbrev pub held_state : Option NodeValue → List ℕ → ℕ → Result (List ℕ × ℕ) Fault
held_state None endpoint number = Err NoSuchNode
held_state (Some n) endpoint number = state_at n endpoint number

abbrev pub held_verdict : Option NodeValue → List ℕ → ℕ → Result ℕ Fault
held_verdict None endpoint now = Err NoSuchNode
held_verdict (Some n) endpoint now = verdict_at n endpoint now
