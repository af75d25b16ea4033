-- The lives of a node: their beginnings and their results.
use Rattle.std.specs.Prelude.{◌≡◌, ◌⊎◌, ℕ, List, [], ◌++◌, Option, Some, None, Result, Ok, Err, IfOk, IfErr, MatchResult, string_bytes}
use Rattle.cg_types.specs.declared.fault.Fault.{Fault}
use Rattle.cg_types.specs.declared.fault.Fault.TheVariants as fault
use Rattle.cg_types.specs.Fault.{fault_text}
use Rattle.cg_core.specs.Values.{NodeValue}
use Rattle.cg_core.specs.Step.{starting_node}
use Rattle.cg_history.specs.History.{HistoryValue}
use Rattle.cg_journal.specs.Text.{joined, journal_lines}
use Rattle.cg_settings_file.specs.Settings.{ServeValue}
use Rattle.cg_threads.specs.declared.ran.Ran.{Ran}
use Rattle.cg_threads.specs.declared.ran.NotRun.{NotRun}
use Rattle.cg_threads.specs.declared.ran.NotRun.TheVariants as not_run
use Rattle.cg_threads.specs.Ran.{AnyWork, IsRun, IsNotRun}
use Rattle.cg_host.specs.Disk.{Call, Replaces}
use Rattle.cg_host.specs.Kept.{Settles, Unsettled, Advances, IsUnkept, Unwritten}
use Rattle.cg_serve.specs.declared.node.Birth.{Birth}
use Rattle.cg_serve.specs.declared.node.LifeLeft.{LifeLeft}
use Rattle.cg_serve.specs.declared.serving.Lived.{Lived}

-- ---- the beginning of a life

-- the node that begins with these values
abbrev pub newborn_node : Birth → NodeValue
newborn_node b = starting_node b.own b.generation b.settings

-- the faults of a node that can't listen, or of which no worker began
abbrev pub IsUnstarted : Fault → Type 0
IsUnstarted f = (f ≡ fault.OutOfMemory) ⊎ (f ≡ fault.ReadFault)

-- ---- its result

-- the result of a run, or the fault by which none began
abbrev pub left_after : Result Ran NotRun → Result LifeLeft Fault
left_after (Ok r) = Ok (record { history = r.history; unconfirmed = None })
left_after (Err (not_run.Unconfirmed u)) = Ok (record { history = u.history; unconfirmed = Some u.fault })
left_after (Err (not_run.Unstarted f)) = Err f

-- A run from the node left this: a history that confirms all receipts of its workers; or one that does not, and the
-- fault of the first that it does not confirm.
abbrev pub IsLifeLeft : NodeValue → LifeLeft → Type 0
IsLifeLeft start l =
    (ran : Result Ran NotRun) × IfOk ran (λ r. IsRun start AnyWork r.history r.rounds.items)
    × IfErr ran (IsNotRun start AnyWork) × (left_after ran ≡ Ok l)

-- ---- a life, by the calls of a disk that were made, and the bytes that an open file has left or holds

module _ {F : Type 0} (did : Call F → Type 0) (remaining contents : F → Option (List ℕ)) (file : List ℕ) where
  -- A node lived by the settings that the file held, at its own endpoint, in the generation that was stored for it. The
  -- path of its journal is the one in the settings.
  pub record IsLived (l : Lived) : Type 0 where
    pub told : ServeValue
    pub are_told : Settles did remaining contents file told
    pub generation : ℕ
    pub kept : Advances did remaining contents told.generation_file (Ok generation)
    pub left : IsLifeLeft (starting_node told.listen generation told.node) l.left
    pub journal : string_bytes l.journal ≡ told.journal

  -- There are settings, and no generation could be stored; or one was, and no node started.
  pub record IsUnborn (f : Fault) : Type 0 where
    pub told : ServeValue
    pub are_told : Settles did remaining contents file told
    pub caused : IsUnkept did remaining contents told.generation_file f
        ⊎ ((generation : ℕ) × Advances did remaining contents told.generation_file (Ok generation) × IsUnstarted f)

  abbrev pub Lives : Result Lived Fault → Type 0
  Lives life = MatchResult life IsLived (λ f. ((key : Option (List ℕ)) × Unsettled did remaining contents file f key) ⊎ IsUnborn f)

-- ---- its end, by the fault of its receipts and that of its journal

abbrev pub fault_lines : Option Fault → List ℕ
fault_lines None = []
fault_lines (Some f) = fault_text f

abbrev pub text_after : Option Fault → Option Fault → List ℕ
text_after unconfirmed unwritten = fault_lines unconfirmed ++ fault_lines unwritten

-- 0 exactly if every receipt is confirmed and the journal was written
abbrev pub status_after : Option Fault → Option Fault → ℕ
status_after None None = 0
status_after unconfirmed unwritten = 1

-- The status is this one. So is the text; or memory ran out for the line of a fault, and the text says that.
abbrev pub SaysEnd : Option Fault → Option Fault → List ℕ → ℕ → Type 0
SaysEnd unconfirmed unwritten text status =
    (status ≡ status_after unconfirmed unwritten)
    × ((text ≡ text_after unconfirmed unwritten) ⊎ ((text ≡ fault_text fault.OutOfMemory) × (status ≡ 1)))

module _ {F : Type 0} (did : Call F → Type 0) (contents : F → Option (List ℕ)) where
  -- The journal of the history was written to the file, and no record of it is folded; or it could not be.
  abbrev pub WritesJournal : List ℕ → HistoryValue → Option Fault → Type 0
  WritesJournal path h None = (h.folded ≡ 0) × Replaces did contents path (joined (journal_lines h))
  WritesJournal path h (Some f) = Unwritten did path h f

  -- A life that was lived ends by its unconfirmed receipt and its journal, another by its fault.
  abbrev pub Ends : Result Lived Fault → List ℕ → ℕ → Type 0
  Ends (Ok l) text status =
      (unwritten : Option Fault) × WritesJournal (string_bytes l.journal) l.left.history unwritten
      × SaysEnd l.left.unconfirmed unwritten text status
  Ends (Err f) text status = SaysEnd (Some f) None text status

-- A life was lived, or a fault prevented it; the text and the status are those of its end.
pub record Serves {F : Type 0} (did : Call F → Type 0) (remaining contents : F → Option (List ℕ)) (file text : List ℕ)
    (status : ℕ) : Type 0 where
  pub life : Result Lived Fault
  pub is : Lives did remaining contents file life
  pub ends : Ends did contents life text status
