-- The results of the audit of journals: the text and the status.
use Rattle.std.specs.Prelude.{◌≡◌, ℕ, ◌⊎◌, List, [], Result}
use Rattle.cg_types.specs.declared.fault.Fault.TheVariants as fault
use Rattle.cg_types.specs.Fault.{fault_text}
use Rattle.cg_history.specs.History.{HistoryValue}
use Rattle.cg_journal.specs.declared.unread.Unread.{Unread}
use Rattle.cg_audit.specs.Items.{LivesValue}
use Rattle.cg_audit.specs.Audit.{IsAudited}
use Rattle.cg_audit.specs.declared.item.Order.{Order}
use Rattle.cg_audit.specs.declared.item.AuditFault.{AuditFault}
use Rattle.cg_tool.specs.Gathered.{GathersAll, StopsAt}
use Rattle.cg_tool.specs.Report.{report_text, report_status}

-- memory ran out for the text that was due
pub record LacksMemory (text : List ℕ) (status : ℕ) : Type 0 where
  pub text_is : text ≡ fault_text fault.OutOfMemory
  pub status_is : status ≡ 1

-- the report of an audit of these lives
pub record IsReport (lives : List LivesValue) (text : List ℕ) (status : ℕ) : Type 0 where
  pub answer : Result Order AuditFault
  pub audited : IsAudited lives answer
  pub text_is : text ≡ report_text answer
  pub status_is : status ≡ report_status answer

-- the fault of a journal that was not read
pub record IsFault (u : Unread) (text : List ℕ) (status : ℕ) : Type 0 where
  pub text_is : text ≡ fault_text u.fault
  pub status_is : status ≡ 1

-- The expected text and status: all journals were read, and this is the report on their lives; or one was not, and this
-- is its fault.
abbrev pub IsExpectedReport : {S : Type 0} → (S → S → HistoryValue → Type 0) → (S → S → Unread → Type 0)
    → List S → List S → List ℕ → ℕ → Type 0
IsExpectedReport reads fails ss ts text status =
    ((lives : List LivesValue) × GathersAll reads fails ss ts [] lives
    × (IsReport lives text status ⊎ LacksMemory text status))
    ⊎ ((u : Unread) × StopsAt reads fails ss ts [] u × (IsFault u text status ⊎ LacksMemory text status))
