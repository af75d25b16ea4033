-- The report of an audit: its text and its status.
use Rattle.std.specs.Prelude.{ℕ, List, ◌++◌, codes, Result, Ok, Err}
use Rattle.std.specs.List.{flat_map}
use Rattle.cg_types.specs.declared.fault.Fault.TheVariants as fault
use Rattle.cg_types.specs.Fault.{fault_text}
use Rattle.cg_text.specs.Printed.{item_line, stuck_line}
use Rattle.cg_audit.specs.declared.item.LifeItem.{LifeItem}
use Rattle.cg_audit.specs.declared.item.Order.{Order}
use Rattle.cg_audit.specs.declared.item.AuditFault.{AuditFault}
use Rattle.cg_audit.specs.declared.item.AuditFault.TheVariants.{Other, Stuck}

abbrev pub line_of : LifeItem → List ℕ
line_of i = item_line i.endpoint i.generation i.number

abbrev pub stuck_line_of : LifeItem → List ℕ
stuck_line_of i = stuck_line i.endpoint i.generation i.number

-- the text of one run: the items in their order, and that they are one run
abbrev pub run_text : List LifeItem → List ℕ
run_text items = flat_map line_of items ++ codes "one run\n"

-- the text of stuck items: the heads, and that they are stuck
abbrev pub stuck_text : List LifeItem → List ℕ
stuck_text heads = flat_map stuck_line_of heads ++ fault_text fault.Stuck

abbrev pub report_text : Result Order AuditFault → List ℕ
report_text (Ok order) = run_text order.items.items
report_text (Err (Stuck heads)) = stuck_text heads.items
report_text (Err (Other f)) = fault_text f

-- the status: 0 if there is one run, else 1
abbrev pub report_status : Result Order AuditFault → ℕ
report_status (Ok order) = 0
report_status (Err f) = 1
