-- What answers show of a table and a status.
use Rattle.std.specs.Prelude.{◌≡◌, ◌⊎◌, Bool, Some, codes}
use Rattle.std.specs.FinMap as map
use Rattle.json.specs.Json.{Json, document}
use Rattle.http_header.specs.FieldValue.{plain_value}
use Rattle.cg_types.specs.declared.fault.Fault.{Fault}
use Rattle.cg_types.specs.declared.fault.Fault.TheVariants.{OutOfMemory, NoSuchNode}
use Rattle.cg_table.specs.Values.{TableValue}
use Rattle.cg_tokens.specs.Ring.{ring, replicas}
use Rattle.cg_status.specs.declared.status.Status.{Status}
use Rattle.cg_status.specs.Status.{status_json, endpoints_json}
use Rattle.cg_status.specs.Metrics.{metrics}
use Rattle.cg_page.specs.Page.{page_html}
use Rattle.cg_page.specs.declared.template.TheConstants.{SCRIPT}
use Rattle.cg_operator.specs.Shown.{table_lines}
use Rattle.cg_http.specs.declared.call.Call.{Call}
use Rattle.cg_http.specs.declared.call.Call.TheVariants as call
use Rattle.cg_web.specs.declared.answer.Form.TheVariants as form
use Rattle.cg_web.specs.declared.answer.Answer.{Answer}
use Rattle.cg_web.specs.Answers.{answer_of, plain, health}
use Rattle.cg_web.specs.Policy.{policy_text}

-- The answer is a value of JSON.
pub record IsJson (value : Json) (a : Answer) : Type 0 where
  pub answer : a ≡ answer_of 200 form.Json a.body
  pub value_is : document a.body ≡ Some value

-- the page of a status and a table
abbrev pub page_answer : Status → TableValue → Answer
page_answer s t = record {
  status = 200;
  form = form.Page;
  more = Some (codes "content-security-policy", plain_value (policy_text SCRIPT.now));
  body = page_html s (map.entries t.entries) (map.entries (ring t.entries));
}

-- The answer to a call that reads shows this table, and the status that was published last.
abbrev pub Shows : TableValue → Call → Answer → Type 0
Shows t call.Page a = (s : Status) × (a ≡ page_answer s t)
Shows t call.Status a = (s : Status) × IsJson (status_json s (map.entries t.entries)) a
Shows t (call.Printed view) a = a ≡ plain 200 (table_lines t view)
Shows t (call.ReplicaList token rf) a = IsJson (endpoints_json (replicas (map.entries (ring t.entries)) token rf)) a
Shows t call.Metrics a = (s : Status) × (a ≡ answer_of 200 form.Metrics (metrics s))
Shows t call.Health a = (goes_on : Bool) × (a ≡ health goes_on)
Shows t (call.Set key text) a = ⊥
Shows t (call.Remove key) a = ⊥
Shows t call.Stop a = ⊥

-- Nothing was there to read, or memory ran out.
abbrev pub Lacks : Fault → Type 0
Lacks f = (f ≡ NoSuchNode) ⊎ (f ≡ OutOfMemory)
