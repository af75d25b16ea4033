-- An answer that shows a status shows some status.
use Rattle.std.proofs.Common.{◌≡◌, Result, Ok, Err, IfOk}
use Rattle.std.specs.FinMap as map
use Rattle.cg_types.specs.declared.fault.Fault.{Fault}
use Rattle.cg_table.specs.Values.{TableValue}
use Rattle.cg_status.specs.declared.status.Status.{Status}
use Rattle.cg_status.specs.Status.{status_json}
use Rattle.cg_http.specs.declared.call.Call.TheVariants as call
use Rattle.cg_web.specs.declared.answer.Answer.{Answer}
use Rattle.cg_web.specs.Shown.{IsJson, page_answer, Shows}

pub shows_status : (t : TableValue) (s : Status) (r : Result Answer Fault) → IfOk r (IsJson (status_json s (map.entries t.entries)))
    → IfOk r (Shows t call.Status)
shows_status t s (Ok a) x = (s, x)
shows_status t s (Err f) x = tt

pub shows_page : (t : TableValue) (s : Status) (r : Result Answer Fault) → IfOk r (λ (a : Answer). a ≡ page_answer s t) → IfOk r (Shows t call.Page)
shows_page t s (Ok a) x = (s, x)
shows_page t s (Err f) x = tt
