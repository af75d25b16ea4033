-- The status and the body of a refusal.
use Rattle.std.specs.Prelude.{ℕ, ◌||◌, ◌==◌, List, codes, if◌then◌else◌}
use Rattle.cg_types.specs.declared.fault.Fault.{Fault}
use Rattle.cg_types.specs.Fault.{fault_number, fault_text}
use Rattle.cg_http.specs.declared.refusal.Refusal.{Refusal}
use Rattle.cg_http.specs.declared.refusal.Refusal.TheVariants as refusal

-- `OutOfMemory`, `WriteFault` and `NoSuchNode` are 503, `NoSuchKey` is 404
abbrev pub fault_status : Fault → ℕ
fault_status f =
    if (fault_number f == 1) || ((fault_number f == 15) || (fault_number f == 19)) then 503
    else if fault_number f == 20 then 404 else 400

abbrev pub status_of : Refusal → ℕ
status_of (refusal.Fault fault) = fault_status fault
status_of refusal.Forbidden = 403
status_of refusal.NotFound = 404
status_of (refusal.NotAllowed methods) = 405
status_of refusal.TooLarge = 413

unfoldable pub words_of : Refusal → List ℕ
words_of (refusal.Fault fault) = fault_text fault
words_of refusal.Forbidden = codes "forbidden\n"
words_of refusal.NotFound = codes "not found\n"
words_of (refusal.NotAllowed methods) = codes "method not allowed\n"
words_of refusal.TooLarge = codes "body too large\n"
