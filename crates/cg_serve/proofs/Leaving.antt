-- The history that a run left, whatever its workers did.
use Rattle.std.proofs.Common.{◌≡◌, Result, Ok, Err, sym}
use Rattle.std.specs.Prelude.{IfOk, IfErr}
use Rattle.cg_types.specs.declared.fault.Fault.{Fault}
use Rattle.cg_core.specs.Values.{NodeValue}
use Rattle.cg_threads.specs.Left.{Work}
use Rattle.cg_threads.specs.declared.ran.Ran.{Ran}
use Rattle.cg_threads.specs.declared.ran.NotRun.{NotRun}
use Rattle.cg_threads.specs.Ran.{AnyWork, IsRun, IsNotRun}
use Rattle.cg_threads.proofs.Running.{ran_weaker, did_not_weaker}
use Rattle.cg_serve.specs.declared.node.LifeLeft.{LifeLeft}
use Rattle.cg_serve.specs.Lives.{left_after, IsLifeLeft}

pub left_by_run : (start : NodeValue) (worked : Work → Type 0) (ran : Result Ran NotRun) → IfOk ran (λ r. IsRun start worked r.history r.rounds.items)
    → IfErr ran (IsNotRun start worked) → (left : Result LifeLeft Fault) → left ≡ left_after ran → IfOk left (IsLifeLeft start)
left_by_run start worked ran ok err (Ok l) is = (ran, ran_weaker start worked AnyWork (λ w x. tt) ran ok, did_not_weaker start worked AnyWork (λ w x. tt) ran err, sym is)
left_by_run start worked ran ok err (Err f) is = tt
