-- A life that was lived, or was not, and the status after it.
use Rattle.std.proofs.Common.{◌≡◌, ℕ, List, Option, Result, Ok, Err, refl, sym, subst, inl, inr}
use Rattle.std.specs.Prelude.{None, Some, IfOk, MatchResult}
use Rattle.cg_types.specs.declared.fault.Fault.{Fault}
use Rattle.cg_core.specs.Values.{NodeValue}
use Rattle.cg_history.specs.History.{HistoryValue}
use Rattle.cg_host.specs.Disk.{Call}
use Rattle.cg_agent.specs.declared.running.Ran.{Ran}
use Rattle.cg_agent.specs.Lives.{status_after, IsBorn, IsLived, IsUnlived, AgentLives}

pub lived : {F : Type 0} (did : Call F → Type 0) (remaining contents : F → Option (List ℕ)) (file : List ℕ) (f : Option Fault) (h : HistoryValue)
    → IsLived did remaining contents file h → AgentLives did remaining contents file (status_after f)
lived did remaining contents file None h x = inl (refl, (h, x))
lived did remaining contents file (Some f) h x = inr (refl, inl (h, x))

pub ran : {F W : Type 0} (did : Call F → Type 0) (remaining contents : F → Option (List ℕ)) (file : List ℕ) (start : NodeValue) (r : Result (Ran W) Fault)
    → IfOk r (λ x. x.ended.history.start ≡ start) → IsBorn did remaining contents file start
    → MatchResult r (λ x. IsLived did remaining contents file x.ended.history) (IsUnlived did remaining contents file)
ran did remaining contents file start (Ok x) same born = record { born = subst (IsBorn did remaining contents file) (sym same) born }
ran did remaining contents file start (Err f) same born = inr (inr (start, born))
