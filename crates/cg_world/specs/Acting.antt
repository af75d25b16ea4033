-- Outcomes of actions, as they are done one after the other.
use Rattle.std.specs.Prelude.{◌≡◌, Bool, true, false, cond, List, [], ◌∷◌, Result, Ok, Err}
use Rattle.std.specs.Bool.{MatchBool}
use Rattle.cg_types.specs.declared.fault.Fault.{Fault}
use Rattle.cg_types.specs.declared.fault.Fault.TheVariants.{OutOfMemory}
use Rattle.cg_types.specs.Answer.{Answers}
use Rattle.cg_core.specs.Step.{then}
use Rattle.cg_world.specs.declared.world.Shown.{Shown}
use Rattle.cg_world.specs.World.{Action, WorldValue, reply_to, number_to, acting, act}

-- the reply of the node that makes a step, and the number of the message that is sent
abbrev pub shown_by : WorldValue → Action → Shown
shown_by c action = record { reply = reply_to c action; sent = number_to c action }

-- the outcome that an action shows, or the fault with which it is refused
abbrev pub showing : WorldValue → Action → Result Shown Fault
showing c action = then (acting c action) (λ d. shown_by c action)

-- ---- runs

-- `true` if an action found no memory
abbrev pub found_no_memory : Result Shown Fault → Bool
found_no_memory (Ok shown) = false
found_no_memory (Err OutOfMemory) = true
found_no_memory (Err fault) = false

-- A run of actions gave these answers and led from c to d. Each answer is its action's outcome, or the fault with which
-- it is refused. If one found no memory, it is the last, and the world is the one before its action; else each action
-- has one.
abbrev pub Ran : WorldValue → List Action → List (Result Shown Fault) → WorldValue → Type 0
Ran c [] [] d = d ≡ c
Ran c [] (answer ∷ answers) d = ⊥
Ran c (action ∷ actions) [] d = ⊥
Ran c (action ∷ actions) (answer ∷ answers) d =
    Answers (λ shown. shown) (showing c action) answer
    × MatchBool (found_no_memory answer) ((answers ≡ []) × (d ≡ c)) (Ran (act c action) actions answers d)

-- the actions before the first one that found no memory
abbrev pub done_of : List Action → List (Result Shown Fault) → List Action
done_of [] answers = []
done_of (action ∷ actions) [] = []
done_of (action ∷ actions) (answer ∷ answers) =
    cond (found_no_memory answer) [] (action ∷ done_of actions answers)
