-- Lemmas on exchanges of which messages are lost.
use Rattle.std.proofs.Common.{ℕ, zero, suc, ◌-◌, ◌≡◌, Option, None, Some, Result, Ok, refl, ap, ◌∙◌}
use Rattle.cg_types.specs.declared.fault.Fault.{Fault}
use Rattle.cg_types.specs.ResultSteps.{◌>>=◌, then}
use Rattle.cg_messages.specs.declared.message.Message.{Message}
use Rattle.cg_core.specs.declared.reply.Reply.{Reply}
use Rattle.cg_core.specs.Values.{NodeValue}
use Rattle.cg_core.specs.Borrowed.{arrival_of}
use Rattle.cg_core.specs.Sending.{message_of}
use Rattle.cg_core.specs.Step.{Step, node_step}
use Rattle.cg_fleet.specs.Relay.{Exchanged, begun, exchanged, relayed, sends, sent_of, size}

-- no message, and nothing is done
pub relayed_none : (now arrive : ℕ) (from to : NodeValue) → relayed now arrive None from to ≡ Ok (exchanged from to (sent_of 0 0))
relayed_none now zero from to = refl
relayed_none now (suc arrive) from to = refl

-- a message is lost
pub relayed_lost : (now arrive : ℕ) (m : Message) (from to : NodeValue) → arrive ≡ 0
    → relayed now arrive (Some m) from to ≡ Ok (exchanged from to (sent_of (size m) 0))
relayed_lost now arrive m from to none = ap (λ (a : ℕ). relayed now a (Some m) from to) none

-- a message arrives, and the exchange goes on with the answer
pub relayed_on : (now k arrive : ℕ) (m : Message) (from to mid : NodeValue) (r : Reply) (answer : Option Message)
    → arrive ≡ suc k → node_step to (arrival_of now m) ≡ Ok (mid, r) → message_of r ≡ answer
    → relayed now arrive (Some m) from to ≡ then (relayed now k answer mid from) (begun (size m))
relayed_on now k arrive m from to mid r answer count step sent =
    ap (λ (a : ℕ). relayed now a (Some m) from to) count
    ∙ ap (λ (s : Step). sends s >>= (λ x. then (relayed now k x.1 x.0 from) (begun (size m)))) step
    ∙ ap (λ (o : Option Message). then (relayed now k o mid from) (begun (size m))) sent

-- a message arrives, and is answered by none
pub relayed_last : (now arrive : ℕ) (m : Message) (from to mid : NodeValue) (r : Reply)
    → arrive ≡ suc (arrive - 1) → node_step to (arrival_of now m) ≡ Ok (mid, r) → message_of r ≡ None
    → relayed now arrive (Some m) from to ≡ Ok (begun (size m) (exchanged mid from (sent_of 0 0)))
relayed_last now arrive m from to mid r count step sent =
    relayed_on now (arrive - 1) arrive m from to mid r None count step sent
    ∙ ap (λ (x : Result Exchanged Fault). then x (begun (size m))) (relayed_none now (arrive - 1) mid from)

-- a message arrives, and its answer and the answers to that lead to an exchange
pub relayed_more : (now arrive : ℕ) (m answer : Message) (from to mid : NodeValue) (r : Reply) (x : Exchanged)
    → arrive ≡ suc (arrive - 1) → node_step to (arrival_of now m) ≡ Ok (mid, r) → message_of r ≡ Some answer
    → relayed now (arrive - 1) (Some answer) mid from ≡ Ok x
    → relayed now arrive (Some m) from to ≡ Ok (begun (size m) x)
relayed_more now arrive m answer from to mid r x count step sent rest =
    relayed_on now (arrive - 1) arrive m from to mid r (Some answer) count step sent
    ∙ ap (λ (y : Result Exchanged Fault). then y (begun (size m))) rest
