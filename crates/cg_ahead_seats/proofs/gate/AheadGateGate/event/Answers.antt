use Rattle.std.proofs.Common.{◌≡◌, Some, refl, subst}
use Rattle.cg_core.specs.declared.reply.Reply.{Reply}
use Rattle.cg_core.specs.Replies.{IsReplyTo}
use Rattle.cg_ahead_seats.specs.Gates.{AheadValue, Enters, Refuses, Stays, last_reply}
use Rattle.cg_ahead_seats.proofs.GateLemmas.{entered, refused, stayed}
use Rattle.cg_ahead_seats.proofs.gate.AheadGateGate.event.Goals as goal

pub returns-in-Ok-clause-ok : goal.returns-in-Ok-clause-ok
returns-in-Ok-clause-ok g c =
    let done = c.in-Ok.ensures in
    let i = c.self.inside in
    let now : AheadValue = record { seat = c.submit.new.seat; last = Some c.in-Ok.receipt; told = c.in-Ok.told; torn = i.torn } in
    subst (λ (v : AheadValue). (answer : Reply) × (last_reply now ≡ Some answer) × Enters g.N.Name.start g.N.Naming.opening.own v c.args.event answer now × IsReplyTo c.args.event answer) c.self.view_is
    (entered g.N.Name.start g.N.Naming.opening.own (record { seat = i.seat; last = i.last; told = i.told; torn = i.torn }) now c.args.event c.in-Ok.receipt done.entry done.confirmed refl done.amount done.seat refl done.shown)

pub returns-in_default : goal.returns-in_default
returns-in_default g c =
    let done = c.in-Err.ensures in
    let i = c.self.inside in
    let not = c.in_default.not-WriteFault in
    let was : AheadValue = record { seat = i.seat; last = i.last; told = i.told; torn = i.torn } in
    let now : AheadValue = record { seat = c.submit.new.seat; last = i.last; told = i.told; torn = i.torn } in
    let no = refused g.N.Name.start was c.args.event c.submit.new.seat.seen c.in-Err.fault not done.entry in
    record {
      ok = tt;
      err = subst (λ (v : AheadValue). Stays v now) c.self.view_is (stayed was c.submit.new.seat c.in-Err.fault not done.err done.begins done.seat);
      fault = subst (λ (v : AheadValue). Refuses g.N.Name.start v c.args.event c.in-Err.fault) c.self.view_is no.0;
      known = no.1;
    }
