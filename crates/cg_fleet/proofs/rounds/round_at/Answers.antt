use Rattle.std.proofs.Common.{ℕ, List, subst}
use Rattle.cg_messages.specs.declared.message.Message.TheVariants as message
use Rattle.cg_fleet.specs.Moves.{ReachesAll, fleet_of}
use Rattle.cg_fleet.proofs.MoveLemmas.{has_round}
use Rattle.cg_fleet.proofs.rounds.round_at.Goals as goal

pub returns : goal.returns
returns g c =
    (let P : List ℕ → Type 0 = λ l.
    ReachesAll c.args.now (message.Syn c.in-Some.syn) c.args.place l
    (fleet_of c.step_at.new.nodes c.args.sent.now) (fleet_of c.reach_all.new.nodes c.reach_all.new.sent)
    in has_round c.args.place c.args.now c.words-words.result c.args.nodes.now c.step_at.new.nodes c.args.sent.now c.in_ok-reply.reply
    c.in-Some.peers c.in-Some.syn (fleet_of c.reach_all.new.nodes c.reach_all.new.sent) c.in_ok-reply.ensures.stepped c.in-Some.ensures
    (subst P c.endpoints.ensures c.in_ok-reach_all.ensures))
