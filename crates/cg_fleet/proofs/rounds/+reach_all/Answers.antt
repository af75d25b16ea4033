use Rattle.std.proofs.Common.{arith, rules}
use Rattle.cg_messages.specs.declared.message.Message.TheVariants as message
use Rattle.cg_fleet.specs.Moves.{fleet_of}
use Rattle.cg_fleet.proofs.MoveLemmas.{reaches_all}
use Rattle.cg_fleet.proofs.rounds.+reach_all.Goals as goal

pub reach_all-requires : goal.reach_all-requires
reach_all-requires g n c κs within = (search rules, (search rules, omega (arith, c.requires, c.reach.auto.nodes)))

pub returns : goal.returns
returns g n c =
    reaches_all c.args.now (message.Syn c.args.syn.now) c.args.place c.args.peers.now c.in-Some.others.now c.in-Some.first.now
    (fleet_of c.args.nodes.now c.args.sent.now) (fleet_of c.reach.new.nodes c.reach.new.sent)
    (fleet_of c.reach_all.new.nodes c.reach_all.new.sent) c.in-Some.ensures.cases.0 c.in_ok-reach.ensures c.in_ok-reach_all.ensures
