use Rattle.std.proofs.Common.{ℕ, List, ◌∙◌, ap, subst, sym}
use Rattle.cg_messages.specs.declared.message.Message.TheVariants as message
use Rattle.cg_core.specs.declared.event.Event.TheVariants as event
use Rattle.cg_core.specs.Values.{NodeValue}
use Rattle.cg_core.specs.Step.{node_step, opening}
use Rattle.cg_fleet.specs.Moves.{ReachesAll, fleet_of}
use Rattle.cg_fleet.proofs.MoveLemmas.{has_quiet_round}
use Rattle.cg_fleet.proofs.rounds.quiet_round_at.Goals as goal

pub returns : goal.returns
returns g c =
    (let P : List ℕ → Type 0 = λ l.
    ReachesAll c.args.now (message.Syn c.in_ok-syn.syn) c.args.place l
    (fleet_of c.args.nodes.now c.args.sent.now) (fleet_of c.reach_all.new.nodes c.reach_all.new.sent)
    in has_quiet_round c.args.place c.args.now c.words-words.result c.args.nodes.now c.args.sent.now c.index-nodes-place.result
    c.in_ok-reply.field-0-0 c.in_ok-reply.reply c.in-Some.peers c.in-Some.field-0-1 c.in_ok-syn.syn
    (fleet_of c.reach_all.new.nodes c.reach_all.new.sent) c.requires c.index-nodes-place.is
    (ap (λ (n : NodeValue). node_step n (event.Tick c.args.now c.words-words.result)) c.index-nodes-place.is ∙ c.in_ok-reply.ensures)
    c.in-Some.ensures (c.in_ok-syn.ensures ∙ ap opening (sym c.index-nodes-place.is)) (subst P c.endpoints.ensures c.in_ok-reach_all.ensures))
