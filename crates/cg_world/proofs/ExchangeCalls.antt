-- An exchange between two nodes of a world in hand.
use Rattle.std.proofs.Common.{◌≡◌, [], sym, subst}
use Rattle.cg_core.specs.Values.{NodeValue}
use Rattle.cg_places.specs.Exchange.{prompt_exchange}
use Rattle.cg_world.specs.World.{WorldValue}
use Rattle.cg_world.specs.Terms.{Runs}
use Rattle.cg_world.specs.WorldLaws.{IsReached}
use Rattle.cg_world.specs.Exchange.{Exchange, StartsNeither, ReachesTheMerge, EndsAtTheMerge, JoinsBoth}
use Rattle.cg_world.proofs.ExchangeLaws.{exchanges_end_at_the_join, undisturbed_exchanges_merge}

-- an exchange with empty lists is one with nothing between its messages
bare_exchange : (x : Exchange) → x.before_syn ≡ [] → x.before_ack ≡ [] → x.before_ack2 ≡ [] → prompt_exchange x.opener x.answerer x.syn_at x.ack_at x.ack2_at ≡ x
bare_exchange x e f g = λ i. record x { before_syn = sym e i; before_ack = sym f i; before_ack2 = sym g i }

pub joins_both : (c : WorldValue) → IsReached c → (x : Exchange) (opening answering : NodeValue) → Runs c x.opener opening → Runs c x.answerer answering → StartsNeither x → JoinsBoth c x
joins_both c reached x opening answering ro ra neither = record {
  opening = opening;
  opens = ro;
  joined = subst (λ c. ReachesTheMerge c x opening) (sym reached.is)
      (exchanges_end_at_the_join c.settings reached.actions x opening answering (subst (λ c. Runs c x.opener opening) reached.is ro) (subst (λ c. Runs c x.answerer answering) reached.is ra) neither);
  equal = λ answering ra e f g. subst (λ x. EndsAtTheMerge c x opening answering) (bare_exchange x e f g)
      (subst (λ c. EndsAtTheMerge c (prompt_exchange x.opener x.answerer x.syn_at x.ack_at x.ack2_at) opening answering) (sym reached.is)
      (undisturbed_exchanges_merge c.settings reached.actions x.opener x.answerer x.syn_at x.ack_at x.ack2_at opening answering
      (subst (λ c. Runs c x.opener opening) reached.is ro) (subst (λ c. Runs c x.answerer answering) reached.is ra)));
}
