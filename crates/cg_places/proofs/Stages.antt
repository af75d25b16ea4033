-- The stages between the messages of an exchange, and the deliveries of these.
use Rattle.cg_places.specs.Exchange.{ExchangeOf, WorldKind, after_opening, after_syn, after_ack}

module _ {World Action Time : Type 0} (k : WorldKind World Action Time) (w : World) (x : ExchangeOf Action Time) where
  -- each message in the hands of its addressee
  abbrev pub syn_delivery : Action
  syn_delivery = k.delivery (k.count (after_opening k w x)) x.answerer x.syn_at

  abbrev pub ack_delivery : Action
  ack_delivery = k.delivery (k.count (after_syn k w x)) x.opener x.ack_at

  abbrev pub ack2_delivery : Action
  ack2_delivery = k.delivery (k.count (after_ack k w x)) x.answerer x.ack2_at

  -- the ACK, and the ACK2, is about to be handed to its addressee
  abbrev pub at_ack : World
  at_ack = k.after_all (after_syn k w x) x.before_ack

  abbrev pub at_ack2 : World
  at_ack2 = k.after_all (after_ack k w x) x.before_ack2
