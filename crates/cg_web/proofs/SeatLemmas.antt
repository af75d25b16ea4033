-- The requests of a connection keep the parts of the seat.
use Rattle.std.proofs.Common.{◌≡◌, ℕ, inl, inr, List, [], ◌∷◌, Option, None, Some, ◌∙◌, ap}
use Rattle.cg_types.specs.declared.fault.Fault.{Fault}
use Rattle.cg_core.specs.Values.{NodeValue}
use Rattle.cg_core.specs.declared.event.Event.{Event}
use Rattle.cg_workers.specs.Each.{Each}
use Rattle.cg_ahead_seats.specs.Gates.{AheadValue}
use Rattle.cg_web.specs.Changes.{Entered, Changed}
use Rattle.cg_web.specs.Requests.{Change, DoneChange, DoneRequests}

module _ (start : NodeValue) (own : ℕ) where
  entered_parts : (e : Event) (g h : AheadValue) → Entered start own e g h → h.seat.parts ≡ g.seat.parts
  entered_parts e g h x = ap (λ (y : AheadValue). y.seat.parts) x.3 ∙ x.2.seat.1

  changed_parts : (e : Event) (told : Option Fault) (g h : AheadValue) → Changed start own e told g h → h.seat.parts ≡ g.seat.parts
  changed_parts e None g h x = entered_parts e g h x
  changed_parts e (Some f) g h (inl x) = x.seat.1
  changed_parts e (Some f) g h (inr x) = entered_parts e g h x

  each_parts : (changes : List Change) (g h : AheadValue) → Each (DoneChange start own) changes g h → h.seat.parts ≡ g.seat.parts
  each_parts [] g h is = ap (λ (y : AheadValue). y.seat.parts) is
  each_parts (c ∷ changes) g h x = each_parts changes x.0 h x.2 ∙ changed_parts c.0 c.1 g x.0 x.1

  pub requests_keep : (g h : AheadValue) → DoneRequests start own g h → h.seat.parts ≡ g.seat.parts
  requests_keep g h x = each_parts x.0 g h x.1
