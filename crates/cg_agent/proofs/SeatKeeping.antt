-- All work keeps the caller and the parts of a seat.
use Rattle.std.proofs.Common.{◌≡◌, ◌⊎◌, ℕ, List, Option, Result, Ok, Err, refl, sym, ◌∙◌, subst, inl, inr}
use Rattle.std.specs.Prelude.{None, Some}
use Rattle.rand_core.specs.Stream.{Stream}
use Rattle.cg_types.specs.declared.fault.Fault.{Fault}
use Rattle.cg_messages.specs.declared.kind.Kind.{Kind}
use Rattle.cg_messages.specs.declared.kind.Kind.TheVariants as kind
use Rattle.cg_messages.specs.Values.{SynValue}
use Rattle.cg_core.specs.declared.event.Event.{Event}
use Rattle.cg_core.specs.declared.reply.Reply.{Reply}
use Rattle.cg_core.specs.declared.reply.Reply.TheVariants as reply
use Rattle.cg_core.specs.Values.{NodeValue}
use Rattle.cg_operator.specs.declared.command.OperatorCommand.{OperatorCommand}
use Rattle.cg_operator.specs.declared.command.OperatorCommand.TheVariants as command
use Rattle.cg_workers.proofs.EachLemmas.{each_keeps}
use Rattle.cg_workers.proofs.Keeping.{KeptBy, next_keeps, reached_keeps}
use Rattle.cg_ahead_seats.specs.Gates.{AheadValue, Enters, Refuses, Stays, forgotten}
use Rattle.cg_agent.specs.Work.{ThenForgets, Came, HasAnswered, ReachedBy, SentTo, SentRoundOf, TickSent, TurnedBy, TurnedOn}
use Rattle.cg_web.specs.Changes.{Entered, Changed}
use Rattle.cg_web.specs.Requests.{DoneChange, DoneRequests}
use Rattle.cg_agent.specs.Lines.{Obeyed, DoneLine, DoneLines}

abbrev pub Keeps : AheadValue → AheadValue → Type 0
Keeps g h = (h.seat.caller ≡ g.seat.caller) × (h.seat.parts ≡ g.seat.parts)

same : (g : AheadValue) → Keeps g g
same g = (refl, refl)

both : (g u h : AheadValue) → Keeps g u → Keeps u h → Keeps g h
both g u h a b = (b.0 ∙ a.0, b.1 ∙ a.1)

stayed : (g h : AheadValue) → Stays g h → Keeps g h
stayed g h x = x.seat

same_after : (g h : AheadValue) → h ≡ g → Keeps g h
same_after g h is = subst (Keeps g) (sym is) (same g)

forgot_keeps : (g h k : AheadValue) → Keeps g h → k ≡ forgotten h → Keeps g k
forgot_keeps g h k kept is = subst (Keeps g) (sym is) kept

module _ (start : NodeValue) (own : ℕ) (shows : ℕ → Type 0) where
  done : (k : Kind) → KeptBy (Enters start own) (Refuses start) Stays shows Keeps same both stayed k
  done k now e r g h shown at is x = x.seat

  module _ {R W L : Type 0} (remaining : R → Option (List ℕ)) (contents : W → Option (List ℕ))
      (accepts : L → Result (Option (R × W)) Fault → L → Type 0) where
    came_keeps : (came : Option (Option Fault)) (s t : L × AheadValue) → Came start own remaining contents accepts shows came s t → Keeps s.1 t.1
    came_keeps came s t x = next_keeps (Enters start own) (Refuses start) Stays shows Keeps same both stayed remaining contents accepts came s t (done kind.Syn) (done kind.Ack2) x

    end_keeps : (s t : L × AheadValue) → (t ≡ s) ⊎ Came start own remaining contents accepts shows None s t → Keeps s.1 t.1
    end_keeps s t (inl is) = subst (λ (v : L × AheadValue). Keeps s.1 v.1) (sym is) (same s.1)
    end_keeps s t (inr x) = came_keeps None s t x

    pub answered_keeps : (s t : L × AheadValue) → HasAnswered start own remaining contents accepts shows s t → Keeps s.1 t.1
    answered_keeps s t x =
        both s.1 x.here.1 t.1
        (each_keeps (ThenForgets (λ b. Came start own remaining contents accepts shows (Some b))) (λ (a b : L × AheadValue). Keeps a.1 b.1) (λ a. same a.1) (λ a b c. both a.1 b.1 c.1)
        (λ broken a b one. forgot_keeps a.1 one.0 b.1 (came_keeps (Some broken) a (b.0, one.0) one.1) one.2)
        x.each s x.here x.came)
        (end_keeps x.here t x.end)

  module _ {R W D : Type 0} (remaining : R → Option (List ℕ)) (contents : W → Option (List ℕ))
      (dials : D → ℕ → Result (R × W) Fault → D → Type 0) where
    sent_keeps : (syn : SynValue) (peers : List ℕ) (s t : D × AheadValue) → SentTo start own remaining contents dials shows syn peers s t → Keeps s.1 t.1
    sent_keeps syn peers s t x =
        each_keeps (ThenForgets (ReachedBy start own remaining contents dials shows syn)) (λ (a b : D × AheadValue). Keeps a.1 b.1) (λ a. same a.1) (λ a b c. both a.1 b.1 c.1)
        (λ peer a b one. forgot_keeps a.1 one.0 b.1 (reached_keeps (Enters start own) (Refuses start) Stays shows Keeps same both stayed remaining contents dials syn peer a (b.0, one.0) (done kind.Ack) one.1) one.2)
        peers s t x

    round_keeps : (answer : Reply) (s t : D × AheadValue) → SentRoundOf start own remaining contents dials shows answer s t → Keeps s.1 t.1
    round_keeps (reply.Round peers syn) s t x = sent_keeps syn peers s t x
    round_keeps (reply.Done version) s t x = subst (λ (v : D × AheadValue). Keeps s.1 v.1) (sym x) (same s.1)
    round_keeps (reply.Sent m) s t x = subst (λ (v : D × AheadValue). Keeps s.1 v.1) (sym x) (same s.1)
    round_keeps (reply.Both outcomes ack2) s t x = subst (λ (v : D × AheadValue). Keeps s.1 v.1) (sym x) (same s.1)
    round_keeps (reply.Took outcomes) s t x = subst (λ (v : D × AheadValue). Keeps s.1 v.1) (sym x) (same s.1)

    tick_keeps : (now : ℕ) (words : List ℕ) (result : Result (Unit {0}) Fault) (s t : D × AheadValue) → TickSent start own remaining contents dials shows now words result s t → Keeps s.1 t.1
    tick_keeps now words (Ok d) s t (answer, u, ticked, sent) = both s.1 u t.1 ticked.seat (round_keeps answer (s.0, u) t sent)
    tick_keeps now words (Err f) s t (left, inl refused) = refused.1.seat
    tick_keeps now words (Err f) s t (left, inr (lacks, (answer, ticked))) = ticked.seat

    pub turned_keeps : (s t : Stream × (D × AheadValue)) → TurnedOn start own remaining contents dials shows s t → Keeps s.1.1 t.1.1
    turned_keeps s t x =
        each_keeps (TurnedBy start own remaining contents dials shows) (λ (a b : Stream × (D × AheadValue)). Keeps a.1.1 b.1.1) (λ a. same a.1.1) (λ a b c. both a.1.1 b.1.1 c.1.1)
        (λ result a b one. tick_keeps one.turned.now _ result a.1 b.1 one.turned.sent) x.results s t x.turns

  entered_keeps : (e : Event) (g h : AheadValue) → Entered start own e g h → Keeps g h
  entered_keeps e g h (answer, u, enters, is) = subst (Keeps g) (sym is) enters.seat

  changed_keeps : (e : Event) (told : Option Fault) (g h : AheadValue) → Changed start own e told g h → Keeps g h
  changed_keeps e None g h x = entered_keeps e g h x
  changed_keeps e (Some f) g h (inl x) = x.seat
  changed_keeps e (Some f) g h (inr x) = entered_keeps e g h x

  pub requests_keep : (g h : AheadValue) → DoneRequests start own g h → Keeps g h
  requests_keep g h x = each_keeps (DoneChange start own) Keeps same both (λ c a b one. changed_keeps c.0 c.1 a b one) x.0 g h x.1

  obeyed_keeps : (c : OperatorCommand) (told : Option Fault) (g h : AheadValue) → Obeyed start own c told g h → Keeps g h
  obeyed_keeps (command.Set key text) told g h x = changed_keeps _ told g h x
  obeyed_keeps (command.Remove key) told g h x = changed_keeps _ told g h x
  obeyed_keeps (command.Show view) told g h x = same_after g h x
  obeyed_keeps command.Quit told g h x = same_after g h x

  line_keeps : (line : List ℕ) (g h : AheadValue) → DoneLine start own line g h → Keeps g h
  line_keeps line g h (inl is) = same_after g h is
  line_keeps line g h (inr (c, is, (told, x))) = obeyed_keeps c told g h x

  pub lines_keep : (g h : AheadValue) → DoneLines start own g h → Keeps g h
  lines_keep g h x = each_keeps (DoneLine start own) Keeps same both line_keeps x.0 g h x.1
