-- The receipts that the workers add to a gate's.
use Rattle.std.proofs.Common.{◌≡◌, ℕ, Bool, true, false, List, [], ◌∷◌, ◌++◌, Option, Result, refl, sym, ap, ◌∙◌, subst, append_assoc}
use Rattle.std.proofs.lemmas.List.{append-nil, map-append}
use Rattle.std.specs.List.{All}
use Rattle.std.proofs.lemmas.List.Elements.{All-nil, All-cons, All-append, All-weaker, All-head, All-tail}
use Rattle.cg_types.specs.declared.fault.Fault.{Fault}
use Rattle.cg_messages.specs.declared.kind.Kind.TheVariants as kind
use Rattle.cg_core.specs.declared.event.Event.{Event}
use Rattle.cg_core.specs.declared.event.Event.TheVariants as event
use Rattle.cg_core.specs.declared.reply.Reply.{Reply}
use Rattle.cg_core.specs.declared.reply.Reply.TheVariants as reply
use Rattle.cg_core.specs.Values.{NodeValue}
use Rattle.cg_history.specs.declared.item.Receipt.{Receipt}
use Rattle.cg_workers.specs.declared.round.Round.{Round}
use Rattle.cg_workers.specs.declared.ends.Taking.{Taking}
use Rattle.cg_locked.specs.Seats.{SeatValue, Enters, Refuses, new_gate, GoesOn}
use Rattle.cg_locked.specs.Seats as seat
use Rattle.rand_core.specs.Stream.{Stream}
use Rattle.cg_workers.specs.declared.ticked.Ticked.{Ticked}
use Rattle.cg_workers.specs.Ticks.{IsTickOf, IsTick, round_in, Ticks}
use Rattle.cg_workers.specs.TickLaws.{rounds_in, MakesRounds}
use Rattle.cg_workers.proofs.TickLemmas.{ticks_make}
use Rattle.cg_workers.specs.declared.ends.Putting.{Putting}
use Rattle.cg_workers.specs.Ends.{put_by, taken_by}
use Rattle.cg_workers.specs.Each.{Each}
use Rattle.cg_workers.specs.Workers.{numbers_of, Received, SentRound, SentRounds}
use Rattle.cg_workers.proofs.Keeping.{IsEventAt, received_keeps, sent_keeps}
use Rattle.cg_threads.specs.Left.{LeftValue, IsOfKind, AreOfKind, IsLeft, AreRoundsOf, numbers_of_all, is_received, is_ack, is_tick, is_any}

-- the gate went on by receipts of events of the kind
pub record More (kind : Event → Bool) (g h : SeatValue) : Type 0 where
  pub seat : (h.caller ≡ g.caller) × (h.parts ≡ g.parts)
  pub more : List Receipt
  pub receipts : h.receipts ≡ g.receipts ++ more
  pub kinds : All (λ (q : Receipt). kind q.event ≡ true) more

module _ (kind : Event → Bool) where
  none_more : (g : SeatValue) → More kind g g
  none_more g = record { seat = (refl, refl); more = []; receipts = sym (append-nil g.receipts); kinds = All-nil (λ (q : Receipt). kind q.event ≡ true) }

  none_more_after : (g h : SeatValue) → h ≡ g → More kind g h
  none_more_after g h same = subst (More kind g) (sym same) (none_more g)

  both_more : (g h k : SeatValue) → More kind g h → More kind h k → More kind g k
  both_more g h k a b = record {
    seat = (b.seat.0 ∙ a.seat.0, b.seat.1 ∙ a.seat.1);
    more = a.more ++ b.more;
    receipts = b.receipts ∙ ap (λ (qs : List Receipt). qs ++ b.more) a.receipts ∙ append_assoc g.receipts a.more b.more;
    kinds = All-append (λ (q : Receipt). kind q.event ≡ true) a.more b.more a.kinds b.kinds;
  }

  one_more : (start : NodeValue) (own : ℕ) (g h : SeatValue) (e : Event) (answer : Reply) → kind e ≡ true → Enters start own g e answer h → More kind g h
  one_more start own g h e answer fits x = record {
    seat = x.seat;
    more = x.receipt ∷ [];
    receipts = x.receipts;
    kinds = All-cons (λ (q : Receipt). kind q.event ≡ true) x.receipt [] (ap kind x.is.1 ∙ fits) (All-nil (λ (q : Receipt). kind q.event ≡ true));
  }

  own_kind : (c : ℕ) (qs : List Receipt) → All (λ (q : Receipt). kind q.event ≡ true) qs → All (λ (q : Receipt). q.caller ≡ c) qs → AreOfKind kind c qs
  own_kind c [] fits own = All-nil (IsOfKind kind c)
  own_kind c (q ∷ qs) fits own =
      let F = λ (q : Receipt). kind q.event ≡ true in
      let O = λ (q : Receipt). q.caller ≡ c in
      All-cons (IsOfKind kind c) q qs (record { own = All-head O q qs own; fits = All-head F q qs fits }) (own_kind c qs (All-tail F q qs fits) (All-tail O q qs own))

  -- the result of a gate that began with no receipts
  pub left_more : (caller parts : ℕ) (h : SeatValue) (l : LeftValue) → More kind (new_gate caller parts) h → l.parts ≡ h.parts → l.receipts ≡ h.receipts
      → seat.AreOfCaller h.caller h.receipts → IsLeft kind caller parts l
  left_more caller parts h l x same_parts same_receipts own =
      let all : l.receipts ≡ x.more = same_receipts ∙ x.receipts in
      let mine : All (λ (q : Receipt). q.caller ≡ caller) x.more = subst (λ (qs : List Receipt). All (λ (q : Receipt). q.caller ≡ caller) qs) x.receipts (subst (λ (c : ℕ). seat.AreOfCaller c h.receipts) x.seat.0 own) in
      record { same_parts = same_parts ∙ x.seat.1; own_receipts = subst (AreOfKind kind caller) (sym all) (own_kind caller x.more x.kinds mine) }

  -- of a seat from which no event was done
  pub left_unused : (caller parts : ℕ) (l : LeftValue) → l ≡ record { began = false; parts = parts; receipts = [] } → IsLeft kind caller parts l
  left_unused caller parts l is = subst (IsLeft kind caller parts) (sym is) (record { same_parts = refl; own_receipts = All-nil (IsOfKind kind caller) })

-- ---- the receiver and the sender

syn_received : (now : ℕ) (e : Event) → IsEventAt kind.Syn now e → is_received e ≡ true
syn_received now (event.Syn m) is = refl
syn_received now event.Beat is = absurd is
syn_received now (event.Set key text) is = absurd is
syn_received now (event.Tick time words) is = absurd is
syn_received now (event.Remove key) is = absurd is
syn_received now event.Opening is = absurd is
syn_received now (event.Ack time m) is = absurd is
syn_received now (event.Ack2 time m) is = absurd is

ack2_received : (now : ℕ) (e : Event) → IsEventAt kind.Ack2 now e → is_received e ≡ true
ack2_received now (event.Ack2 time m) is = refl
ack2_received now (event.Syn m) is = absurd is
ack2_received now event.Beat is = absurd is
ack2_received now (event.Set key text) is = absurd is
ack2_received now (event.Tick time words) is = absurd is
ack2_received now (event.Remove key) is = absurd is
ack2_received now event.Opening is = absurd is
ack2_received now (event.Ack time m) is = absurd is

ack_sent : (now : ℕ) (e : Event) → IsEventAt kind.Ack now e → is_ack e ≡ true
ack_sent now (event.Ack time m) is = refl
ack_sent now (event.Ack2 time m) is = absurd is
ack_sent now (event.Syn m) is = absurd is
ack_sent now event.Beat is = absurd is
ack_sent now (event.Set key text) is = absurd is
ack_sent now (event.Tick time words) is = absurd is
ack_sent now (event.Remove key) is = absurd is
ack_sent now event.Opening is = absurd is

module _ (start : NodeValue) (own : ℕ) {R W : Type 0} (remaining : R → Option (List ℕ)) (contents : W → Option (List ℕ)) (shows : ℕ → Type 0) where
  pub received_more : {L : Type 0} (accepts : L → Result (Option (R × W)) Fault → L → Type 0) (wanted count : ℕ) (s t : L × SeatValue)
      → Received (Enters start own) (Refuses start) (λ g h. h ≡ g) remaining contents accepts shows wanted count s t → More is_received s.1 t.1
  received_more accepts wanted count s t x =
      received_keeps (Enters start own) (Refuses start) (λ g h. h ≡ g) shows (More is_received) (none_more is_received) (both_more is_received) (none_more_after is_received)
      remaining contents accepts wanted count s t
      (λ now e r g h shown at answer done. one_more is_received start own g h e r (syn_received now e at) done)
      (λ now e r g h shown at answer done. one_more is_received start own g h e r (ack2_received now e at) done) x

  -- those that were taken at an end where none had been
  pub sent_all : {D : Type 0} (dials : D → ℕ → Result (R × W) Fault → D → Type 0) (before after : Taking) (rounds : List Round) (numbers : List ℕ) (s t : D × SeatValue)
      → taken_by before ≡ [] → rounds ≡ taken_by after → SentRounds (Enters start own) (Refuses start) (λ g h. h ≡ g) remaining contents dials shows before after numbers s t
      → Each (SentRound (Enters start own) (Refuses start) (λ g h. h ≡ g) remaining contents dials shows) rounds s t
  sent_all dials before after rounds numbers s t none these x =
      let all : x.rounds ≡ rounds = sym (these ∙ x.taken ∙ ap (λ (rs : List Round). rs ++ x.rounds) none) in
      subst (λ (rs : List Round). Each (SentRound (Enters start own) (Refuses start) (λ g h. h ≡ g) remaining contents dials shows) rs s t) all x.sent

  pub sent_more : {D : Type 0} (dials : D → ℕ → Result (R × W) Fault → D → Type 0) (before after : Taking) (numbers : List ℕ) (s t : D × SeatValue)
      → SentRounds (Enters start own) (Refuses start) (λ g h. h ≡ g) remaining contents dials shows before after numbers s t → More is_ack s.1 t.1
  sent_more dials before after numbers s t x =
      sent_keeps (Enters start own) (Refuses start) (λ g h. h ≡ g) shows (More is_ack) (none_more is_ack) (both_more is_ack) (none_more_after is_ack)
      remaining contents dials before after numbers s t
      (λ now e r g h shown at answer done. one_more is_ack start own g h e r (ack_sent now e at) done) x

-- ---- the ticker

module _ (shows : ℕ → Type 0) where
  tick_is : (e : Event) (answer : Reply) → IsTickOf shows e answer → is_tick e ≡ true
  tick_is (event.Tick now words) answer is = refl
  tick_is event.Beat answer is = absurd is
  tick_is (event.Set key text) answer is = absurd is
  tick_is (event.Remove key) answer is = absurd is
  tick_is event.Opening answer is = absurd is
  tick_is (event.Syn m) answer is = absurd is
  tick_is (event.Ack now m) answer is = absurd is
  tick_is (event.Ack2 now m) answer is = absurd is

  one_round : (e : Event) (answer : Reply) (number : ℕ) (caller : ℕ) → IsTickOf shows e answer → numbers_of (round_in (record { caller = caller; number = number; event = e; reply = answer })) ≡ number ∷ []
  one_round (event.Tick now words) (reply.Round peers syn) number caller is = refl
  one_round (event.Tick now words) (reply.Done version) number caller is = absurd is
  one_round (event.Tick now words) (reply.Sent m) number caller is = absurd is
  one_round (event.Tick now words) (reply.Both outcomes ack2) number caller is = absurd is
  one_round (event.Tick now words) (reply.Took outcomes) number caller is = absurd is
  one_round event.Beat answer number caller is = absurd is
  one_round (event.Set key text) answer number caller is = absurd is
  one_round (event.Remove key) answer number caller is = absurd is
  one_round event.Opening answer number caller is = absurd is
  one_round (event.Syn m) answer number caller is = absurd is
  one_round (event.Ack now m) answer number caller is = absurd is
  one_round (event.Ack2 now m) answer number caller is = absurd is

  numbers_passed : (qs : List Receipt) → All (IsTick shows) qs → numbers_of (rounds_in qs) ≡ numbers_of_all qs
  numbers_passed [] ticks = refl
  numbers_passed (q ∷ qs) ticks =
      map-append (λ (r : Round). r.number) (round_in q) (rounds_in qs)
      ∙ ap (λ (ns : List ℕ). ns ++ numbers_of (rounds_in qs)) (one_round q.event q.reply q.number q.caller (All-head (IsTick shows) q qs ticks))
      ∙ ap (λ (ns : List ℕ). q.number ∷ ns) (numbers_passed qs (All-tail (IsTick shows) q qs ticks))

  rounds_append : (qs rs : List Receipt) → rounds_in (qs ++ rs) ≡ rounds_in qs ++ rounds_in rs
  rounds_append [] rs = refl
  rounds_append (q ∷ qs) rs = ap (λ (xs : List Round). round_in q ++ xs) (rounds_append qs rs) ∙ sym (append_assoc (round_in q) (rounds_in qs) (rounds_in rs))

  module _ (start : NodeValue) (own rounds : ℕ) (s : Stream) (left : Ticked) (g h : SeatValue) (put after : Putting) (made : Ticks (λ (k : SeatValue). k.receipts) (Enters start own) (Refuses start) shows rounds s left (g, put) (h, after)) where
    x : MakesRounds (λ (k : SeatValue). k.receipts) shows rounds s left (g, put) (h, after)
    x = ticks_make (λ (k : SeatValue). k.receipts) (Enters start own) (Refuses start) shows rounds s left (g, put) (h, after) made

    pub ticked_more : ◌≡◌ {A = ℕ × ℕ} (h.caller, h.parts) (g.caller, g.parts) → More is_tick g h
    ticked_more same = record {
      seat = (ap (λ (p : ℕ × ℕ). p.0) same, ap (λ (p : ℕ × ℕ). p.1) same);
      more = x.passed ++ x.rest;
      receipts = x.receipts;
      kinds = All-weaker (IsTick shows) (λ (q : Receipt). is_tick q.event ≡ true) (λ q is. tick_is q.event q.reply is) (x.passed ++ x.rest) x.ticks;
    }

    -- the rounds of the first receipts were put in
    pub ticked_first : g.receipts ≡ [] → put_by put ≡ [] → AreRoundsOf h.receipts (put_by after)
    ticked_first no_receipts none =
        let all : h.receipts ≡ x.passed ++ x.rest = x.receipts ∙ ap (λ (qs : List Receipt). qs ++ (x.passed ++ x.rest)) no_receipts in
        let passed : put_by after ≡ rounds_in x.passed = x.put ∙ ap (λ (rs : List Round). rs ++ rounds_in x.passed) none in
        let joined : rounds_in h.receipts ≡ rounds_in x.passed ++ rounds_in x.rest = ap rounds_in all ∙ rounds_append x.passed x.rest in
        record {
          are_first = (rounds_in x.rest, ap (λ (rs : List Round). rs ++ rounds_in x.rest) passed ∙ sym joined);
          each = subst (λ (qs : List Receipt). numbers_of (rounds_in qs) ≡ numbers_of_all qs) (sym all) (numbers_passed (x.passed ++ x.rest) x.ticks);
        }

-- ---- the operator

pub operated_more : (g h : SeatValue) → GoesOn g h → More is_any g h
operated_more g h x = record { seat = x.seat; more = x.more; receipts = x.receipts; kinds = λ k d less. refl }
