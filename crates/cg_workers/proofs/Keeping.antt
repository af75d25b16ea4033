-- Whole exchanges keep what each event and each refusal keeps, and so do the workers.
use Rattle.std.proofs.Common.{◌≡◌, ℕ, List, [], ◌∷◌, ◌++◌, Option, None, Some, Result, Ok, Err, refl, sym, subst, inl, inr}
use Rattle.cg_types.specs.declared.fault.Fault.{Fault}
use Rattle.cg_messages.specs.declared.kind.Kind.{Kind}
use Rattle.cg_messages.specs.declared.kind.Kind.TheVariants as kind
use Rattle.cg_messages.specs.declared.message.Message.{Message}
use Rattle.cg_messages.specs.declared.message.Message.TheVariants as messages
use Rattle.cg_messages.specs.Values.{SynValue}
use Rattle.cg_core.specs.declared.event.Event.{Event}
use Rattle.cg_core.specs.declared.event.Event.TheVariants as event
use Rattle.cg_core.specs.declared.reply.Reply.{Reply}
use Rattle.cg_links.specs.declared.counted.Counted.{Counted}
use Rattle.cg_engine.specs.declared.exchange.Ended.{Ended}
use Rattle.cg_engine.specs.declared.exchange.Ended.TheVariants as ended
use Rattle.cg_engine.specs.declared.exchange.Broken.{Broken}
use Rattle.cg_core.specs.Replies.{IsReplyTo}
use Rattle.cg_engine.specs.Events.{expected_event}
use Rattle.cg_engine.specs.Exchanged.{Turn, AreTurns, TurnsLead, Turned, Exchanges}
use Rattle.cg_workers.specs.declared.ends.Taking.{Taking}
use Rattle.cg_workers.specs.Workers.{Exchanged, BegunWith, Came, NextCame, Received, Reached, SentRound, SentRounds}
use Rattle.cg_workers.proofs.EachLemmas.{each_keeps}

-- the event is of a message of this kind, at this time
abbrev pub IsEventAt : Kind → ℕ → Event → Type 0
IsEventAt kind.Syn now (event.Syn m) = Unit {0}
IsEventAt kind.Ack now (event.Ack at m) = at ≡ now
IsEventAt kind.Ack2 now (event.Ack2 at m) = at ≡ now
IsEventAt k now e = ⊥

pub event_at : (k : Kind) (now : ℕ) (m : Message) (e : Event) → expected_event k now m ≡ Ok e → IsEventAt k now e
event_at kind.Syn now (messages.Syn m) e due =
    let same : event.Syn m ≡ e = cc in
    subst (IsEventAt kind.Syn now) same tt
event_at kind.Syn now (messages.Ack m) e due = absurd cc
event_at kind.Syn now (messages.Ack2 m) e due = absurd cc
event_at kind.Ack now (messages.Syn m) e due = absurd cc
event_at kind.Ack now (messages.Ack m) e due =
    let same : event.Ack now m ≡ e = cc in
    subst (IsEventAt kind.Ack now) same refl
event_at kind.Ack now (messages.Ack2 m) e due = absurd cc
event_at kind.Ack2 now (messages.Syn m) e due = absurd cc
event_at kind.Ack2 now (messages.Ack m) e due = absurd cc
event_at kind.Ack2 now (messages.Ack2 m) e due =
    let same : event.Ack2 now m ≡ e = cc in
    subst (IsEventAt kind.Ack2 now) same refl

-- Parameters: a gate's steps, its refusals and the states that these leave, the times of a clock, and a relation that
-- is kept. It is kept from each state to itself, over two steps if over both, and by a refused event.
module _ {S : Type 0} (does : S → Event → Reply → S → Type 0) (refuses : S → Event → Fault → Type 0) (stays : S → S → Type 0) (shows : ℕ → Type 0)
    (keeps : S → S → Type 0) (same : (s : S) → keeps s s) (both : (s u t : S) → keeps s u → keeps u t → keeps s t)
    (stayed : (s t : S) → stays s t → keeps s t) where
  -- each event of a message of this kind keeps it
  abbrev pub KeptBy : Kind → Type 0
  KeptBy k = (now : ℕ) (e : Event) (r : Reply) (s t : S) → shows now → IsEventAt k now e → IsReplyTo e r → does s e r t → keeps s t

  -- and so do those of these kinds
  abbrev KeptByAll : List Kind → Type 0
  KeptByAll [] = Unit {0}
  KeptByAll (k ∷ ks) = KeptBy k × KeptByAll ks

  runs_keep : (kinds : List Kind) (now : ℕ) (turns : List Turn) (s t : S) → KeptByAll kinds → shows now → AreTurns kinds now turns → TurnsLead does s turns t → keeps s t
  runs_keep kinds now [] s t each shown are is = subst (keeps s) (sym is) (same s)
  runs_keep [] now (x ∷ xs) s t each shown are ran = absurd are
  runs_keep (k ∷ ks) now (x ∷ xs) s t each shown are ran =
      both s ran.0 t (each.0 now x.event x.reply s ran.0 shown (event_at k now x.message x.event are.0.due) are.0.answer ran.1.0)
      (runs_keep ks now xs ran.0 t each.1 shown are.1 ran.1.1)

  turned_keeps : {R : Type 0} (kinds : List Kind) (now : ℕ) (before after : Option (List ℕ)) (r0 r1 : Counted R) (s t : S) (turns : List Turn)
      → KeptByAll kinds → shows now → Turned does kinds now before r0 s turns after r1 t → keeps s t
  turned_keeps kinds now before after r0 r1 s t turns each shown done = runs_keep kinds now turns s t each shown done.due done.ran

  exchange_keeps : {R W : Type 0} (kinds : List Kind) (now : ℕ) (opening : List ℕ) (before after held holds : Option (List ℕ)) (r0 r1 : Counted R) (w0 w1 : Counted W)
      (s t : S) (result : Result Ended Broken) → KeptByAll kinds → shows now
      → Exchanges does refuses stays kinds now opening before after held holds r0 r1 w0 w1 s t result → keeps s t
  exchange_keeps kinds now opening before after held holds r0 r1 w0 w1 s t (Ok ended.Whole) each shown x =
      turned_keeps kinds now before _ r0 _ s t x.turns each shown x.done
  exchange_keeps kinds now opening before after held holds r0 r1 w0 w1 s t (Ok (ended.Closed count)) each shown x =
      turned_keeps kinds now before _ r0 _ s t x.turns each shown x.done
  exchange_keeps kinds now opening before after held holds r0 r1 w0 w1 s t (Err b) each shown (inl x) =
      turned_keeps kinds now before _ r0 _ s t x.turns each shown x.done
  exchange_keeps kinds now opening before after held holds r0 r1 w0 w1 s t (Err b) each shown (inr (inl x)) =
      turned_keeps kinds now before _ r0 _ s t x.turns each shown x.done
  exchange_keeps kinds now opening before after held holds r0 r1 w0 w1 s t (Err b) each shown (inr (inr (inl x))) =
      both s x.here t (turned_keeps kinds now before _ r0 _ s x.here x.turns each shown x.done) (stayed x.here t x.stayed)
  exchange_keeps kinds now opening before after held holds r0 r1 w0 w1 s t (Err b) each shown (inr (inr (inr (inl x)))) =
      turned_keeps kinds now before _ r0 _ s t (x.turns ++ (x.last ∷ [])) each shown x.done
  exchange_keeps kinds now opening before after held holds r0 r1 w0 w1 s t (Err b) each shown (inr (inr (inr (inr x)))) =
      subst (keeps s) (sym x.same) (same s)

  module _ {R W : Type 0} (remaining : R → Option (List ℕ)) (contents : W → Option (List ℕ)) where
    exchanged_keeps : (kinds : List Kind) (opening : List ℕ) (link : R × W) (s t : S) → KeptByAll kinds
        → Exchanged does refuses stays remaining contents shows kinds opening link s t → keeps s t
    exchanged_keeps kinds opening link s t each x = exchange_keeps kinds x.now opening _ _ _ _ x.r0 x.r1 x.w0 x.w1 s t x.ended each x.shown x.done

    -- the receiver keeps what the events of SYNs and ACK2s keep
    pub received_keeps : {L : Type 0} (accepts : L → Result (Option (R × W)) Fault → L → Type 0) (wanted count : ℕ) (s t : L × S)
        → KeptBy kind.Syn → KeptBy kind.Ack2 → Received does refuses stays remaining contents accepts shows wanted count s t → keeps s.1 t.1
    received_keeps {L} accepts wanted count s t syn ack2 x =
        each_keeps (Came does refuses stays remaining contents accepts shows) (λ (a b : L × S). keeps a.1 b.1) (λ a. same a.1) (λ a b c. both a.1 b.1 c.1)
        (λ link a b one. exchanged_keeps (kind.Syn ∷ (kind.Ack2 ∷ [])) [] link a.1 b.1 (syn, (ack2, tt)) one.answered) x.all.links s (x.here, t.1) x.all.came

    -- and so does the answer to the next connection, if one comes
    pub next_keeps : {L : Type 0} (accepts : L → Result (Option (R × W)) Fault → L → Type 0) (came : Option (Option Fault)) (s t : L × S)
        → KeptBy kind.Syn → KeptBy kind.Ack2 → NextCame does refuses stays remaining contents accepts shows came s t → keeps s.1 t.1
    next_keeps accepts (Some broken) s t syn ack2 x = exchanged_keeps (kind.Syn ∷ (kind.Ack2 ∷ [])) [] x.link s.1 t.1 (syn, (ack2, tt)) x.answered.0
    next_keeps accepts None s t syn ack2 x = subst (keeps s.1) (sym x.1) (same s.1)

    begun_keeps : (syn : SynValue) (answer : Result (R × W) Fault) (s t : S) → KeptBy kind.Ack → BegunWith does refuses stays remaining contents shows syn answer s t → keeps s t
    begun_keeps syn (Ok link) s t ack x = exchanged_keeps (kind.Ack ∷ []) _ link s t (ack, tt) x
    begun_keeps syn (Err f) s t ack x = subst (keeps s) (sym x) (same s)

    -- an exchange with a peer keeps what the events of ACKs keep
    pub reached_keeps : {D : Type 0} (dials : D → ℕ → Result (R × W) Fault → D → Type 0) (syn : SynValue) (peer : ℕ) (s t : D × S)
        → KeptBy kind.Ack → Reached does refuses stays remaining contents dials shows syn peer s t → keeps s.1 t.1
    reached_keeps dials syn peer s t ack x = begun_keeps syn x.answer s.1 t.1 ack x.begun

    -- the sender keeps what the events of ACKs keep
    pub sent_keeps : {D : Type 0} (dials : D → ℕ → Result (R × W) Fault → D → Type 0) (before after : Taking) (numbers : List ℕ) (s t : D × S)
        → KeptBy kind.Ack → SentRounds does refuses stays remaining contents dials shows before after numbers s t → keeps s.1 t.1
    sent_keeps {D} dials before after numbers s t ack x =
        each_keeps (SentRound does refuses stays remaining contents dials shows) (λ (a b : D × S). keeps a.1 b.1) (λ a. same a.1) (λ a b c. both a.1 b.1 c.1)
        (λ round a b one. each_keeps (Reached does refuses stays remaining contents dials shows round.syn) (λ (a b : D × S). keeps a.1 b.1) (λ c. same c.1)
        (λ c d e. both c.1 d.1 e.1) (λ peer c d reached. begun_keeps round.syn reached.answer c.1 d.1 ack reached.begun) round.peers a b one)
        x.rounds s t x.sent
