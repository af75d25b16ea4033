-- The end of an exchange, by the end of its last turn.
use Rattle.std.proofs.Common.{◌≡◌, ℕ, ◌+◌, ◌<◌, ◌⊎◌, List, [], length, Option, Some, Result, Ok, Err, refl, sym, ap, subst, inl, inr, arith}
use Rattle.std.specs.Prelude.{slice_get}
use Rattle.std.proofs.KnownBytes.{Appends-trans}
use Rattle.cg_types.specs.declared.fault.Fault.{Fault}
use Rattle.cg_core.specs.declared.event.Event.{Event}
use Rattle.cg_core.specs.declared.reply.Reply.{Reply}
use Rattle.cg_links.specs.declared.counted.Counted.{Counted}
use Rattle.cg_links.proofs.Counts.{KeepsCounts-trans}
use Rattle.cg_engine.specs.Sent.{SendsAll, FailsToSend}
use Rattle.cg_messages.specs.declared.kind.Kind.{Kind}
use Rattle.cg_engine.specs.declared.exchange.Ended.{Ended}
use Rattle.cg_engine.specs.declared.exchange.Ended.TheVariants as ended
use Rattle.cg_engine.specs.declared.exchange.Broken.{Broken}
use Rattle.cg_engine.specs.Events.{written_for}
use Rattle.cg_engine.specs.Turns.{DoesEvent, FindsEnd, ReadsNone, ReadsAnother, RefusesEvent}
use Rattle.cg_engine.specs.Exchanged.{Turn, written_of, Turned, AllWritten, IsClosed, BreaksOff, Exchanges}
use Rattle.cg_engine.proofs.TurnLemmas.{turns_kept, turns_ended, turn_added, turn_of, flushed_both}

-- If there is nothing to write, nothing fails.
nothing_fails : {L : Type 0} (held holds : Option (List ℕ)) (old new : Counted L) (f : Fault) → FailsToSend held holds old new [] f → ⊥
nothing_fails held holds old new f (inl x) = omega (arith, x.some)
nothing_fails held holds old new f (inr x) = omega (arith, x.some)

module _ {S R W : Type 0} (does : S → Event → Reply → S → Type 0) (refuses : S → Event → Fault → Type 0) (stays : S → S → Type 0) (last : S → Option Reply)
    (kinds : List Kind) (now : ℕ) (opening : List ℕ) (before held : Option (List ℕ)) (r0 : Counted R) (w0 : Counted W) (s : S) where
  module _ (turns : List Turn) (there holds : Option (List ℕ)) (reader : Counted R) (writer : Counted W) (here : S)
      (done : Turned does kinds now before r0 s turns there reader here) (wrote : AllWritten opening held w0 turns holds writer)
      (count : ℕ) (counted : length turns ≡ count) (kind : Kind) (next : slice_get kinds count ≡ Some kind) (fewer : count < length kinds)
      (after : Option (List ℕ)) (r1 : Counted R) (t : S) where
    -- the input ended
    pub exchange_closed : FindsEnd does refuses stays last kind now there after reader r1 here t
        → IsClosed does refuses stays kinds now opening before after held holds r0 r1 w0 writer s t count
    exchange_closed found = record {
      turns = turns;
      counted = counted;
      fewer = fewer;
      done = turns_kept does kinds now before r0 s turns after r1 here t (turns_ended does kinds now before r0 s turns there after reader r1 here done found.end) found.same;
      end = found.end.end;
      wrote = wrote;
    }

    -- no event was done
    pub exchange_broken : (f : Fault) → ReadsNone does refuses stays last kind now there after reader r1 here t f
        ⊎ (ReadsAnother does refuses stays last kind now there after reader r1 here t f ⊎ RefusesEvent does refuses stays last kind now there after reader r1 here t f)
        → BreaksOff does refuses stays kinds now opening before after held holds r0 r1 w0 writer s t count f
    exchange_broken f (inl none) = inl (record {
      turns = turns;
      counted = counted;
      fewer = fewer;
      there = there;
      reader = reader;
      done = turns_kept does kinds now before r0 s turns there reader here t done none.same;
      failed = none.failed;
      wrote = wrote;
    })
    exchange_broken f (inr (inl other)) = inr (inl (record {
      turns = turns;
      counted = counted;
      kind = kind;
      next = next;
      there = there;
      reader = reader;
      done = turns_kept does kinds now before r0 s turns there reader here t done other.same;
      message = other.message;
      read = other.read;
      another = other.another;
      wrote = wrote;
    }))
    exchange_broken f (inr (inr refused)) = inr (inr (inl (record {
      turns = turns;
      counted = counted;
      kind = kind;
      next = next;
      there = there;
      reader = reader;
      here = here;
      done = done;
      message = refused.message;
      event = refused.event;
      read = refused.read;
      due = refused.due;
      refused = refused.refused;
      known = refused.known;
      stayed = refused.stayed;
      wrote = wrote;
    })))

    -- the event was done, and its reply was not written whole
    pub reply_broken : (d : DoesEvent does refuses stays last kind now there after reader r1 here t) (final : Option (List ℕ)) (w1 : Counted W) (f : Fault)
        → FailsToSend holds final writer w1 (written_for d.reply) f
        → BreaksOff does refuses stays kinds now opening before after held final r0 r1 w0 w1 s t (count + 1) f
    reply_broken d final w1 f failed = inr (inr (inr (inl (record {
      turns = turns;
      last = turn_of d;
      counted = ap (λ n. n + 1) counted;
      done = turn_added does kinds now before r0 s refuses stays last kind turns there after reader r1 here t done (subst (λ (n : ℕ). slice_get kinds n ≡ Some kind) (sym counted) next) d;
      there = holds;
      writer = writer;
      wrote = wrote;
      failed = failed;
    }))))

  -- the opening was not written whole
  pub opening_broken : (holds : Option (List ℕ)) (w1 : Counted W) (f : Fault) → FailsToSend held holds w0 w1 opening f
      → BreaksOff does refuses stays kinds now opening before before held holds r0 r0 w0 w1 s s 0 f
  opening_broken holds w1 f failed = inr (inr (inr (inr (record { none = refl; unread = refl; reader = refl; same = refl; failed = failed }))))

  -- The opening was written, and then turns were taken.
  module _ (middle : Option (List ℕ)) (w : Counted W) (opened : SendsAll held middle w0 w opening) (after holds : Option (List ℕ)) (r1 : Counted R) (w1 : Counted W) (t : S) where
    also_opened : (turns : List Turn) (there : Option (List ℕ)) (writer : Counted W) → AllWritten [] middle w turns there writer → AllWritten opening held w0 turns there writer
    also_opened turns there writer wrote = record {
      written = Appends-trans held middle there opening (written_of turns) opened.written wrote.written;
      flushed = flushed_both w0 w writer opening (written_of turns) opened.flushed wrote.flushed;
      kept = KeepsCounts-trans w0 w writer opened.kept wrote.kept;
    }

    pub after_opening : (result : Result Ended Broken) → Exchanges does refuses stays kinds now [] before after middle holds r0 r1 w w1 s t result
        → Exchanges does refuses stays kinds now opening before after held holds r0 r1 w0 w1 s t result
    after_opening (Ok ended.Whole) x = record { turns = x.turns; all = x.all; done = x.done; wrote = also_opened x.turns holds w1 x.wrote }
    after_opening (Ok (ended.Closed count)) x = record { turns = x.turns; counted = x.counted; fewer = x.fewer; done = x.done; end = x.end; wrote = also_opened x.turns holds w1 x.wrote }
    after_opening (Err b) (inl x) = inl (record {
      turns = x.turns;
      counted = x.counted;
      fewer = x.fewer;
      there = x.there;
      reader = x.reader;
      done = x.done;
      failed = x.failed;
      wrote = also_opened x.turns holds w1 x.wrote;
    })
    after_opening (Err b) (inr (inl x)) = inr (inl (record {
      turns = x.turns;
      counted = x.counted;
      kind = x.kind;
      next = x.next;
      there = x.there;
      reader = x.reader;
      done = x.done;
      message = x.message;
      read = x.read;
      another = x.another;
      wrote = also_opened x.turns holds w1 x.wrote;
    }))
    after_opening (Err b) (inr (inr (inl x))) = inr (inr (inl (record {
      turns = x.turns;
      counted = x.counted;
      kind = x.kind;
      next = x.next;
      there = x.there;
      reader = x.reader;
      here = x.here;
      done = x.done;
      message = x.message;
      event = x.event;
      read = x.read;
      due = x.due;
      refused = x.refused;
      known = x.known;
      stayed = x.stayed;
      wrote = also_opened x.turns holds w1 x.wrote;
    })))
    after_opening (Err b) (inr (inr (inr (inl x)))) = inr (inr (inr (inl (record {
      turns = x.turns;
      last = x.last;
      counted = x.counted;
      done = x.done;
      there = x.there;
      writer = x.writer;
      wrote = also_opened x.turns x.there x.writer x.wrote;
      failed = x.failed;
    }))))
    after_opening (Err b) (inr (inr (inr (inr x)))) = absurd (nothing_fails middle holds w w1 b.fault x.failed)
