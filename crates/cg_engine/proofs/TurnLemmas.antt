-- One turn more.
use Rattle.std.proofs.Common.{◌≡◌, ℕ, ◌+◌, ◌<◌, List, [], ◌∷◌, ◌++◌, length, get_or, arith, length-append, Option, Some, refl, sym, ap, ◌∙◌, subst, inl, inr, append-nil, append_assoc}
use Rattle.std.specs.Prelude.{slice_get}
use Rattle.std.proofs.lemmas.Option.{slice_get-get_or}
use Rattle.std.specs.List.{flat_map}
use Rattle.std.specs.Io.KnownBytes.{Consumes, Appends}
use Rattle.std.proofs.KnownBytes.{Consumes-nil, Consumes-trans, Appends-nil, Appends-trans}
use Rattle.cg_types.specs.declared.fault.Fault.{Fault}
use Rattle.cg_core.specs.declared.event.Event.{Event}
use Rattle.cg_core.specs.declared.reply.Reply.{Reply}
use Rattle.cg_links.specs.declared.counted.Counted.{Counted}
use Rattle.cg_links.proofs.Counts.{KeepsCounts-trans}
use Rattle.cg_engine.specs.Received.{MeetsEnd}
use Rattle.cg_engine.specs.Sent.{LeavesFlushed, SendsAll}
use Rattle.cg_messages.specs.declared.kind.Kind.{Kind}
use Rattle.cg_engine.specs.Events.{written_for}
use Rattle.cg_engine.specs.Turns.{DoesEvent}
use Rattle.cg_engine.specs.Exchanged.{Turn, IsTurn, AreTurns, read_of, written_of, TurnsLead, Turned, AllWritten}

map_snoc : {X Y : Type 0} (f : X → List Y) (xs : List X) (x : X) → flat_map f (xs ++ (x ∷ [])) ≡ flat_map f xs ++ f x
map_snoc f [] x = append-nil (f x)
map_snoc f (y ∷ ys) x = ap (λ l. f y ++ l) (map_snoc f ys x) ∙ sym (append_assoc (f y) (flat_map f ys) (f x))

turns_snoc : (kinds : List Kind) (now : ℕ) (ts : List Turn) (t : Turn) (k : Kind) → AreTurns kinds now ts → slice_get kinds (length ts) ≡ Some k → IsTurn k now t
    → AreTurns kinds now (ts ++ (t ∷ []))
turns_snoc [] now [] t k are next is = absurd cc
turns_snoc [] now (u ∷ us) t k are next is = absurd are
turns_snoc (l ∷ ls) now [] t k are next is =
    let same : l ≡ k = cc in
    (subst (λ (x : Kind). IsTurn x now t) (sym same) is, tt)
turns_snoc (l ∷ ls) now (u ∷ us) t k are next is = (are.0, turns_snoc ls now us t k are.1 next is)

runs_snoc : {S : Type 0} (does : S → Event → Reply → S → Type 0) (s u v : S) (ts : List Turn) (t : Turn) → TurnsLead does s ts u → does u t.event t.reply v
    → TurnsLead does s (ts ++ (t ∷ [])) v
runs_snoc {S} does s u v [] t same did = (v, (subst (λ (x : S). does x t.event t.reply v) same did, refl))
runs_snoc does s u v (x ∷ xs) t ran did = (ran.0, (ran.1.0, runs_snoc does ran.0 u v xs t ran.1.1 did))

pub length_snoc : {X : Type 0} (xs : List X) (x : X) → length (xs ++ (x ∷ [])) ≡ length xs + 1
length_snoc xs x = length-append xs (x ∷ [])

-- the element at the place of the turn that comes next
pub next_at : {X : Type 0} (xs : List X) (count index : ℕ) (d : X) → count ≡ index → index < length xs → slice_get xs count ≡ Some (get_or xs index d)
next_at xs count index d same within = ap (slice_get xs) same ∙ slice_get-get_or xs index d within

pub fewer_at : (count index all : ℕ) → count ≡ index → index < all → count < all
fewer_at count index all same less = omega arith

-- the turn of an event that was done
abbrev pub turn_of : {S R : Type 0} {does : S → Event → Reply → S → Type 0} {refuses : S → Event → Fault → Type 0} {stays : S → S → Type 0} {last : S → Option Reply}
    {kind : Kind} {now : ℕ} {there after : Option (List ℕ)} {reader r1 : Counted R} {here t : S}
    → DoesEvent does refuses stays last kind now there after reader r1 here t → Turn
turn_of d = record { bytes = d.read.bytes; message = d.message; event = d.event; reply = d.reply }

module _ {S R : Type 0} (does : S → Event → Reply → S → Type 0) (kinds : List Kind) (now : ℕ) (before : Option (List ℕ)) (r0 : Counted R) (s : S) where
  -- before the first turn
  pub no_turns : Turned does kinds now before r0 s [] before r0 s
  no_turns = record { due = tt; ran = refl; read = Consumes-nil before; sound = record { failed = refl; idle = refl } }

  -- the same turns, if the gate stayed
  pub turns_kept : (turns : List Turn) (there : Option (List ℕ)) (reader : Counted R) (here t : S) → Turned does kinds now before r0 s turns there reader here → t ≡ here
      → Turned does kinds now before r0 s turns there reader t
  turns_kept turns there reader here t done same =
      subst (λ (x : S). Turned does kinds now before r0 s turns there reader x) (sym same) done

  -- the same turns, if nothing more was read
  pub turns_ended : (turns : List Turn) (there after : Option (List ℕ)) (reader r1 : Counted R) (here : S) → Turned does kinds now before r0 s turns there reader here
      → MeetsEnd there after reader r1 → Turned does kinds now before r0 s turns after r1 here
  turns_ended turns there after reader r1 here done end = record {
    due = done.due;
    ran = done.ran;
    read = subst (Consumes before after) (append-nil (read_of turns)) (Consumes-trans before there after (read_of turns) [] done.read end.read);
    sound = KeepsCounts-trans r0 reader r1 done.sound end.kept;
  }

  -- a turn more
  pub turn_added : (refuses : S → Event → Fault → Type 0) (stays : S → S → Type 0) (last : S → Option Reply) (kind : Kind) (turns : List Turn)
      (there after : Option (List ℕ)) (reader r1 : Counted R) (here t : S) → Turned does kinds now before r0 s turns there reader here → slice_get kinds (length turns) ≡ Some kind
      → (d : DoesEvent does refuses stays last kind now there after reader r1 here t) → Turned does kinds now before r0 s (turns ++ (turn_of d ∷ [])) after r1 t
  turn_added refuses stays last kind turns there after reader r1 here t done next d = record {
    due = turns_snoc kinds now turns (turn_of d) kind done.due next (record { spelled = d.read.spelled; due = d.due; answer = d.answer });
    ran = runs_snoc does s here t turns (turn_of d) done.ran d.did;
    read = subst (Consumes before after) (sym (map_snoc (λ (x : Turn). x.bytes) turns (turn_of d)))
        (Consumes-trans before there after (read_of turns) d.read.bytes done.read d.read.read);
    sound = KeepsCounts-trans r0 reader r1 done.sound d.read.kept;
  }

-- All was flushed if the second of two writes was flushed or had nothing to write.
pub flushed_both : {L : Type 0} (a b c : Counted L) (first second : List ℕ) → LeavesFlushed first a b → LeavesFlushed second b c → LeavesFlushed (first ++ second) a c
flushed_both a b c first [] one two (inl some) = two (inr (one (inl (subst (λ (l : List ℕ). 0 < length l) (append-nil first) some))))
flushed_both a b c first (x ∷ xs) one two (inl some) = two (inl (omega arith))
flushed_both a b c first second one two (inr sound) = two (inr (one (inr sound)))

-- The writer stays flushed if there is nothing to write.
pub flushed_still : {L : Type 0} (w : Counted L) → LeavesFlushed [] w w
flushed_still w (inl some) = absurd (omega (arith, some))
flushed_still w (inr sound) = sound

-- the bytes written with one turn more
pub written_more : (opening : List ℕ) (turns : List Turn) (t : Turn) → opening ++ written_of (turns ++ (t ∷ [])) ≡ (opening ++ written_of turns) ++ written_for t.reply
written_more opening turns t =
    ap (λ l. opening ++ l) (map_snoc (λ (x : Turn). written_for x.reply) turns t) ∙ sym (append_assoc opening (written_of turns) (written_for t.reply))

module _ {W : Type 0} (opening : List ℕ) (held : Option (List ℕ)) (w0 : Counted W) where
  -- a reply more
  pub reply_added : (turns : List Turn) (t : Turn) (there holds : Option (List ℕ)) (writer w1 : Counted W) → AllWritten opening held w0 turns there writer
      → SendsAll there holds writer w1 (written_for t.reply) → AllWritten opening held w0 (turns ++ (t ∷ [])) holds w1
  reply_added turns t there holds writer w1 wrote sent = record {
    written = subst (Appends held holds) (sym (written_more opening turns t)) (Appends-trans held there holds (opening ++ written_of turns) (written_for t.reply) wrote.written sent.written);
    flushed = subst (λ (l : List ℕ). LeavesFlushed l w0 w1) (sym (written_more opening turns t))
        (flushed_both w0 writer w1 (opening ++ written_of turns) (written_for t.reply) wrote.flushed sent.flushed);
    kept = KeepsCounts-trans w0 writer w1 wrote.kept sent.kept;
  }

-- nothing was written if nothing is written first
pub nothing_written : {W : Type 0} (held : Option (List ℕ)) (w : Counted W) → AllWritten [] held w [] held w
nothing_written held w = record { written = Appends-nil held; flushed = flushed_still w; kept = record { failed = refl; idle = refl } }
