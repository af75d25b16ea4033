-- A script that is played to a writer, by the bytes that the writer then holds.
use Rattle.std.proofs.Common.{◌≡◌, ℕ, ◌≤◌, ◌⊎◌, inl, inr, List, [], ◌∷◌, ◌++◌, length, take, Option, Result, Ok, Err, refl, sym, ap, ◌∙◌, subst, arith}
use Rattle.std.specs.Prelude.{MatchResult}
use Rattle.std.specs.Io.KnownBytes.{Appends}
use Rattle.std.proofs.KnownBytes.{Consumes-nil, Appends-nil}
use Rattle.std.proofs.Math.Seq.{take-append_seam}
use Rattle.cg_types.specs.declared.fault.Fault.{Fault}
use Rattle.cg_types.specs.declared.fault.Fault.TheVariants.{OutOfMemory}
use Rattle.cg_links.specs.declared.counted.Counted.{Counted}
use Rattle.cg_links.specs.Lines.{ended_lines, unended_line, last_line, lines_of}
use Rattle.cg_links.proofs.ReadingLemmas.{stops_in_text, stops_in_lines, taken_to_the_end}
use Rattle.cg_links.specs.Taken.{Takes, Refuses, Lacks, Stops, StopsLast, IsUnread, Fails, TakesAll, NeverEnds, TakesLines}
use Rattle.cg_sim.specs.declared.play.Play.{Play}
use Rattle.cg_sim.specs.declared.telling.Telling.{Telling}
use Rattle.cg_sim.specs.Script.{first_play, lines_text, script_text}
use Rattle.cg_sim.specs.Told.{AreTold, RunsOut, BreaksOff}
use Rattle.cg_sim.specs.Steps.{held, TakesStep, RefusesStep}
use Rattle.cg_sim.specs.Simulated as due
use Rattle.cg_sim.proofs.TextLemmas.{front_of_first}
use Rattle.cg_sim.proofs.ToldLemmas.{told_none, told_on, breaks_off_on, breaks_off_wider, runs_out_behind, nothing_told}

one_last : (line : List ℕ) → length (last_line line) ≤ 1
one_last [] = omega arith
one_last (b ∷ bs) = omega arith

-- memory ran out before anything was read
pub nothing_read : {R W : Type 0} (before holds : Option (List ℕ)) (r : Counted R) (w : Counted W) (f : Fault) → f ≡ OutOfMemory
    → due.Stops before before holds holds r r w w f
nothing_read before holds r w f short = record {
  script = [];
  read = Consumes-nil before;
  kept = record { failed = refl; idle = refl };
  stops = inl (record { fault = short; count = 0; text = Appends-nil holds; kept = record { failed = refl; idle = refl } });
}

module _ {W : Type 0} (holds : W → Option (List ℕ)) where
  abbrev steps : Telling W → List ℕ → Telling W → Type 0
  steps = TakesStep holds

  abbrev stops : Telling W → List ℕ → Telling W → Fault → Type 0
  stops = RefusesStep holds

  -- ---- lines that were done and written

  pub record Chained (s t : Telling W) (lines : List (List ℕ)) : Type 0 where
    pub writer : t.writer.ghost_name ≡ s.writer.ghost_name
    pub told : AreTold s.play.now t.play.now lines (held holds s) (held holds t) s.writer.now t.writer.now

  chained : (s t : Telling W) (lines : List (List ℕ)) → Takes steps stops s lines t → Chained s t lines
  chained s t [] e =
      subst (λ (x : Telling W). Chained s x []) e
      (record { writer = refl; told = told_none s.play.now (held holds s) s.writer.now })
  chained s t (line ∷ lines) h =
      let rest = chained h.0 t lines h.2 in
      record {
        writer = rest.writer ∙ h.1.writer;
        told = told_on
            s.play.now h.0.play.now t.play.now (line ∷ []) lines (held holds s) (held holds h.0) (held holds t)
            s.writer.now h.0.writer.now t.writer.now h.1.told rest.told;
      }

  -- ---- a line that stops, if those before it are the first of some

  refused : (s t : Telling W) (lines first : List (List ℕ)) (n : ℕ) (f : Fault) (h : Refuses steps stops s lines t f)
      → h.front ≡ take n first
      → RunsOut s.play.now first (held holds s) (held holds t) s.writer.now t.writer.now f
      ⊎ BreaksOff s.play.now lines (held holds s) (held holds t) s.writer.now t.writer.now f
  refused s t lines first n f h are =
      let m = h.middle in
      let before = chained s m h.front h.taken in
      elim h.refused.stops [
        | inl none ↦ inl (runs_out_behind
            s.play.now m.play.now h.front first n (held holds s) (held holds m) (held holds t)
            s.writer.now m.writer.now t.writer.now f before.told none are)
        | inr breaks ↦ inr (subst
            (λ (ls : List (List ℕ)). BreaksOff s.play.now ls (held holds s) (held holds t) s.writer.now t.writer.now f) (sym h.are)
            (breaks_off_on
            s.play.now m.play.now h.front (h.line ∷ h.rest) (held holds s) (held holds m) (held holds t)
            s.writer.now m.writer.now t.writer.now f before.told
            (breaks_off_wider m.play.now (h.line ∷ []) h.rest (held holds m) (held holds t) m.writer.now t.writer.now f breaks)))
      ]

  lacked : (s t : Telling W) (lines : List (List ℕ)) (f : Fault) → Lacks steps stops s lines t f
      → RunsOut s.play.now lines (held holds s) (held holds t) s.writer.now t.writer.now f
  lacked s t lines f h =
      runs_out_behind
      s.play.now t.play.now h.front lines (length h.front) (held holds s) (held holds t) (held holds t)
      s.writer.now t.writer.now t.writer.now f (chained s t h.front h.taken).told
      (nothing_told (held holds t) t.writer.now f h.fault)
      (sym (take-append_seam h.front h.rest) ∙ ap (take (length h.front)) (sym h.are))

  -- ---- a text

  module _ {R : Type 0} (before after : Option (List ℕ)) (old new : Counted R) (s t : Telling W) where
    stopped : (f : Fault) (h : Stops steps stops before after old new s t f)
        → RunsOut s.play.now (ended_lines [] (h.earlier ++ h.piece)) (held holds s) (held holds t) s.writer.now t.writer.now f
        ⊎ BreaksOff s.play.now (ended_lines [] (h.earlier ++ h.piece)) (held holds s) (held holds t) s.writer.now t.writer.now f
    stopped f h =
        let lines = ended_lines [] (h.earlier ++ h.piece) in
        elim (stops_in_text steps stops before after old new s t f h) [
          | inl r ↦ refused s t lines lines (length r.front) f r
              (sym (take-append_seam r.front (r.line ∷ r.rest)) ∙ ap (take (length r.front)) (sym r.are))
          | inr l ↦ inl (lacked s t lines f l)
        ]

    stopped_last : (f : Fault) (h : StopsLast steps stops before after old new s t f)
        → RunsOut s.play.now (ended_lines [] h.text) (held holds s) (held holds t) s.writer.now t.writer.now f
        ⊎ BreaksOff s.play.now (lines_of h.text) (held holds s) (held holds t) s.writer.now t.writer.now f
    stopped_last f h =
        let r = stops_in_lines steps stops before after old new s t f h in
        let last = unended_line [] h.text in
        refused s t (lines_of h.text) (ended_lines [] h.text) (length r.front) f r
        (front_of_first (ended_lines [] h.text) (last_line last) r.front r.rest r.line (one_last last) r.are)

    -- ---- from the first line

    module _ (begins : s.play.now ≡ first_play) where
      all_told : TakesAll steps stops before after old new s t
          → due.IsPlayed before after (held holds s) (held holds t) old new s.writer.now t.writer.now
      unfolding script_text
      all_told h =
          let told = (chained s t (lines_of h.text) h.taken).told in
          record {
            script = h.text;
            read = h.read;
            end = h.end;
            kept = h.kept;
            text = subst (λ (p : Play). Appends (held holds s) (held holds t) (lines_text p (lines_of h.text))) begins told.text;
            same = told.kept;
          }

      stops_told : (f : Fault) → Stops steps stops before after old new s t f
          → due.Stops before after (held holds s) (held holds t) old new s.writer.now t.writer.now f
      stops_told f h = record {
        script = h.earlier ++ h.piece;
        read = h.read;
        kept = h.kept;
        stops = subst
            (λ (p : Play). RunsOut p (ended_lines [] (h.earlier ++ h.piece)) (held holds s) (held holds t) s.writer.now t.writer.now f
            ⊎ BreaksOff p (ended_lines [] (h.earlier ++ h.piece)) (held holds s) (held holds t) s.writer.now t.writer.now f) begins
            (stopped f h);
      }

      last_told : (f : Fault) → StopsLast steps stops before after old new s t f
          → due.FailsInTurn before after (held holds s) (held holds t) old new s.writer.now t.writer.now f
      last_told f h =
          elim (stopped_last f h) [
            | inl short ↦ inl (record {
              script = h.text;
              read = h.read;
              kept = h.kept;
              stops = inl (subst
                  (λ (p : Play). RunsOut p (ended_lines [] h.text) (held holds s) (held holds t) s.writer.now t.writer.now f)
                  begins short);
            })
            | inr breaks ↦ inr (inl (record {
              script = h.text;
              read = h.read;
              end = h.end;
              kept = h.kept;
              breaks = subst
                  (λ (p : Play). BreaksOff p (lines_of h.text) (held holds s) (held holds t) s.writer.now t.writer.now f)
                  begins breaks;
            }))
          ]

      unread_told : (f : Fault) → IsUnread steps stops before after old new s t f
          → due.IsUnread before after (held holds s) (held holds t) old new s.writer.now t.writer.now f
      unread_told f h =
          let told = (chained s t (ended_lines [] h.text) h.taken).told in
          record {
            script = h.text;
            read = h.read;
            fault = h.fault;
            caused = h.caused;
            text = subst (λ (p : Play). Appends (held holds s) (held holds t) (lines_text p (ended_lines [] h.text))) begins told.text;
            same = told.kept;
          }

      fails_told : (f : Fault) → Fails steps stops before after old new s t f
          → due.FailsInTurn before after (held holds s) (held holds t) old new s.writer.now t.writer.now f
      fails_told f h =
          elim h [
            | inl k ↦ inl (stops_told f k)
            | inr k ↦ elim k [
              | inl l ↦ last_told f l
              | inr u ↦ inr (inr (unread_told f u))
            ]
          ]

      pub lines_told : {T : Type 0} (r : Result T Fault) → TakesLines steps NeverEnds stops before after old new s t r
          → MatchResult r (λ _. due.IsPlayed before after (held holds s) (held holds t) old new s.writer.now t.writer.now)
          (λ f. due.FailsInTurn before after (held holds s) (held holds t) old new s.writer.now t.writer.now f)
      lines_told (Ok x) h = all_told (taken_to_the_end steps stops before after old new s t h)
      lines_told (Err f) h = fails_told f h

    -- ---- its writer

    refused_writer : (lines : List (List ℕ)) (f : Fault) → Refuses steps stops s lines t f → t.writer.ghost_name ≡ s.writer.ghost_name
    refused_writer lines f h = h.refused.writer ∙ (chained s h.middle h.front h.taken).writer

    failed_writer : (f : Fault) → Fails steps stops before after old new s t f → t.writer.ghost_name ≡ s.writer.ghost_name
    failed_writer f h =
        elim h as (λ _. t.writer.ghost_name ≡ s.writer.ghost_name) [
          | inl k ↦ elim (stops_in_text steps stops before after old new s t f k) as (λ _. t.writer.ghost_name ≡ s.writer.ghost_name) [
            | inl r ↦ refused_writer (ended_lines [] (k.earlier ++ k.piece)) f r
            | inr l ↦ (chained s t l.front l.taken).writer
          ]
          | inr k ↦ elim k as (λ _. t.writer.ghost_name ≡ s.writer.ghost_name) [
            | inl l ↦ refused_writer (lines_of l.text) f (stops_in_lines steps stops before after old new s t f l)
            | inr u ↦ (chained s t (ended_lines [] u.text) u.taken).writer
          ]
        ]

    pub same_writer : {T : Type 0} (r : Result T Fault) → TakesLines steps NeverEnds stops before after old new s t r
        → t.writer.ghost_name ≡ s.writer.ghost_name
    same_writer (Ok x) h =
        let all = taken_to_the_end steps stops before after old new s t h in
        (chained s t (lines_of all.text) all.taken).writer
    same_writer (Err f) h = failed_writer f h
