-- The steps of an operator that holds its gate, its pass and its writer, as steps of these.
use Rattle.std.proofs.Common.{◌≡◌, ℕ, ◌⊎◌, inl, inr, true, false, List, [], ◌∷◌, ◌++◌, Option, Result, Ok, Err, refl, sym, ◌∙◌, subst}
use Rattle.std.specs.Io.KnownBytes.{Consumes, IsAtEnd}
use Rattle.cg_types.specs.declared.fault.Fault.{Fault}
use Rattle.cg_table.specs.Values.{TableValue}
use Rattle.cg_core.specs.Values.{NodeValue}
use Rattle.cg_links.specs.declared.counted.Counted.{Counted}
use Rattle.cg_links.specs.Counted.{KeepsCounts}
use Rattle.cg_links.specs.Lines.{ended_lines, unended_line, last_line, lines_of}
use Rattle.cg_links.proofs.ReadingLemmas.{stops_in_text, stops_in_lines}
use Rattle.cg_links.specs.declared.lines.Next.{Next}
use Rattle.cg_links.specs.declared.lines.Next.TheVariants.{More, Stop}
use Rattle.cg_links.specs.Taken.{Takes, Refuses, Lacks, StopsAmong, Stops, StopsLast, IsUnread, Fails, TakesAll, Goes, EndsAmong, EndsEarly, TakesLines}
use Rattle.cg_operator.specs.declared.command.OperatorCommand.TheVariants.{Quit}
use Rattle.cg_operator.specs.declared.operating.Operating.{Operating}
use Rattle.cg_operator.specs.Commands.{command_in}
use Rattle.cg_operator.specs.Operating.{At, DoesLine, QuitsAt, EndsAt, Quits, Operates}
use Rattle.cg_operator.specs.Steps.{at_of, HoldsSame, TakesStep, QuitsStep, RefusesStep}

module _ {W : Type 0} (holds : W → Option (List ℕ)) (start : NodeValue) (opening : TableValue) where
  -- lines of which one asked for the end
  pub record QuitsIn (s t : At W) (lines : List (List ℕ)) : Type 0 where
    pub front : List (List ℕ)
    pub line : List ℕ
    pub rest : List (List ℕ)
    pub are : lines ≡ front ++ line ∷ rest
    pub asked : command_in line ≡ Ok Quit
    pub done : Takes (DoesLine holds start opening) (EndsAt holds start opening) s front t

module _ {N R W : Type 0} (holds : W → Option (List ℕ)) (start : NodeValue) (opening : TableValue) where
  abbrev steps : Operating N R W → List ℕ → Operating N R W → Type 0
  steps = TakesStep holds start opening

  abbrev stops : Operating N R W → List ℕ → Operating N R W → Fault → Type 0
  stops = RefusesStep holds start opening

  abbrev quits : Operating N R W → List ℕ → Operating N R W → Type 0
  quits = QuitsStep holds start opening

  -- the step of a line that is carried out
  pub goes_step : (next : Next) (s t : Operating N R W) (line : List ℕ) → HoldsSame s t
      → Goes (DoesLine holds start opening) (QuitsAt holds start opening) next (at_of s) line (at_of t) → Goes steps quits next s line t
  goes_step More s t line same h = record { same = same; done = h }
  goes_step Stop s t line same h = record { same = same; quits = h }

  same_further : (s m t : Operating N R W) → HoldsSame s m → HoldsSame m t → HoldsSame s t
  same_further s m t one two = record {
    gate = two.gate ∙ one.gate;
    pass = two.pass ∙ one.pass;
    writer = two.writer ∙ one.writer;
  }

  -- lines that were taken
  pub record Chained (s t : Operating N R W) (lines : List (List ℕ)) : Type 0 where
    pub same : HoldsSame s t
    pub done : Takes (DoesLine holds start opening) (EndsAt holds start opening) (at_of s) lines (at_of t)

  pub chained : (s t : Operating N R W) (lines : List (List ℕ)) → Takes steps stops s lines t → Chained s t lines
  chained s t [] e =
      subst (λ (x : Operating N R W). Chained s x []) e
      (record { same = record { gate = refl; pass = refl; writer = refl }; done = refl })
  chained s t (line ∷ lines) h =
      let rest = chained h.0 t lines h.2 in
      record {
        same = same_further s h.0 t h.1.same rest.same;
        done = (at_of h.0, h.1.done, rest.done);
      }

  -- ---- a line that is refused

  refused_same : (s t : Operating N R W) (lines : List (List ℕ)) (f : Fault) → Refuses steps stops s lines t f → HoldsSame s t
  refused_same s t lines f h = same_further s h.middle t (chained s h.middle h.front h.taken).same h.refused.same

  refused_ends : (s t : Operating N R W) (lines : List (List ℕ)) (f : Fault)
      → Refuses steps stops s lines t f → Refuses (DoesLine holds start opening) (EndsAt holds start opening) (at_of s) lines (at_of t) f
  refused_ends s t lines f h = record {
    front = h.front;
    line = h.line;
    rest = h.rest;
    are = h.are;
    middle = at_of h.middle;
    taken = (chained s h.middle h.front h.taken).done;
    refused = h.refused.ends;
  }

  -- ---- a line that requests the end

  quit_same : (s t : Operating N R W) (lines : List (List ℕ)) → EndsAmong steps quits stops s lines t → HoldsSame s t
  quit_same s t lines h = same_further s h.middle t (chained s h.middle h.front h.taken).same h.ended.same

  quit_in : (s t : Operating N R W) (lines : List (List ℕ)) → EndsAmong steps quits stops s lines t → QuitsIn holds start opening (at_of s) (at_of t) lines
  quit_in s t lines h = record {
    front = h.front;
    line = h.line;
    rest = h.rest;
    are = h.are;
    asked = h.ended.quits.0;
    done = subst (λ (x : At W). Takes (DoesLine holds start opening) (EndsAt holds start opening) (at_of s) h.front x) (sym h.ended.quits.1)
        (chained s h.middle h.front h.taken).done;
  }

  lacked_ends : (s t : Operating N R W) (lines : List (List ℕ)) (f : Fault) → Lacks steps stops s lines t f → Lacks (DoesLine holds start opening) (EndsAt holds start opening) (at_of s) lines (at_of t) f
  lacked_ends s t lines f h = record {
    fault = h.fault;
    front = h.front;
    rest = h.rest;
    are = h.are;
    taken = (chained s t h.front h.taken).done;
  }

  -- ---- a text

  module _ {I : Type 0} (before after : Option (List ℕ)) (old new : Counted I) (s t : Operating N R W) where
    all_taken : TakesAll steps stops before after old new s t → TakesAll (DoesLine holds start opening) (EndsAt holds start opening) before after old new (at_of s) (at_of t)
    all_taken h = record {
      text = h.text;
      read = h.read;
      end = h.end;
      kept = h.kept;
      taken = (chained s t (lines_of h.text) h.taken).done;
    }

    -- ---- held values

    stopped_same : (f : Fault) → Stops steps stops before after old new s t f → HoldsSame s t
    stopped_same f h =
        elim (stops_in_text steps stops before after old new s t f h) as (λ _. HoldsSame s t) [
          | inl r ↦ refused_same s t (ended_lines [] (h.earlier ++ h.piece)) f r
          | inr l ↦ (chained s t l.front l.taken).same
        ]

    failed_same : (f : Fault) → Fails steps stops before after old new s t f → HoldsSame s t
    failed_same f h =
        elim h as (λ _. HoldsSame s t) [
          | inl k ↦ stopped_same f k
          | inr k ↦ elim k as (λ _. HoldsSame s t) [
            | inl l ↦ refused_same s t (lines_of l.text) f (stops_in_lines steps stops before after old new s t f l)
            | inr u ↦ (chained s t (ended_lines [] u.text) u.taken).same
          ]
        ]

    early_same : EndsEarly steps quits stops before after old new s t → HoldsSame s t
    early_same h =
        elim h.among as (λ _. HoldsSame s t) [
          | inl e ↦ quit_same s t (ended_lines [] h.text) e
          | inr e ↦ quit_same s t (lines_of h.text) e.1
        ]

    pub taken_same : {T : Type 0} (r : Result T Fault) → TakesLines steps quits stops before after old new s t r → HoldsSame s t
    taken_same (Ok x) (inl all) = (chained s t (lines_of all.text) all.taken).same
    taken_same (Ok x) (inr early) = early_same early
    taken_same (Err f) h = failed_same f h

    -- ---- a quit

    quits_in : (text : List ℕ) (read : Consumes before after text) (kept : KeepsCounts old new) (lines : List (List ℕ))
        (q : QuitsIn holds start opening (at_of s) (at_of t) lines)
        → (ended_lines [] text ≡ q.front ++ q.line ∷ q.rest) ⊎ (IsAtEnd after × (lines_of text ≡ q.front ++ q.line ∷ q.rest))
        → Quits holds start opening before after old new (at_of s) (at_of t)
    quits_in text read kept lines q are = record {
      text = text;
      read = read;
      kept = kept;
      front = q.front;
      line = q.line;
      rest = q.rest;
      are = are;
      asked = q.asked;
      done = q.done;
    }

    early_quits : EndsEarly steps quits stops before after old new s t → Quits holds start opening before after old new (at_of s) (at_of t)
    early_quits h =
        elim h.among as (λ _. Quits holds start opening before after old new (at_of s) (at_of t)) [
          | inl e ↦
              let q = quit_in s t (ended_lines [] h.text) e in
              quits_in h.text h.read h.kept (ended_lines [] h.text) q (inl q.are)
          | inr e ↦
              let q = quit_in s t (lines_of h.text) e.1 in
              quits_in h.text h.read h.kept (lines_of h.text) q (inr (e.0, q.are))
        ]

    -- ---- a fault

    stopped_ends : (f : Fault) → Stops steps stops before after old new s t f
        → Stops (DoesLine holds start opening) (EndsAt holds start opening) before after old new (at_of s) (at_of t) f
    stopped_ends f h =
        let first = chained s h.middle (ended_lines [] h.earlier) h.taken in
        let last = ended_lines (unended_line [] h.earlier) h.piece in
        record {
          earlier = h.earlier;
          piece = h.piece;
          read = h.read;
          small = h.small;
          kept = h.kept;
          middle = at_of h.middle;
          taken = first.done;
          stops = elim h.stops as (λ _. StopsAmong (DoesLine holds start opening) (EndsAt holds start opening) (at_of h.middle) last (at_of t) f) [
            | inl r ↦ inl (refused_ends h.middle t last f r)
            | inr l ↦ inr (lacked_ends h.middle t last f l)
          ];
        }

    last_ends : (f : Fault) → StopsLast steps stops before after old new s t f
        → StopsLast (DoesLine holds start opening) (EndsAt holds start opening) before after old new (at_of s) (at_of t) f
    last_ends f h =
        let first = chained s h.middle (ended_lines [] h.text) h.taken in
        record {
          text = h.text;
          read = h.read;
          end = h.end;
          kept = h.kept;
          middle = at_of h.middle;
          taken = first.done;
          stops = refused_ends h.middle t (last_line (unended_line [] h.text)) f h.stops;
        }

    unread_ends : (f : Fault) → IsUnread steps stops before after old new s t f → IsUnread (DoesLine holds start opening) (EndsAt holds start opening) before after old new (at_of s) (at_of t) f
    unread_ends f h = record {
      text = h.text;
      read = h.read;
      fault = h.fault;
      caused = h.caused;
      taken = (chained s t (ended_lines [] h.text) h.taken).done;
    }

    fault_ends : (f : Fault) → Fails steps stops before after old new s t f
        → Fails (DoesLine holds start opening) (EndsAt holds start opening) before after old new (at_of s) (at_of t) f
    fault_ends f h =
        elim h as (λ _. Fails (DoesLine holds start opening) (EndsAt holds start opening) before after old new (at_of s) (at_of t) f) [
          | inl k ↦ inl (stopped_ends f k)
          | inr k ↦ elim k as (λ _. Fails (DoesLine holds start opening) (EndsAt holds start opening) before after old new (at_of s) (at_of t) f) [
            | inl l ↦ inr (inl (last_ends f l))
            | inr u ↦ inr (inr (unread_ends f u))
          ]
        ]

    pub lines_operate : {T : Type 0} (r : Result T Fault) → TakesLines steps quits stops before after old new s t r
        → Operates holds start opening before after old new (at_of s) (at_of t) r
    lines_operate (Ok x) (inl all) = inl (all_taken all)
    lines_operate (Ok x) (inr early) = inr (early_quits early)
    lines_operate (Err f) h = fault_ends f h
