-- A text, read chunk by chunk.
use Rattle.std.proofs.Common.{◌≡◌, ℕ, ◌+◌, ◌≤◌, length, ◌⊎◌, inl, inr, List, [], ◌++◌, Option, Result, Ok, Err, refl, sym, ap, ◌∙◌, subst, append-nil, arith}
use Rattle.std.specs.Prelude.{MatchResult}
use Rattle.std.specs.Io.KnownBytes.{Consumes, IsAtEnd, Keeps}
use Rattle.std.proofs.KnownBytes.{Consumes-nil, Consumes-trans, Consumes-kept}
use Rattle.cg_types.specs.declared.fault.Fault.{Fault}
use Rattle.cg_types.specs.declared.fault.Fault.TheVariants.{ReadFault}
use Rattle.cg_links.specs.declared.counted.Counted.{Counted}
use Rattle.cg_links.specs.Counts.{one_more}
use Rattle.cg_links.specs.Counted.{calls_of, KeepsCounts, CountsCalls, CountsFailed}
use Rattle.cg_links.proofs.Counts.{KeepsCounts-trans}
use Rattle.cg_links.specs.declared.lines.TheConstants.{PIECE_LIMIT}
use Rattle.cg_links.specs.Lines.{ended_lines, unended_line, last_line, lines_of}
use Rattle.cg_links.specs.Taken.{Takes, Refuses, Lacks, StopsAmong, Stops, StopsLast, IsUnread, TakesAll, NeverEnds, EndsAmong, EndsEarly, TakesLines}
use Rattle.cg_links.proofs.LineLemmas.{ended_lines-append, unended_line-append}
use Rattle.cg_links.proofs.TakenLemmas.{takes_on, refuses_on, lacks_on, ends_on}

-- k calls were made
abbrev pub Counts : {L : Type 0} → Counted L → Counted L → ℕ → Type 0
Counts old new k = ((calls_of new ≡ calls_of old) × (k ≡ 0)) ⊎ CountsCalls old new k

counts_more : {L : Type 0} (a b c : Counted L) (k : ℕ) → Counts a b k → calls_of c ≡ one_more (calls_of b) → CountsCalls a c (k + 1)
counts_more a b c k (inl h) e = record { calls = omega (arith, e, h.0, h.1) }
counts_more a b c k (inr h) e = record { calls = omega (arith, e, h.calls) }

all_lines : (text piece front : List ℕ) → front ≡ unended_line [] text → ended_lines [] text ++ ended_lines front piece ≡ ended_lines [] (text ++ piece)
all_lines text piece front e = ap (λ (l : List ℕ). ended_lines [] text ++ ended_lines l piece) e ∙ sym (ended_lines-append [] text piece)

module _ {S : Type 0} (takes : S → List ℕ → S → Type 0) (refuses : S → List ℕ → S → Fault → Type 0) where
  module _ {R : Type 0} where
    -- a part of the text is read, and its lines are taken
    pub record Reading (s t : S) (front : List ℕ) (before after : Option (List ℕ)) (r0 r1 : Counted R) (k : ℕ) : Type 0 where
      pub text : List ℕ
      pub read : Consumes before after text
      pub kept : KeepsCounts r0 r1
      pub counted : Counts r0 r1 k
      pub unended : front ≡ unended_line [] text
      pub taken : Takes takes refuses s (ended_lines [] text) t

    pub reading_none : (s : S) (front : List ℕ) (before : Option (List ℕ)) (r : Counted R) → front ≡ [] → Reading s s front before before r r 0
    reading_none s front before r none = record {
      text = [];
      read = Consumes-nil before;
      kept = record { failed = refl; idle = refl };
      counted = inl (refl, refl);
      unended = none;
      taken = refl;
    }

    pub reading_more : (s t u : S) (front next piece given : List ℕ) (before after later : Option (List ℕ)) (r0 r1 r2 : Counted R) (k : ℕ)
        → Reading s t front before after r0 r1 k → Consumes after later piece → KeepsCounts r1 r2 → calls_of r2 ≡ one_more (calls_of r1)
        → Takes takes refuses t (ended_lines front given) u → next ≡ unended_line front given → given ≡ piece
        → Reading s u next before later r0 r2 (k + 1)
    reading_more s t u front next piece given before after later r0 r1 r2 k h read kept calls given_taken given_is same =
        let taken : Takes takes refuses t (ended_lines front piece) u = subst (λ (l : List ℕ). Takes takes refuses t (ended_lines front l) u) same given_taken in
        let is : next ≡ unended_line front piece = given_is ∙ ap (unended_line front) same in
        record {
          text = h.text ++ piece;
          read = Consumes-trans before after later h.text piece h.read read;
          kept = KeepsCounts-trans r0 r1 r2 h.kept kept;
          counted = inr (counts_more r0 r1 r2 k h.counted calls);
          unended = is ∙ ap (λ (l : List ℕ). unended_line l piece) h.unended ∙ sym (unended_line-append [] h.text piece);
          taken = subst (λ (ls : List (List ℕ)). Takes takes refuses s ls u) (all_lines h.text piece front h.unended)
              (takes_on takes refuses s t u (ended_lines [] h.text) (ended_lines front piece) h.taken taken);
        }

    pub reading_stops : (s t u : S) (front piece given : List ℕ) (before after later : Option (List ℕ)) (r0 r1 r2 : Counted R) (k : ℕ) (f : Fault)
        → Reading s t front before after r0 r1 k → Consumes after later piece → length piece ≤ PIECE_LIMIT → KeepsCounts r1 r2
        → StopsAmong takes refuses t (ended_lines front given) u f → given ≡ piece
        → Stops takes refuses before later r0 r2 s u f
    reading_stops s t u front piece given before after later r0 r1 r2 k f h read small kept given_stops same = record {
      earlier = h.text;
      piece = piece;
      read = Consumes-trans before after later h.text piece h.read read;
      small = small;
      kept = KeepsCounts-trans r0 r1 r2 h.kept kept;
      middle = t;
      taken = h.taken;
      stops = subst (λ (l : List ℕ). StopsAmong takes refuses t (ended_lines l piece) u f) h.unended
          (subst (λ (l : List ℕ). StopsAmong takes refuses t (ended_lines front l) u f) same given_stops);
    }

    pub reading_fails : (s t : S) (front : List ℕ) (before after later : Option (List ℕ)) (r0 r1 r2 : Counted R) (k : ℕ) (f : Fault)
        → Reading s t front before after r0 r1 k → Keeps after later → CountsFailed r1 r2 → f ≡ ReadFault
        → IsUnread takes refuses before later r0 r2 s t f
    reading_fails s t front before after later r0 r1 r2 k f h same failed is = record {
      text = h.text;
      read = Consumes-kept before after later h.text h.read same;
      fault = is;
      caused = inl (record { failed = failed.failed ∙ ap one_more h.kept.failed; idle = failed.idle ∙ h.kept.idle });
      taken = h.taken;
    }

    -- ---- the ends of reading, by all lines of the text

    -- a line that ends in the text was refused, or memory ran out
    pub stops_in_text : (before after : Option (List ℕ)) (old new : Counted R) (s t : S) (f : Fault) (h : Stops takes refuses before after old new s t f)
        → StopsAmong takes refuses s (ended_lines [] (h.earlier ++ h.piece)) t f
    stops_in_text before after old new s t f h =
        let all = sym (ended_lines-append [] h.earlier h.piece) in
        elim h.stops [
          | inl refused ↦ inl (subst (λ (ls : List (List ℕ)). Refuses takes refuses s ls t f) all
              (refuses_on takes refuses s h.middle t (ended_lines [] h.earlier) (ended_lines (unended_line [] h.earlier) h.piece) f h.taken refused))
          | inr short ↦ inr (subst (λ (ls : List (List ℕ)). Lacks takes refuses s ls t f) all
              (lacks_on takes refuses s h.middle t (ended_lines [] h.earlier) (ended_lines (unended_line [] h.earlier) h.piece) f h.taken short))
        ]

    -- the last line of the text was refused
    pub stops_in_lines : (before after : Option (List ℕ)) (old new : Counted R) (s t : S) (f : Fault) (h : StopsLast takes refuses before after old new s t f)
        → Refuses takes refuses s (lines_of h.text) t f
    stops_in_lines before after old new s t f h =
        refuses_on takes refuses s h.middle t (ended_lines [] h.text) (last_line (unended_line [] h.text)) f h.taken h.stops

module _ {S : Type 0} (takes ends : S → List ℕ → S → Type 0) (refuses : S → List ℕ → S → Fault → Type 0) where
  module _ {R : Type 0} where
    -- a line of the chunk ended the reading
    pub reading_stopped : (s t u : S) (front piece given : List ℕ) (before after later : Option (List ℕ)) (r0 r1 r2 : Counted R) (k : ℕ)
        → Reading takes refuses s t front before after r0 r1 k → Consumes after later piece → KeepsCounts r1 r2
        → EndsAmong takes ends refuses t (ended_lines front given) u → given ≡ piece
        → EndsEarly takes ends refuses before later r0 r2 s u
    reading_stopped s t u front piece given before after later r0 r1 r2 k h read kept ended same = record {
      text = h.text ++ piece;
      read = Consumes-trans before after later h.text piece h.read read;
      kept = KeepsCounts-trans r0 r1 r2 h.kept kept;
      among = inl (subst (λ (ls : List (List ℕ)). EndsAmong takes ends refuses s ls u) (all_lines h.text piece front h.unended)
          (ends_on takes ends refuses s t u (ended_lines [] h.text) (ended_lines front piece) h.taken
          (subst (λ (l : List ℕ). EndsAmong takes ends refuses t (ended_lines front l) u) same ended)));
    }

    -- the end was met, and the last line taken or refused, or it ended the reading
    pub reading_ends : {T : Type 0} (s t u : S) (front : List ℕ) (before after later : Option (List ℕ)) (r0 r1 r2 : Counted R) (k : ℕ) (r : Result T Fault)
        → Reading takes refuses s t front before after r0 r1 k → Consumes after later [] → IsAtEnd later → KeepsCounts r1 r2
        → MatchResult r (λ _. Takes takes refuses t (last_line front) u ⊎ EndsAmong takes ends refuses t (last_line front) u) (λ f. Refuses takes refuses t (last_line front) u f)
        → TakesLines takes ends refuses before later r0 r2 s u r
    reading_ends s t u front before after later r0 r1 r2 k (Ok x) h read end kept gone =
        let all : Consumes before later h.text = subst (λ (b : List ℕ). Consumes before later b) (append-nil h.text) (Consumes-trans before after later h.text [] h.read read) in
        elim gone as (λ _. TakesAll takes refuses before later r0 r2 s u ⊎ EndsEarly takes ends refuses before later r0 r2 s u) [
          | inl taken ↦ inl (record {
            text = h.text;
            read = all;
            end = end;
            kept = KeepsCounts-trans r0 r1 r2 h.kept kept;
            taken = subst (λ (l : List ℕ). Takes takes refuses s (ended_lines [] h.text ++ last_line l) u) h.unended
                (takes_on takes refuses s t u (ended_lines [] h.text) (last_line front) h.taken taken);
          })
          | inr ended ↦ inr (record {
            text = h.text;
            read = all;
            kept = KeepsCounts-trans r0 r1 r2 h.kept kept;
            among = inr (
              end,
              subst (λ (l : List ℕ). EndsAmong takes ends refuses s (ended_lines [] h.text ++ last_line l) u) h.unended
                  (ends_on takes ends refuses s t u (ended_lines [] h.text) (last_line front) h.taken ended),
            );
          })
        ]
    reading_ends s t u front before after later r0 r1 r2 k (Err f) h read end kept refused = inr (inl (record {
      text = h.text;
      read = subst (λ (b : List ℕ). Consumes before later b) (append-nil h.text) (Consumes-trans before after later h.text [] h.read read);
      end = end;
      kept = KeepsCounts-trans r0 r1 r2 h.kept kept;
      middle = t;
      taken = h.taken;
      stops = subst (λ (l : List ℕ). Refuses takes refuses t (last_line l) u f) h.unended refused;
    }))

module _ {S : Type 0} (takes : S → List ℕ → S → Type 0) (refuses : S → List ℕ → S → Fault → Type 0) where
  -- If no line ends the reading, all of the text is taken.
  pub taken_to_the_end : {R : Type 0} (before after : Option (List ℕ)) (old new : Counted R) (s t : S)
      → TakesAll takes refuses before after old new s t ⊎ EndsEarly takes NeverEnds refuses before after old new s t
      → TakesAll takes refuses before after old new s t
  taken_to_the_end before after old new s t (inl all) = all
  taken_to_the_end before after old new s t (inr early) =
      elim early.among as (λ _. TakesAll takes refuses before after old new s t) [
        | inl e ↦ absurd e.ended
        | inr e ↦ absurd e.1.ended
      ]
