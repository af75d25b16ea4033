-- Taken lines are read, one after the other.
use Rattle.std.proofs.Common.{◌≡◌, ℕ, ◌+◌, ◌≤◌, ◌⊎◌, inl, inr, suc, List, [], ◌∷◌, ◌++◌, length, Option, Some, None, Result, Ok, Err, refl, sym, ap, ◌∙◌, subst, length-append, append_assoc, append-nil, arith}
use Rattle.std.specs.Prelude.{◌-◌, ◌^◌, min, MatchResult}
use Rattle.std.specs.Io.KnownBytes.{Consumes}
use Rattle.cg_types.specs.declared.fault.Fault.{Fault}
use Rattle.cg_types.specs.declared.fault.Fault.TheVariants.{OutOfMemory, BadText}
use Rattle.cg_links.specs.declared.counted.Counted.{Counted}
use Rattle.cg_links.specs.Counts.{one_more}
use Rattle.cg_links.specs.Counted.{KeepsCounts}
use Rattle.cg_history.specs.History.{HistoryValue}
use Rattle.cg_links.specs.declared.lines.TheConstants.{PIECE_LIMIT}
use Rattle.cg_links.specs.Lines.{ended_lines, unended_line, last_line, lines_of}
use Rattle.cg_links.specs.Taken.{Takes, TakesAll, Stops, StopsLast, IsUnread, Fails}
use Rattle.cg_links.proofs.LineLemmas.{ended_lines-append}
use Rattle.cg_links.proofs.TakenLemmas.{takes_on}
use Rattle.cg_journal.specs.declared.reading.Progress.{Progress}
use Rattle.cg_journal.specs.declared.unread.Unread.{Unread}
use Rattle.cg_journal.specs.Reading.{event_in, history_after, begun_or, after_line, on_line, after_lines, journal_in, told_number}
use Rattle.cg_journal.specs.Read.{TakesLine, RefusesLine, NoneBefore, ReadsHistory, LacksMemory, MeetsReadFault, FailsToRead}

-- a line after the first
pub read_behind : {T : Type 0} (o : Option HistoryValue) (h k : HistoryValue) (line : List ℕ) (r : Result T Fault) → o ≡ Some h
    → MatchResult r (λ _. history_after h (event_in line) ≡ Some k) (λ f. (f ≡ OutOfMemory) ⊎ ((f ≡ BadText) × (history_after h (event_in line) ≡ None)))
    → MatchResult r (λ _. (x : HistoryValue) × (after_line o line ≡ Some x) × (Some k ≡ Some x)) (λ f. (f ≡ OutOfMemory) ⊎ ((f ≡ BadText) × (after_line o line ≡ None)))
read_behind o h k line (Ok x) is read = (k, ap (λ (p : Option HistoryValue). after_line p line) is ∙ read, refl)
read_behind o h k line (Err f) is (inl short) = inl short
read_behind o h k line (Err f) is (inr bad) = inr (bad.0, ap (λ (p : Option HistoryValue). after_line p line) is ∙ bad.1)

-- no line was read
abbrev pub nothing : Progress
nothing = record { history = None; lines = 0 }

-- lines are taken, from one progress to another
abbrev Taken : Progress → List (List ℕ) → Progress → Type 0
Taken = Takes TakesLine RefusesLine

-- ---- the history of lines that are taken

lines_taken : (n : ℕ) (p q : Progress) (xs ys : List (List ℕ)) → Taken p xs q → after_lines n p.history (xs ++ ys) ≡ after_lines (n + length xs) q.history ys
lines_taken n p q [] ys e =
    let same : n ≡ n + length {A = List ℕ} [] = omega arith in
    ap (λ (s : Progress). after_lines n s.history ys) e ∙ ap (λ (k : ℕ). after_lines k q.history ys) same
lines_taken n p q (x ∷ xs) ys t =
    let (m, one, more) = t in
    let same : suc n + length xs ≡ n + length (x ∷ xs) = omega arith in
    ap (λ (o : Option HistoryValue). on_line n o (λ h. after_lines (suc n) (Some h) (xs ++ ys))) one.1
    ∙ ap (λ (o : Option HistoryValue). after_lines (suc n) o (xs ++ ys)) (sym one.2)
    ∙ lines_taken (suc n) m q xs ys more
    ∙ ap (λ (k : ℕ). after_lines k q.history ys) same

lines_counted : (n : ℕ) (p q : Progress) (xs : List (List ℕ)) → Taken p xs q → p.lines ≡ min n (2 ^ 64 - 1) → q.lines ≡ min (n + length xs) (2 ^ 64 - 1)
lines_counted n p q [] e is =
    let same : p.lines ≡ q.lines = ap (λ (s : Progress). s.lines) e in
    let count : n + length {A = List ℕ} [] ≡ n = omega arith in
    sym same ∙ is ∙ ap (λ (k : ℕ). min k (2 ^ 64 - 1)) (sym count)
lines_counted n p q (x ∷ xs) t is =
    let (m, one, more) = t in
    let next : m.lines ≡ min (suc n) (2 ^ 64 - 1) = (let e = one.3 in omega (arith, e, is)) in
    let same : suc n + length xs ≡ n + length (x ∷ xs) = omega arith in
    lines_counted (suc n) m q xs more next ∙ ap (λ (k : ℕ). min k (2 ^ 64 - 1)) same

-- the reported number of the line that follows
line_told : (q : Progress) (xs : List (List ℕ)) (line : ℕ) → Taken nothing xs q → line ≡ one_more q.lines → line ≡ told_number (1 + length xs)
line_told q xs line taken is =
    let none : 0 ≡ min 0 (2 ^ 64 - 1) = refl in
    let counted = lines_counted 0 nothing q xs taken none in
    omega (arith, is, counted)

behind : (n k : ℕ) (xs : List (List ℕ)) (r : Option HistoryValue) → ((h : HistoryValue) → after_lines (suc n) (Some h) xs ≡ Err k → suc n ≤ k)
    → on_line n r (λ h. after_lines (suc n) (Some h) xs) ≡ Err k → n ≤ k
behind n k xs None next e = let same : n ≡ k = cc in omega (arith, same)
behind n k xs (Some h) next e = let less = next h e in omega (arith, less)

not_before : (n k : ℕ) (o : Option HistoryValue) (lines : List (List ℕ)) → after_lines n o lines ≡ Err k → n ≤ k
not_before n k None [] e = let same : n ≡ k = cc in omega (arith, same)
not_before n k (Some h) [] e = absurd cc
not_before n k o (x ∷ xs) e = behind n k xs (after_line o x) (λ h. not_before (suc n) k (Some h) xs) e

-- ---- the lines of a text

-- a line after some that are taken can't be read
unreadable_at : (lines front rest : List (List ℕ)) (line : List ℕ) (m : Progress) → lines ≡ front ++ line ∷ rest → Taken nothing front m
    → after_line m.history line ≡ None → after_lines 1 None lines ≡ Err (1 + length front)
unreadable_at lines front rest line m are taken none =
    ap (after_lines 1 None) are
    ∙ lines_taken 1 nothing m front (line ∷ rest) taken
    ∙ ap (λ (o : Option HistoryValue). on_line (1 + length front) o (λ h. after_lines (suc (1 + length front)) (Some h) rest)) none

-- no line of those that are taken is unreadable
none_before : (text : List ℕ) (front rest : List (List ℕ)) (m : Progress) → lines_of text ≡ front ++ rest → Taken nothing front m → NoneBefore text (1 + length front)
unfolding journal_in
none_before text front rest m are taken n e =
    not_before (1 + length front) n m.history rest (sym (ap (after_lines 1 None) are ∙ lines_taken 1 nothing m front rest taken) ∙ e)

-- the lines of a text begin with those that end in it
more_lines : (text : List ℕ) (front rest : List (List ℕ)) → ended_lines [] text ≡ front ++ rest
    → lines_of text ≡ front ++ (rest ++ last_line (unended_line [] text))
more_lines text front rest are = ap (λ (ls : List (List ℕ)). ls ++ last_line (unended_line [] text)) are ∙ append_assoc front rest (last_line (unended_line [] text))

-- and the same with more text after it
later_lines : (text more : List ℕ) (front rest : List (List ℕ)) → ended_lines [] text ≡ front ++ rest
    → lines_of (text ++ more) ≡ front ++ (rest ++ (ended_lines (unended_line [] text) more ++ last_line (unended_line [] (text ++ more))))
later_lines text more front rest are =
    let last = last_line (unended_line [] (text ++ more)) in
    let ended = ended_lines (unended_line [] text) more in
    ap (λ (ls : List (List ℕ)). ls ++ last) (ended_lines-append [] text more ∙ ap (λ (ls : List (List ℕ)). ls ++ ended) are)
    ∙ append_assoc (front ++ rest) ended last ∙ append_assoc front rest (ended ++ last)

further : {xs : List (List ℕ)} (first front rest : List (List ℕ)) → xs ≡ front ++ rest → first ++ xs ≡ (first ++ front) ++ rest
further first front rest are = ap (λ (ls : List (List ℕ)). first ++ ls) are ∙ sym (append_assoc first front rest)

longer : (xs ys : List (List ℕ)) → length xs ≤ length (xs ++ ys)
longer xs ys = let lengths = length-append xs ys in omega (arith, lengths)

-- ---- ends of reading

module _ {R : Type 0} (before after : Option (List ℕ)) (old new : Counted R) (q : Progress) where
  pub history_read : (h : HistoryValue) → TakesAll TakesLine RefusesLine before after old new nothing q → q.history ≡ Some h → ReadsHistory before after old new h
  unfolding journal_in
  history_read h t is = record {
    text = t.text;
    read = t.read;
    end = t.end;
    kept = t.kept;
    history = ap (after_lines 1 None) (sym (append-nil (lines_of t.text)))
        ∙ lines_taken 1 nothing q (lines_of t.text) [] t.taken
        ∙ ap (begun_or (1 + length (lines_of t.text))) is;
  }

  -- there is no line
  pub no_history : (u : Unread) → TakesAll TakesLine RefusesLine before after old new nothing q → q.history ≡ None → u.line ≡ one_more q.lines → u.fault ≡ BadText
      → FailsToRead before after old new u
  unfolding journal_in
  no_history u t is line fault = inl (record {
    fault = fault;
    text = t.text;
    read = t.read;
    kept = t.kept;
    number = 1 + length (lines_of t.text);
    told = line_told q (lines_of t.text) u.line t.taken line;
    first = inr (
      t.end,
      ap (after_lines 1 None) (sym (append-nil (lines_of t.text)))
          ∙ lines_taken 1 nothing q (lines_of t.text) [] t.taken
          ∙ ap (begun_or (1 + length (lines_of t.text))) is,
    );
  })

  module _ (u : Unread) (f : Fault) (line : u.line ≡ one_more q.lines) (fault : u.fault ≡ f) where
    lacks : (earlier piece : List ℕ) (front rest : List (List ℕ)) (m : Progress) → Consumes before after (earlier ++ piece) → length piece ≤ PIECE_LIMIT
        → KeepsCounts old new → lines_of (earlier ++ piece) ≡ front ++ rest → length (ended_lines [] earlier) ≤ length front
        → Taken nothing front m → q.lines ≡ m.lines → f ≡ OutOfMemory → LacksMemory before after old new u
    lacks earlier piece front rest m read small kept are behind taken same short = record {
      fault = fault ∙ short;
      earlier = earlier;
      piece = piece;
      read = read;
      small = small;
      kept = kept;
      front = front;
      rest = rest;
      are = are;
      behind = behind;
      told = line_told m front u.line taken (line ∙ ap one_more same);
      unhidden = none_before (earlier ++ piece) front rest m are taken;
    }

    pub stopped : Stops TakesLine RefusesLine before after old new nothing q f → FailsToRead before after old new u
    unfolding journal_in
    stopped s =
        let text = s.earlier ++ s.piece in
        let first = ended_lines [] s.earlier in
        let all = ended_lines-append [] s.earlier s.piece in
        elim s.stops [
          | inl r ↦
              let front = first ++ r.front in
              let are = all ∙ further first r.front (r.line ∷ r.rest) r.are in
              let taken = takes_on TakesLine RefusesLine nothing s.middle r.middle first r.front s.taken r.taken in
              elim r.refused.0 [
                | inl short ↦ inr (inl (lacks s.earlier s.piece front _ r.middle s.read s.small s.kept (more_lines text front (r.line ∷ r.rest) are)
                    (longer first r.front) taken r.refused.1 short))
                | inr bad ↦ inl (record {
                  fault = fault ∙ bad.0;
                  text = text;
                  read = s.read;
                  kept = s.kept;
                  number = 1 + length front;
                  told = line_told r.middle front u.line taken (line ∙ ap one_more r.refused.1);
                  first = inl (λ more. unreadable_at _ front _ r.line r.middle (later_lines text more front (r.line ∷ r.rest) are) taken bad.1);
                })
              ]
          | inr l ↦
              let front = first ++ l.front in
              let are = all ∙ further first l.front l.rest l.are in
              inr (inl (lacks s.earlier s.piece front _ q s.read s.small s.kept (more_lines text front l.rest are)
              (longer first l.front) (takes_on TakesLine RefusesLine nothing s.middle q first l.front s.taken l.taken) refl l.fault))
        ]

    pub stopped_last : StopsLast TakesLine RefusesLine before after old new nothing q f → FailsToRead before after old new u
    unfolding journal_in
    stopped_last s =
        let first = ended_lines [] s.text in
        let r = s.stops in
        let front = first ++ r.front in
        let are = further first r.front (r.line ∷ r.rest) r.are in
        let taken = takes_on TakesLine RefusesLine nothing s.middle r.middle first r.front s.taken r.taken in
        let whole : s.text ++ [] ≡ s.text = append-nil s.text in
        elim r.refused.0 [
          | inl short ↦ inr (inl (lacks s.text [] front (r.line ∷ r.rest) r.middle
              (subst (λ (b : List ℕ). Consumes before after b) (sym whole) s.read) (omega arith) s.kept
              (ap lines_of whole ∙ are) (longer first r.front) taken r.refused.1 short))
          | inr bad ↦ inl (record {
            fault = fault ∙ bad.0;
            text = s.text;
            read = s.read;
            kept = s.kept;
            number = 1 + length front;
            told = line_told r.middle front u.line taken (line ∙ ap one_more r.refused.1);
            first = inr (s.end, unreadable_at (lines_of s.text) front r.rest r.line r.middle are taken bad.1);
          })
        ]

    unread : IsUnread TakesLine RefusesLine before after old new nothing q f → MeetsReadFault before after old new u
    unread s = record {
      fault = fault ∙ s.fault;
      text = s.text;
      read = s.read;
      caused = s.caused;
      told = line_told q (ended_lines [] s.text) u.line s.taken line;
      unhidden = none_before s.text (ended_lines [] s.text) (last_line (unended_line [] s.text)) q refl s.taken;
    }

    pub failed : Fails TakesLine RefusesLine before after old new nothing q f → FailsToRead before after old new u
    failed (inl s) = stopped s
    failed (inr (inl s)) = stopped_last s
    failed (inr (inr s)) = inr (inr (unread s))
