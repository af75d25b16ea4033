-- Writing some lines, and then some more.
use Rattle.std.proofs.Common.{◌≡◌, ℕ, ◌+◌, ◌≤◌, ◌⊎◌, inl, inr, suc, zero, List, [], ◌∷◌, ◌++◌, length, take, drop, take-append-drop, Option, Result, Ok, Err, refl, sym, ap, ◌∙◌, subst, append_assoc, append-nil}
use Rattle.std.specs.Prelude.{OnOk, OnErr, IfErr}
use Rattle.std.specs.Io.KnownBytes.{Appends, Keeps}
use Rattle.std.proofs.KnownBytes.{Appends-nil, Appends-trans, Appends-kept}
use Rattle.std.proofs.Math.Seq.{take-append-add, take-length}
use Rattle.std.proofs.lemmas.List.{take_all}
use Rattle.cg_types.specs.declared.fault.Fault.{Fault}
use Rattle.cg_types.specs.declared.fault.Fault.TheVariants.{OutOfMemory, WriteFault}
use Rattle.cg_links.specs.declared.counted.Counted.{Counted}
use Rattle.cg_links.specs.Counts.{one_more}
use Rattle.cg_links.specs.Counted.{KeepsCounts, CountsFailed, CountsIdle}
use Rattle.cg_links.proofs.Counts.{KeepsCounts-trans}
use Rattle.cg_history.specs.declared.item.Item.{Item}
use Rattle.cg_journal.specs.Text.{joined, event_line, event_lines}
use Rattle.cg_journal.specs.Written.{WritesAll, WritesFirst, BreaksOff, Writes}

pub joined-append : (xs ys : List (List ℕ)) → joined (xs ++ ys) ≡ joined xs ++ joined ys
joined-append [] ys = refl
joined-append (x ∷ xs) ys = ap (λ (t : List ℕ). x ++ t) (joined-append xs ys) ∙ sym (append_assoc x (joined xs) (joined ys))

event_lines-append : (xs ys : List Item) → event_lines (xs ++ ys) ≡ event_lines xs ++ event_lines ys
event_lines-append [] ys = refl
event_lines-append (x ∷ xs) ys = ap (λ (ls : List (List ℕ)). event_line x.event ∷ ls) (event_lines-append xs ys)

events_more : (records : List Item) (i : ℕ) (item : Item) → take (i + 1) records ≡ take i records ++ item ∷ []
    → event_lines (take (i + 1) records) ≡ event_lines (take i records) ++ event_line item.event ∷ []
events_more records i item more = ap event_lines more ∙ event_lines-append (take i records) (item ∷ [])

-- a failure after calls that all went well
caused_later : {L : Type 0} (a b c : Counted L) → KeepsCounts a b → CountsFailed b c ⊎ CountsIdle b c → CountsFailed a c ⊎ CountsIdle a c
caused_later a b c kept (inl f) = inl (record { failed = f.failed ∙ ap one_more kept.failed; idle = f.idle ∙ kept.idle })
caused_later a b c kept (inr i) = inr (record { failed = i.failed ∙ kept.failed; idle = i.idle ∙ ap one_more kept.idle })

-- a prefix of the first part is a prefix of both
take_front : {A : Type 0} → (n : ℕ) (xs ys : List A) → (k : ℕ) × (take n xs ≡ take k (xs ++ ys))
take_front zero xs ys = (0, refl)
take_front (suc n) [] ys = (0, refl)
take_front {A} (suc n) (x ∷ xs) ys = let h = take_front n xs ys in (suc h.0, ap (λ (l : List A). x ∷ l) h.1)

module _ {L : Type 0} where
  pub writes_none : (a : Option (List ℕ)) (w : Counted L) → WritesAll a a w w []
  writes_none a w = record { written = Appends-nil a; kept = record { failed = refl; idle = refl } }

  pub writes_on : (a b c : Option (List ℕ)) (u v w : Counted L) (xs ys : List (List ℕ)) → WritesAll a b u v xs → WritesAll b c v w ys → WritesAll a c u w (xs ++ ys)
  writes_on a b c u v w xs ys one two = record {
    written = subst (λ (t : List ℕ). Appends a c t) (sym (joined-append xs ys)) (Appends-trans a b c _ _ one.written two.written);
    kept = KeepsCounts-trans u v w one.kept two.kept;
  }

  pub breaks_on : (a b c : Option (List ℕ)) (u v w : Counted L) (xs ys : List (List ℕ)) (f : Fault) → WritesAll a b u v xs → BreaksOff b c v w ys f → BreaksOff a c u w (xs ++ ys) f
  breaks_on a b c u v w xs ys f one two = record {
    fault = two.fault;
    count = length (joined xs) + two.count;
    written = subst (λ (t : List ℕ). Appends a c t)
        (sym (ap (take (length (joined xs) + two.count)) (joined-append xs ys) ∙ take-append-add (joined xs) (joined ys) two.count))
        (Appends-trans a b c _ _ one.written two.written);
    caused = caused_later u v w one.kept two.caused;
  }

  pub fails_on : (a b c : Option (List ℕ)) (u v w : Counted L) (xs ys : List (List ℕ)) (f : Fault) → WritesAll a b u v xs
      → WritesFirst b c v w ys f ⊎ BreaksOff b c v w ys f → WritesFirst a c u w (xs ++ ys) f ⊎ BreaksOff a c u w (xs ++ ys) f
  fails_on a b c u v w xs ys f one (inl two) = inl (record {
    fault = two.fault;
    front = xs ++ two.front;
    rest = two.rest;
    are = ap (λ (l : List (List ℕ)). xs ++ l) two.are ∙ sym (append_assoc xs two.front two.rest);
    written = subst (λ (t : List ℕ). Appends a c t) (sym (joined-append xs two.front)) (Appends-trans a b c _ _ one.written two.written);
    kept = KeepsCounts-trans u v w one.kept two.kept;
  })
  fails_on a b c u v w xs ys f one (inr two) = inr (breaks_on a b c u v w xs ys f one two)

  -- all that a call wrote follows the bytes written before
  pub all_on : {T : Type 0} (a b c : Option (List ℕ)) (u v w : Counted L) (xs ys : List (List ℕ)) (r : Result T Fault) → WritesAll a b u v xs
      → Writes b c v w ys r → Writes a c u w (xs ++ ys) r
  all_on a b c u v w xs ys (Ok x) one two = writes_on a b c u v w xs ys one two
  all_on a b c u v w xs ys (Err f) one two = fails_on a b c u v w xs ys f one two

  -- with further lines
  pub breaks_wider : (a b : Option (List ℕ)) (u v : Counted L) (xs ys : List (List ℕ)) (f : Fault) → BreaksOff a b u v xs f → BreaksOff a b u v (xs ++ ys) f
  breaks_wider a b u v xs ys f h =
      let front = take_front h.count (joined xs) (joined ys) in
      record {
        fault = h.fault;
        count = front.0;
        written = subst (λ (t : List ℕ). Appends a b t) (front.1 ∙ ap (take front.0) (sym (joined-append xs ys))) h.written;
        caused = h.caused;
      }

  pub fails_wider : (a b : Option (List ℕ)) (u v : Counted L) (xs ys : List (List ℕ)) (f : Fault)
      → WritesFirst a b u v xs f ⊎ BreaksOff a b u v xs f → WritesFirst a b u v (xs ++ ys) f ⊎ BreaksOff a b u v (xs ++ ys) f
  fails_wider a b u v xs ys f (inl h) = inl (record {
    fault = h.fault;
    front = h.front;
    rest = h.rest ++ ys;
    are = ap (λ (l : List (List ℕ)). l ++ ys) h.are ∙ append_assoc h.front h.rest ys;
    written = h.written;
    kept = h.kept;
  })
  fails_wider a b u v xs ys f (inr h) = inr (breaks_wider a b u v xs ys f h)

  -- ---- one line

  -- nothing was written because memory ran out
  pub nothing_written : (a : Option (List ℕ)) (u : Counted L) (lines : List (List ℕ)) (f : Fault) → f ≡ OutOfMemory
      → WritesFirst a a u u lines f ⊎ BreaksOff a a u u lines f
  nothing_written a u lines f short =
      inl (record { fault = short; front = []; rest = lines; are = refl; written = Appends-nil a; kept = record { failed = refl; idle = refl } })

  -- the result of writing the bytes of a line
  pub line_writes : {T : Type 0} (a b : Option (List ℕ)) (u v : Counted L) (line : List ℕ) (r : Result T Fault)
      → OnOk r (Appends a b line) → OnOk r (KeepsCounts u v) → OnErr r ((n : ℕ) × Appends a b (take n line)) → IfErr r (λ f. f ≡ WriteFault)
      → OnErr r (CountsFailed u v ⊎ CountsIdle u v) → Writes a b u v (line ∷ []) r
  line_writes a b u v line (Ok x) wrote kept front fault caused =
      record { written = subst (λ (t : List ℕ). Appends a b t) (sym (append-nil line)) wrote; kept = kept }
  line_writes a b u v line (Err f) wrote kept front fault caused = inr (record {
    fault = fault;
    count = front.0;
    written = subst (λ (t : List ℕ). Appends a b t) (ap (take front.0) (sym (append-nil line))) front.1;
    caused = caused;
  })

  -- ---- flushed

  pub flushed_all : (a b c : Option (List ℕ)) (u v w : Counted L) (lines : List (List ℕ)) → WritesAll a b u v lines → Keeps b c → KeepsCounts v w → WritesAll a c u w lines
  flushed_all a b c u v w lines all keeps kept =
      record { written = Appends-kept a b c (joined lines) all.written keeps; kept = KeepsCounts-trans u v w all.kept kept }

  pub flush_failed : (a b c : Option (List ℕ)) (u v w : Counted L) (lines : List (List ℕ)) (f : Fault) → WritesAll a b u v lines → Keeps b c → CountsFailed v w → f ≡ WriteFault
      → WritesFirst a c u w lines f ⊎ BreaksOff a c u w lines f
  flush_failed a b c u v w lines f all keeps failed is = inr (record {
    fault = is;
    count = length (joined lines);
    written = subst (λ (t : List ℕ). Appends a c t) (sym (take-length (joined lines))) (Appends-kept a b c (joined lines) all.written keeps);
    caused = caused_later u v w all.kept (inl failed);
  })

  -- ---- the events of records

  pub events_kept : (a b c : Option (List ℕ)) (u v w : Counted L) (records : List Item) (i : ℕ) (item : Item) → take (i + 1) records ≡ take i records ++ item ∷ []
      → WritesAll a b u v (event_lines (take i records)) → WritesAll b c v w (event_line item.event ∷ []) → WritesAll a c u w (event_lines (take (i + 1) records))
  events_kept a b c u v w records i item more one two =
      subst (λ (ls : List (List ℕ)). WritesAll a c u w ls) (sym (events_more records i item more))
      (writes_on a b c u v w (event_lines (take i records)) (event_line item.event ∷ []) one two)

  pub events_fail : (a b c : Option (List ℕ)) (u v w : Counted L) (records : List Item) (i : ℕ) (item : Item) (f : Fault) → take (i + 1) records ≡ take i records ++ item ∷ []
      → WritesAll a b u v (event_lines (take i records)) → WritesFirst b c v w (event_line item.event ∷ []) f ⊎ BreaksOff b c v w (event_line item.event ∷ []) f
      → WritesFirst a c u w (event_lines records) f ⊎ BreaksOff a c u w (event_lines records) f
  events_fail a b c u v w records i item f more one two =
      let front = event_lines (take i records) ++ event_line item.event ∷ [] in
      let all : front ++ event_lines (drop (i + 1) records) ≡ event_lines records =
      ap (λ (ls : List (List ℕ)). ls ++ event_lines (drop (i + 1) records)) (sym (events_more records i item more))
      ∙ sym (event_lines-append (take (i + 1) records) (drop (i + 1) records)) ∙ ap event_lines (take-append-drop (i + 1) records) in
      subst (λ (ls : List (List ℕ)). WritesFirst a c u w ls f ⊎ BreaksOff a c u w ls f) all
      (fails_wider a c u w front (event_lines (drop (i + 1) records)) f
      (fails_on a b c u v w (event_lines (take i records)) (event_line item.event ∷ []) f one two))

  pub events_all : (a b : Option (List ℕ)) (u v : Counted L) (records : List Item) (i : ℕ) → length records ≤ i → WritesAll a b u v (event_lines (take i records)) → WritesAll a b u v (event_lines records)
  events_all a b u v records i over all = subst (λ (rs : List Item). WritesAll a b u v (event_lines rs)) (take_all i records over) all
