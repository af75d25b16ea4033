-- The outcome of a spelled delta at a table that spells places.
use Rattle.std.proofs.Common.{◌≡◌, ◌==◌, ◌≤◌, ℕ, Bool, true, false, cond, List, length, Option, Some, None, Ok, Err, refl, sym, ap, subst, ◌∙◌, arith, eqb-true}
use Rattle.std.specs.Option.{option_map, option_or}
use Rattle.std.specs.Ordering.{nat_cmp, eq_by_cmp}
use Rattle.std.specs.Cmp.{nat_cmp_total}
use Rattle.std.specs.FinMap.{get, get-insert}
use Rattle.std.proofs.lemmas.Bool.Decides.{nat_tests}
use Rattle.cg_types.specs.declared.fault.Fault.TheVariants.{TableFull}
use Rattle.cg_entry.specs.declared.entry.Absorbed.{Absorbed}
use Rattle.cg_entry.specs.declared.entry.Absorbed.TheVariants as absorbed
use Rattle.cg_entry.specs.Values.{EntryValue, DeltaValue}
use Rattle.cg_entry.specs.Taking.{meeting, entry_after}
use Rattle.cg_entry.specs.History.{IsHistory, at_place}
use Rattle.cg_entry.specs.Place.{Span, IsSpan, SpanOutcome, span_outcome, place_after}
use Rattle.cg_entry.specs.Place as place
use Rattle.cg_entry.specs.Spelling.{delta_of, absorbed_of}
use Rattle.cg_entry.proofs.PlaceLemmas.{at_place_some}
use Rattle.cg_entry.proofs.SpellingLaws.{spelled_deltas_are_taken}
use Rattle.cg_entry.specs.declared.took.Took.{Took}
use Rattle.cg_entry.specs.declared.took.Took.TheVariants as took
use Rattle.cg_table.specs.Values.{TableValue, Entries}
use Rattle.cg_table.specs.Taking.{change_by, change_of, with_row, take_one, is_full_for}
use Rattle.cg_table.specs.Spelling.{SpellsPlaces}
use Rattle.cg_table.specs.Places.{took_of_span, took_for, place_with}
use Rattle.cg_table.specs.Laws.{IsPutAsItsSpan, PutDeltasMovePlaces}

-- ---- one owner

-- the entry held of an owner after a change of its row
abbrev pub held_with : Option (ℕ × EntryValue) → Option EntryValue → Option EntryValue
held_with row held = option_or (option_map (λ r. r.1) row) held

held_by : (q : ℕ) (a : Absorbed) (held : Option EntryValue) → held_with (change_by q a).0 held ≡ entry_after held a
held_by q (absorbed.Taken e) held = refl
held_by q absorbed.Old held = refl
held_by q absorbed.Gap held = refl

-- The facts of a change by a spelled delta about the owner q, at a table that holds the entry at the place p of its
-- history.
pub record IsChangedAsItsSpan (t : TableValue) (q : ℕ) (h : List EntryValue) (p : ℕ) (span : Span) (d : DeltaValue) : Type 0 where
  pub held : held_with (change_of t q d).0 (get t.entries q) ≡ at_place h (place_with (q == t.own) p (Some span))
  pub outcome : (change_of t q d).1 ≡ took_for (q == t.own) p span

module _ (t : TableValue) (q : ℕ) (h : List EntryValue) (is : IsHistory h) (p : ℕ) (lp : p ≤ length h) (held : get t.entries q ≡ at_place h p)
    (span : Span) (stands : IsSpan h span) (d : DeltaValue) (spells : delta_of h span ≡ Some d) where
  took_by : (y : EntryValue) → at_place h span.to ≡ Some y → (o : SpanOutcome) → (change_by q (absorbed_of h span o)).1 ≡ took_of_span o
  took_by y ey place.Taken = rw ey refl
  took_by y ey place.Old = refl
  took_by y ey place.Gap = refl

  changed_by : (own : Bool) → held_with (cond own (None, took.Own) (change_by q (meeting (get t.entries q) d))).0 (get t.entries q) ≡ at_place h (cond own p (place_after (span_outcome p span) p span))
  changed_by true = held
  changed_by false =
      held_by q (meeting (get t.entries q) d) (get t.entries q) ∙ ap (λ (o : Option EntryValue). entry_after o (meeting o d)) held
      ∙ (spelled_deltas_are_taken h is span stands p lp d spells).held

  outcome_by : (own : Bool) → (cond own (None, took.Own) (change_by q (meeting (get t.entries q) d))).1 ≡ cond own took.Own (took_of_span (span_outcome p span))
  outcome_by true = refl
  outcome_by false =
      let y = at_place_some h span.to (omega (arith, stands.rises)) stands.stands in
      ap (λ (o : Option EntryValue). (change_by q (meeting o d)).1) held ∙ ap (λ (a : Absorbed). (change_by q a).1) (spelled_deltas_are_taken h is span stands p lp d spells).outcome
      ∙ took_by y.0 y.1 (span_outcome p span)

  pub changed_as_its_span : IsChangedAsItsSpan t q h p span d
  changed_as_its_span = record { held = changed_by (q == t.own); outcome = outcome_by (q == t.own) }

-- ---- places after spans

place_stands : (n p : ℕ) (span : Span) (o : SpanOutcome) → p ≤ n → span.to ≤ n → place_after o p span ≤ n
place_stands n p span place.Taken l s = s
place_stands n p span place.Old l s = l
place_stands n p span place.Gap l s = l

pub place_with_stands : (h : List EntryValue) (own : Bool) (p : ℕ) (o : Option Span) → p ≤ length h → ((span : Span) → o ≡ Some span → IsSpan h span) → place_with own p o ≤ length h
place_with_stands h own p None l is = l
place_with_stands h true p (Some span) l is = l
place_with_stands h false p (Some span) l is = place_stands (length h) p span (span_outcome p span) l (is span refl).stands

-- ---- a row that a delta changes

row_key_by : (own : Bool) (owner : ℕ) (a : Absorbed) (r : ℕ × EntryValue) → (cond own (None, took.Own) (change_by owner a)).0 ≡ Some r → r.0 ≡ owner
row_key_by true owner a r is = absurd cc
row_key_by false owner (absorbed.Taken x) r is = let same : (owner, x) ≡ r = cc in ap (λ (r : ℕ × EntryValue). r.0) (sym same)
row_key_by false owner absorbed.Old r is = absurd cc
row_key_by false owner absorbed.Gap r is = absurd cc

-- it is about the delta's owner
pub row_key : (t : TableValue) (owner : ℕ) (d : DeltaValue) (r : ℕ × EntryValue) → (change_of t owner d).0 ≡ Some r → r.0 ≡ owner
row_key t owner d r is = row_key_by (owner == t.own) owner (meeting (get t.entries owner) d) r is

tests_same : (x k : ℕ) → eq_by_cmp nat_cmp x k ≡ (x == k)
tests_same x k = grind (arith, nat_tests)

row_put : (owner : ℕ) (m : Entries) (q : ℕ) (row : Option (ℕ × EntryValue)) → ((r : ℕ × EntryValue) → row ≡ Some r → r.0 ≡ owner)
    → get (with_row row m) q ≡ cond (q == owner) (held_with row (get m q)) (get m q)
row_put owner m q None key = elim (q == owner) as (λ b. get m q ≡ cond b (get m q) (get m q)) [ true ↦ refl | false ↦ refl ]
row_put owner m q (Some r) key =
    get-insert nat_cmp_total m r.0 r.1 q ∙ ap (λ (b : Bool). cond b (Some r.1) (get m q)) (tests_same q r.0)
    ∙ ap (λ (k : ℕ). cond (q == k) (Some r.1) (get m q)) (key r refl)

-- ---- the law

-- the answer if there is room
given : {A : Type 0} (full : Bool) (x y : A) → cond full (Err TableFull) (Ok x) ≡ Ok y → x ≡ y
given true x y e = absurd cc
given false x y e = cc

module _ (hs : ℕ → List EntryValue) (are : (owner : ℕ) → IsHistory (hs owner)) (t : TableValue) (places : ℕ → ℕ) (s : SpellsPlaces hs t.entries places)
    (owner : ℕ) (span : Span) (d : DeltaValue) (stands : IsSpan (hs owner) span) (spells : delta_of (hs owner) span ≡ Some d) where
  changed : IsChangedAsItsSpan t owner (hs owner) (places owner) span d
  changed = changed_as_its_span t owner (hs owner) (are owner) (places owner) (s.stand owner) (s.at owner) span stands d spells

  abbrev placed : ℕ → Bool → ℕ
  placed q here = place_with (q == t.own) (places q) (cond here (Some span) None)

  at_each : (q : ℕ) (here : Bool) → (q == owner) ≡ here → cond here (held_with (change_of t owner d).0 (get t.entries q)) (get t.entries q) ≡ at_place (hs q) (placed q here)
  at_each q true is =
      subst (λ (k : ℕ). held_with (change_of t owner d).0 (get t.entries k) ≡ at_place (hs k) (place_with (k == t.own) (places k) (Some span))) (sym (eqb-true q owner is)) changed.held
  at_each q false is = s.at q

  stands_each : (q : ℕ) (here : Bool) → (q == owner) ≡ here → placed q here ≤ length (hs q)
  stands_each q true is =
      subst (λ (k : ℕ). place_with (k == t.own) (places k) (Some span) ≤ length (hs k)) (sym (eqb-true q owner is))
      (place_with_stands (hs owner) (owner == t.own) (places owner) (Some span) (s.stand owner) (λ other e. subst (IsSpan (hs owner)) (let same : span ≡ other = cc in same) stands))
  stands_each q false is = s.stand q

  put_as_its_span : IsPutAsItsSpan hs t places owner span (take_one t owner d).0 (take_one t owner d).1
  put_as_its_span = record {
    own = refl;
    outcome = changed.outcome;
    spells = record {
      at = λ q. row_put owner t.entries q (change_of t owner d).0 (row_key t owner d) ∙ at_each q (q == owner) refl;
      stand = λ q. stands_each q (q == owner) refl;
    };
  }

pub put_deltas_move_places : PutDeltasMovePlaces
put_deltas_move_places hs are t places s owner span d stands spells after took put =
    let is = given (is_full_for t.entries owner d) (take_one t owner d) (after, took) put in
    subst (λ (x : TableValue × Took). IsPutAsItsSpan hs t places owner span x.0 x.1) is (put_as_its_span hs are t places s owner span d stands spells)
