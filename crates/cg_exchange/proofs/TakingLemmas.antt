-- The deltas of a message are about owners that rise: each meets the table before any of them.
use Rattle.std.proofs.Common.{◌≡◌, ◌+◌, ◌≤◌, ◌==◌, ℕ, Bool, true, false, cond, List, [], ◌∷◌, map, Option, Some, None, refl, ap, subst, arith}
use Rattle.std.specs.Prelude.{not, is_some, count_by, ◌&&◌}
use Rattle.std.specs.List.{filter_map, cons_option}
use Rattle.std.specs.FinMap.{get, insert, len, contains_key}
use Rattle.cg_types.specs.declared.limits.TheConstants.{MEMBER_LIMIT}
use Rattle.cg_types.specs.Rising.{is_past, rise_past, Rises}
use Rattle.cg_types.proofs.RisingLemmas.{first_of, second_of, rise_mapped}
use Rattle.cg_types.specs.Rows.{keys_of}
use Rattle.cg_types.specs.Map.{put_each}
use Rattle.cg_types.proofs.PastLemmas.{AgreePast, still_agree, agree_later}
use Rattle.cg_entry.specs.declared.entry.Absorbed.{Absorbed}
use Rattle.cg_entry.specs.declared.entry.Absorbed.TheVariants as absorbed
use Rattle.cg_entry.specs.Values.{EntryValue, DeltaValue}
use Rattle.cg_entry.specs.Taking.{meeting, taken_or_gap}
use Rattle.cg_entry.specs.declared.took.Took.TheVariants as took
use Rattle.cg_table.specs.Values.{TableValue, Entries}
use Rattle.cg_table.specs.Taking.{Change, change_by, after_change, take_one, needs_room}
use Rattle.cg_table.specs.Merge.{strangers}
use Rattle.cg_table.proofs.PlaceLaws.{row_key}
use Rattle.cg_table.proofs.RoomLemmas.{count_by-cons, len-put_each}
use Rattle.cg_messages.specs.declared.owner_delta.OwnerDelta.{OwnerDelta}
use Rattle.cg_messages.specs.declared.outcome.Outcome.{Outcome}
use Rattle.cg_messages.specs.Members.{endpoints_of_deltas, endpoints_of_outcomes}
use Rattle.cg_exchange.specs.Taking.{table_after, outcome_of, outcomes_of, held_after}
use Rattle.cg_exchange.specs.Changes.{row_changed}

-- the table that a table's member holds, with these entries
abbrev pub holding : TableValue → Entries → TableValue
holding t m = record { own = t.own; entries = m }

-- Deltas put into entries one after the other change them as each delta changes the table t.
pub record AreTakenAtOnce (t : TableValue) (m : Entries) (ds : List OwnerDelta) : Type 0 where
  pub after : table_after (holding t m) ds ≡ holding t (put_each (filter_map (row_changed t) ds) m)
  pub outcomes : outcomes_of (holding t m) ds ≡ map (outcome_of t) ds

module _ (t : TableValue) where
  -- the change of a delta, by whether it is about the own endpoint and by its outcome at the entry held
  abbrev changing : OwnerDelta → Bool → Absorbed → Change
  changing d own a = cond own (None, took.Own) (change_by d.endpoint a)

  -- one delta and those after it
  record AreTakenWith (m : Entries) (d : OwnerDelta) (ds : List OwnerDelta) (change : Change) : Type 0 where
    after : table_after (after_change (holding t m) change).0 ds ≡ holding t (put_each (cons_option change.0 (filter_map (row_changed t) ds)) m)
    outcomes : ◌≡◌ {A = List Outcome} (record { endpoint = d.endpoint; took = change.1 } ∷ outcomes_of (after_change (holding t m) change).0 ds)
        (record { endpoint = d.endpoint; took = change.1 } ∷ map (outcome_of t) ds)

  step : (m : Entries) (d : OwnerDelta) (ds : List OwnerDelta) (own : Bool) (a : Absorbed) → AgreePast t.entries (Some d.endpoint) m
      → ((n : Entries) → AgreePast t.entries (Some d.endpoint) n → AreTakenAtOnce t n ds) → AreTakenWith m d ds (changing d own a)
  step m d ds true a same rest = let r = rest m same in record { after = r.after; outcomes = ap (λ (os : List Outcome). record { endpoint = d.endpoint; took = took.Own } ∷ os) r.outcomes }
  step m d ds false (absorbed.Taken x) same rest =
      let r = rest (insert m d.endpoint x) (still_agree t.entries m d.endpoint x same) in record { after = r.after; outcomes = ap (λ (os : List Outcome). record { endpoint = d.endpoint; took = took.Taken } ∷ os) r.outcomes }
  step m d ds false absorbed.Old same rest = let r = rest m same in record { after = r.after; outcomes = ap (λ (os : List Outcome). record { endpoint = d.endpoint; took = took.Old } ∷ os) r.outcomes }
  step m d ds false absorbed.Gap same rest = let r = rest m same in record { after = r.after; outcomes = ap (λ (os : List Outcome). record { endpoint = d.endpoint; took = took.Gap } ∷ os) r.outcomes }

  taken_past : (m : Entries) (last : Option ℕ) (ds : List OwnerDelta) → rise_past last (endpoints_of_deltas ds) ≡ true → AgreePast t.entries last m → AreTakenAtOnce t m ds
  taken_past m last [] h same = record { after = refl; outcomes = refl }
  taken_past m last (d ∷ ds) h same =
      let here = first_of (is_past last d.endpoint) (rise_past (Some d.endpoint) (endpoints_of_deltas ds)) h in
      let rest = second_of (is_past last d.endpoint) (rise_past (Some d.endpoint) (endpoints_of_deltas ds)) h in
      let s = step m d ds (d.endpoint == t.own) (meeting (get t.entries d.endpoint) d.delta) (agree_later t.entries m last d.endpoint here same) (λ n agree. taken_past n (Some d.endpoint) ds rest agree) in
      record { after = rw (same d.endpoint here) s.after; outcomes = rw (same d.endpoint here) s.outcomes }

  -- deltas about owners that rise, taken one after the other, are taken as if each met the first table
  pub taken_at_once : (ds : List OwnerDelta) → Rises (endpoints_of_deltas ds) → AreTakenAtOnce t t.entries ds
  taken_at_once ds rise = taken_past t.entries None ds rise (λ k p. refl)

-- ---- the rows that deltas change

-- the rows that are changed rise, as the deltas do
pub rows_rise : (t : TableValue) (ds : List OwnerDelta) → Rises (endpoints_of_deltas ds) → Rises (keys_of (filter_map (row_changed t) ds))
rows_rise t ds rise = rise_mapped (row_changed t) (λ d. d.endpoint) (λ r. r.0) (λ d. row_key t d.endpoint d.delta) None ds rise

whole_by : (e : ℕ) (whole : Bool) (x : EntryValue) (r : ℕ × EntryValue) → (change_by e (taken_or_gap (cond whole (Some x) None))).0 ≡ Some r → (whole && true) ≡ true
whole_by e true x r is = refl
whole_by e false x r is = absurd cc

-- a row of an owner that was not held is that of a whole delta
stranger_by : (own : Bool) (e : ℕ) (held : Option EntryValue) (d : DeltaValue) (r : ℕ × EntryValue) → (cond own (None, took.Own) (change_by e (meeting held d))).0 ≡ Some r → not (is_some held) ≡ true
    → (d.above == 0 && not (is_some held)) ≡ true
stranger_by true e held d r is new = absurd cc
stranger_by false e (Some x) d r is new = absurd cc
stranger_by false e None d r is new = whole_by e (d.above == 0) (record { generation = d.generation; heartbeat = d.heartbeat; states = d.states }) r is

stranger_needs : (t : TableValue) (d : OwnerDelta) (r : ℕ × EntryValue) → row_changed t d ≡ Some r → not (contains_key t.entries r.0) ≡ true → needs_room t.entries d.endpoint d.delta ≡ true
stranger_needs t d r is new =
    stranger_by (d.endpoint == t.own) d.endpoint (get t.entries d.endpoint) d.delta r is (subst (λ (k : ℕ). not (contains_key t.entries k) ≡ true) (row_key t d.endpoint d.delta r is) new)

more_by : (q : Bool) (a b : ℕ) → a ≤ b → a ≤ cond q 1 0 + b
more_by true a b le = omega (arith, le)
more_by false a b le = omega (arith, le)

no_more_by : (p q : Bool) (a b : ℕ) → (p ≡ true → q ≡ true) → a ≤ b → cond p 1 0 + a ≤ cond q 1 0 + b
no_more_by true true a b h le = omega (arith, le)
no_more_by true false a b h le = let wrong = h refl in absurd cc
no_more_by false true a b h le = omega (arith, le)
no_more_by false false a b h le = omega (arith, le)

stranger_more : (t : TableValue) (d : OwnerDelta) (rows : List (ℕ × EntryValue)) (o : Option (ℕ × EntryValue)) (n : ℕ) → row_changed t d ≡ o → strangers t.entries rows ≤ n
    → strangers t.entries (cons_option o rows) ≤ cond (needs_room t.entries d.endpoint d.delta) 1 0 + n
stranger_more t d rows None n is few = more_by (needs_room t.entries d.endpoint d.delta) (strangers t.entries rows) n few
stranger_more t d rows (Some r) n is few =
    rw (count_by-cons (λ (e : ℕ × EntryValue). not (contains_key t.entries e.0)) r rows)
    (no_more_by (not (contains_key t.entries r.0)) (needs_room t.entries d.endpoint d.delta) (strangers t.entries rows) n (stranger_needs t d r is) few)

-- the rows of owners that were not held are no more than the deltas that need room
strangers_few : (t : TableValue) (ds : List OwnerDelta) → strangers t.entries (filter_map (row_changed t) ds) ≤ count_by (λ d. needs_room t.entries d.endpoint d.delta) ds
strangers_few t [] = omega arith
strangers_few t (d ∷ ds) =
    rw (count_by-cons (λ (d : OwnerDelta). needs_room t.entries d.endpoint d.delta) d ds)
    (stranger_more t d (filter_map (row_changed t) ds) (row_changed t d) (count_by (λ (d : OwnerDelta). needs_room t.entries d.endpoint d.delta) ds) refl (strangers_few t ds))

-- the number that would be held bounds the table with the rows put
pub rows_fit : (t : TableValue) (ds : List OwnerDelta) → held_after t ds ≤ MEMBER_LIMIT → len (put_each (filter_map (row_changed t) ds) t.entries) ≤ MEMBER_LIMIT
rows_fit t ds room = omega (arith, room, len-put_each (filter_map (row_changed t) ds) t.entries, strangers_few t ds)

-- ---- the owners of the outcomes

pub outcomes_about : (t : TableValue) (ds : List OwnerDelta) → endpoints_of_outcomes (outcomes_of t ds) ≡ endpoints_of_deltas ds
outcomes_about t [] = refl
outcomes_about t (d ∷ ds) = ap (λ (ks : List ℕ). d.endpoint ∷ ks) (outcomes_about (take_one t d.endpoint d.delta).0 ds)

-- the outcomes are about the owners of the deltas, so they rise
pub outcomes_rise : (t : TableValue) (ds : List OwnerDelta) → Rises (endpoints_of_deltas ds) → Rises (endpoints_of_outcomes (outcomes_of t ds))
outcomes_rise t ds rise = rw (outcomes_about t ds) rise
