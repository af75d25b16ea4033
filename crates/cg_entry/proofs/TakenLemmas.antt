-- The entry that a delta leads to if it is taken, key by key.
use Rattle.std.proofs.Common.{◌≡◌, ◌<◌, Bool, true, false, cond, Option, Some, None, refl, sym, subst, arith, nat_lt, ◌==◌, IfOk}
use Rattle.std.specs.Prelude.{nat_le, Result}
use Rattle.std.specs.Option.{option_or}
use Rattle.std.specs.Ordering.{nat_cmp}
use Rattle.std.specs.FinMap.{get, empty, get-empty}
use Rattle.std.proofs.lemmas.Bool.{lt-ltb, ltb-true, ltb-false, ne_eqb, eq-eqb}
use Rattle.std.proofs.lemmas.Result.{IfOk-weaker}
use Rattle.cg_entry.specs.declared.entry.Absorbed.{Absorbed}
use Rattle.cg_entry.specs.declared.entry.Absorbed.TheVariants.{Taken, Old, Gap}
use Rattle.cg_entry.specs.Values.{EntryValue, DeltaValue}
use Rattle.cg_entry.specs.Entry.{newest, greatest}
use Rattle.cg_entry.specs.Taking.{whole_entry, taken_or_gap, advanced_entry, meeting, states_under, IsTakenEntry, IfTaken}
use Rattle.cg_entry.proofs.PutLemmas.{get-overlay}

or_none : {X : Type 0} (o p : Option X) → p ≡ None → o ≡ option_or o p
or_none None p e = sym e
or_none (Some x) p e = refl

-- a whole delta, with nothing under it
whole_taken : (held : Option EntryValue) (d : DeltaValue) → states_under held d ≡ empty → IfTaken (taken_or_gap (whole_entry d)) (IsTakenEntry held d)
whole_taken held d nothing = go (d.above == 0)
  where
    go : (b : Bool) → IfTaken (taken_or_gap (cond b (Some (record { generation = d.generation; heartbeat = d.heartbeat; states = d.states })) None)) (IsTakenEntry held d)
    go true = record {
      generation = refl;
      heartbeat = refl;
      each = λ key. or_none (get d.states key) (get (states_under held d) key) (rw nothing (get-empty nat_cmp key));
    }
    go false = tt

module _ (e : EntryValue) (d : DeltaValue) where
  abbrev Fact : Absorbed → Type 0
  Fact a = IfTaken a (IsTakenEntry (Some e) d)

  -- a part, over the states held of its generation
  part_taken : e.generation ≡ d.generation → Fact (Taken (advanced_entry e d))
  part_taken same = record {
    generation = same;
    heartbeat = refl;
    each = λ key. rw (eq-eqb e.generation d.generation same) (get-overlay e.states d.states key);
  }

  by_version : (old gap : Bool) → e.generation ≡ d.generation → Fact (cond old Old (cond gap Gap (Taken (advanced_entry e d))))
  by_version true gap same = tt
  by_version false true same = tt
  by_version false false same = part_taken same

  later : nat_lt e.generation d.generation ≡ true → Fact (taken_or_gap (whole_entry d))
  later lt =
      let below = ltb-true e.generation d.generation lt in
      whole_taken (Some e) d (rw (ne_eqb e.generation d.generation (λ same. omega arith)) refl)

  by_generation : (old new : Bool) → nat_lt d.generation e.generation ≡ old → nat_lt e.generation d.generation ≡ new
      → Fact (cond old Old (cond new (taken_or_gap (whole_entry d)) (cond (nat_le (greatest d.heartbeat d.states) (newest e)) Old (cond (nat_lt (newest e) d.above) Gap (Taken (advanced_entry e d))))))
  by_generation true new o n = tt
  by_generation false true o n = later n
  by_generation false false o n =
      let high = ltb-false d.generation e.generation o in
      let low = ltb-false e.generation d.generation n in
      by_version (nat_le (greatest d.heartbeat d.states) (newest e)) (nat_lt (newest e) d.above) (omega arith)

taken_at : (held : Option EntryValue) (d : DeltaValue) → IfTaken (meeting held d) (IsTakenEntry held d)
taken_at None d = whole_taken None d refl
taken_at (Some e) d = by_generation e d (nat_lt d.generation e.generation) (nat_lt e.generation d.generation) refl refl

-- a caller's view of the outcome of a delta
if_is : {E : Type 0} (held : Option EntryValue) (d : DeltaValue) (r : Result Absorbed E) (x : Absorbed) → IfTaken x (IsTakenEntry held d) → IfOk r (λ a. a ≡ x) → IfOk r (λ a. IfTaken a (IsTakenEntry held d))
if_is held d r x fact = IfOk-weaker r (λ a. a ≡ x) (λ a. IfTaken a (IsTakenEntry held d)) (λ a is. subst (λ (y : Absorbed). IfTaken y (IsTakenEntry held d)) (sym is) fact)

pub taken_each : {E : Type 0} (held : Option EntryValue) (d : DeltaValue) (r : Result Absorbed E) → IfOk r (λ a. a ≡ meeting held d) → IfOk r (λ a. IfTaken a (IsTakenEntry held d))
taken_each held d r = if_is held d r (meeting held d) (taken_at held d)

-- nothing is held
pub unheld_taken : {E : Type 0} (held : Option EntryValue) (d : DeltaValue) (r : Result Absorbed E) → held ≡ None → IfOk r (λ a. a ≡ taken_or_gap (whole_entry d)) → IfOk r (λ a. IfTaken a (IsTakenEntry held d))
unheld_taken held d r none =
    if_is held d r (taken_or_gap (whole_entry d)) (subst (λ (h : Option EntryValue). IfTaken (taken_or_gap (whole_entry d)) (IsTakenEntry h d)) (sym none) (whole_taken None d refl))

module _ (held : Option EntryValue) (e : EntryValue) (d : DeltaValue) (some : held ≡ Some e) where
  -- an earlier generation is held
  pub later_taken : {E : Type 0} (r : Result Absorbed E) → e.generation < d.generation → IfOk r (λ a. a ≡ taken_or_gap (whole_entry d)) → IfOk r (λ a. IfTaken a (IsTakenEntry held d))
  later_taken r lt =
      if_is held d r (taken_or_gap (whole_entry d))
      (subst (λ (h : Option EntryValue). IfTaken (taken_or_gap (whole_entry d)) (IsTakenEntry h d)) (sym some) (later e d (lt-ltb e.generation d.generation lt)))

  -- its generation is held
  pub advanced_taken : (after : EntryValue) → e.generation ≡ d.generation → after ≡ advanced_entry e d → IsTakenEntry held d after
  advanced_taken after same is =
      subst (λ (x : EntryValue). IsTakenEntry held d x) (sym is) (subst (λ (h : Option EntryValue). IsTakenEntry h d (advanced_entry e d)) (sym some) (part_taken e d same))
