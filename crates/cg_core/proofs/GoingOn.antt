-- The puts between a table and one that goes on from it.
use Rattle.std.proofs.Common.{◌≡◌, ℕ, inl, inr, Bool, true, false, cond, List, [], ◌∷◌, Option, Some, None, refl, sym, ap, ◌∙◌, nat_lt, eqb-true}
use Rattle.std.specs.Prelude.{◌||◌, ◌==◌, not}
use Rattle.std.specs.List.{filter}
use Rattle.std.specs.Ordering.{nat_cmp}
use Rattle.std.specs.Cmp.{nat_cmp_total, eq_by_cmp_equiv}
use Rattle.std.specs.FinMap.{get, entries, entries_sorted, get-entries, same_map, nat_cmp-IsAntisymmetric}
use Rattle.std.specs.FinMap.Entries.{find}
use Rattle.std.proofs.lemmas.Bool.{ltb-true}
use Rattle.cg_types.specs.Rising.{is_past, rise_past}
use Rattle.cg_types.proofs.RisingLemmas.{keys_of, both, first_of, second_of, past_trans, other_key, rise_sorted}
use Rattle.cg_types.proofs.PastLemmas.{AgreePast, still_agree, agree_later}
use Rattle.cg_entry.specs.Values.{EntryValue}
use Rattle.cg_table.specs.Values.{TableValue}
use Rattle.cg_table.specs.Merge.{is_ahead, later_of, merge_of}
use Rattle.cg_table.proofs.MergeLemmas.{get-merged, later_rise}
use Rattle.cg_table.specs.Puts.{with_put, goes_on, is_in_order, keep_order}
use Rattle.cg_core.proofs.OrderLemmas.{same_goes_on}
use Rattle.cg_core.proofs.PutLemmas.{Moves}
use Rattle.cg_core.specs.Laws.{ArePuts}

-- Each entry moves, and the own one goes on.
pub record GoesOn (before after : TableValue) : Type 0 where
  pub own_same : after.own ≡ before.own
  pub moves : (q : ℕ) → Moves (get before.entries q) (get after.entries q)
  pub own_goes : (e : EntryValue) → get after.entries before.own ≡ Some e → goes_on (get before.entries before.own) e ≡ true

pub stays_put : (t : TableValue) → GoesOn t t
stays_put t = record {
  own_same = refl;
  moves = λ q. inl refl;
  own_goes = λ e is. rw is (same_goes_on e);
}

-- ---- puts lead to it

later_by : (b : Bool) (x : Option EntryValue) (e : EntryValue) → x ≡ Some e → cond b (Some e) x ≡ Some e
later_by true x e is = refl
later_by false x e is = is

later_moves : (x y : Option EntryValue) → Moves x y → later_of x y ≡ y
later_moves x None (inl is) = sym is
later_moves x (Some e) (inl is) = later_by (is_ahead x e) x e (sym is)
later_moves x y (inr m) = rw (m.1.0, m.1.1) refl

put_leads : (before after : TableValue) → GoesOn before after → merge_of before.entries after.entries ≡ after.entries
put_leads before after g = same_map nat_cmp_total nat_cmp-IsAntisymmetric (merge_of before.entries after.entries) after.entries (λ q.
    get-merged before.entries after.entries q ∙ later_moves (get before.entries q) (get after.entries q) (g.moves q))

-- ---- puts keep the order

module _ (before after : TableValue) (g : GoesOn before after) where
  -- past an owner, entries are those of the old table, and the others are left of the new one
  record Past (last : Option ℕ) (t : TableValue) (es : List (ℕ × EntryValue)) : Type 0 where
    own_is : t.own ≡ before.own
    old : AgreePast before.entries last t.entries
    new : (k : ℕ) → is_past last k ≡ true → find nat_cmp k es ≡ get after.entries k

  found_later : (e : ℕ × EntryValue) (es : List (ℕ × EntryValue)) (k : ℕ) → nat_lt e.0 k ≡ true → find nat_cmp k (e ∷ es) ≡ find nat_cmp k es
  found_later e es k lt = rw (other_key e.0 k lt) refl

  past_skip : (last : Option ℕ) (t : TableValue) (e : ℕ × EntryValue) (es : List (ℕ × EntryValue)) → is_past last e.0 ≡ true → Past last t (e ∷ es) → Past (Some e.0) t es
  past_skip last t e es here p = record {
    own_is = p.own_is;
    old = agree_later before.entries t.entries last e.0 here p.old;
    new = λ k lt. sym (found_later e es k lt) ∙ p.new k (past_trans last e.0 k here (ltb-true e.0 k lt));
  }

  past_put : (last : Option ℕ) (t : TableValue) (e : ℕ × EntryValue) (es : List (ℕ × EntryValue)) → is_past last e.0 ≡ true → Past last t (e ∷ es) → Past (Some e.0) (with_put t e) es
  past_put last t e es here p = record {
    own_is = p.own_is;
    old = still_agree before.entries t.entries e.0 e.1 (agree_later before.entries t.entries last e.0 here p.old);
    new = λ k lt. sym (found_later e es k lt) ∙ p.new k (past_trans last e.0 k here (ltb-true e.0 k lt));
  }

  own_by : (t : TableValue) (e : ℕ × EntryValue) (b : Bool) → (e.0 == t.own) ≡ b → t.own ≡ before.own → get t.entries e.0 ≡ get before.entries e.0 → Some e.1 ≡ get after.entries e.0 → (not b || goes_on (get t.entries e.0) e.1) ≡ true
  own_by t e true is own old new =
      let here : e.0 ≡ before.own = eqb-true e.0 t.own is ∙ own in
      ap (λ (o : Option EntryValue). goes_on o e.1) (old ∙ ap (get before.entries) here) ∙ g.own_goes e.1 (sym (new ∙ ap (get after.entries) here))
  own_by t e false is own old new = refl

  in_order : (last : Option ℕ) (t : TableValue) (e : ℕ × EntryValue) (es : List (ℕ × EntryValue)) → is_past last e.0 ≡ true → Past last t (e ∷ es) → is_ahead (get before.entries e.0) e.1 ≡ true → is_in_order t e ≡ true
  in_order last t e es here p ahead =
      let old = p.old e.0 here in
      let found : find nat_cmp e.0 (e ∷ es) ≡ Some e.1 = rw ((eq_by_cmp_equiv nat_cmp_total).refl e.0) refl in
      both (is_ahead (get t.entries e.0) e.1) (not (e.0 == t.own) || goes_on (get t.entries e.0) e.1) (ap (λ (o : Option EntryValue). is_ahead o e.1) old ∙ ahead)
      (own_by t e (e.0 == t.own) refl p.own_is old (sym found ∙ p.new e.0 here))

  abbrev is_put : ℕ × EntryValue → Bool
  is_put e = is_ahead (get before.entries e.0) e.1

  kept_by : (last : Option ℕ) (t : TableValue) (e : ℕ × EntryValue) (es : List (ℕ × EntryValue)) (b : Bool) → is_put e ≡ b → is_past last e.0 ≡ true → Past last t (e ∷ es)
      → ((u : TableValue) → Past (Some e.0) u es → keep_order u (filter is_put es) ≡ true) → keep_order t (cond b (e ∷ filter is_put es) (filter is_put es)) ≡ true
  kept_by last t e es true ahead here p rest = both (is_in_order t e) (keep_order (with_put t e) (filter is_put es)) (in_order last t e es here p ahead) (rest (with_put t e) (past_put last t e es here p))
  kept_by last t e es false ahead here p rest = rest t (past_skip last t e es here p)

  kept : (last : Option ℕ) (t : TableValue) (es : List (ℕ × EntryValue)) → rise_past last (keys_of es) ≡ true → Past last t es → keep_order t (filter is_put es) ≡ true
  kept last t [] rise p = refl
  kept last t (e ∷ es) rise p =
      let here = first_of (is_past last e.0) (rise_past (Some e.0) (keys_of es)) rise in
      let rest = second_of (is_past last e.0) (rise_past (Some e.0) (keys_of es)) rise in
      kept_by last t e es (is_put e) refl here p (λ u q. kept (Some e.0) u es rest q)

  pub are_puts : ArePuts before after
  are_puts = record {
    lead = λ i. record { own = sym g.own_same i; entries = put_leads before after g i };
    rise = later_rise before.entries after.entries;
    order = kept None before (entries after.entries) (rise_sorted (entries after.entries) (entries_sorted after.entries)) (record {
      own_is = refl;
      old = λ k p. refl;
      new = λ k p. sym (get-entries after.entries k);
    });
  }
