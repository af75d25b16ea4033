-- Puts of whole entries, one after the other, and the rows of some owners.
use Rattle.std.proofs.Common.{◌≡◌, ℕ, Bool, true, false, cond, List, [], ◌∷◌, ◌++◌, Option, Some, None, refl, sym, ap, ◌∙◌, arith}
use Rattle.std.specs.Prelude.{⊤}
use Rattle.std.specs.Option.{option_map, option_or}
use Rattle.std.specs.Ordering.{nat_cmp, eq_by_cmp}
use Rattle.std.specs.Cmp.{nat_cmp_total, eq_by_cmp_equiv}
use Rattle.std.specs.FinMap.{get, insert, entries, entries_sorted, from_sorted, get-entries, get-insert, same_map, nat_cmp-IsAntisymmetric}
use Rattle.std.specs.FinMap.Entries.{find}
use Rattle.std.proofs.lemmas.List.{map-id}
use Rattle.std.proofs.lemmas.Option.{same_Some}
use Rattle.std.proofs.lemmas.Bool.Decides.{nat_tests}
use Rattle.std.proofs.lemmas.Map.Entries.{option_filter}
use Rattle.cg_types.specs.Rising.{is_past, rise_past, Rises}
use Rattle.cg_types.proofs.RisingLemmas.{first_of, second_of, both, rise_sorted, rise_mapped, entries_rising, get_rising, find_past}
use Rattle.cg_types.specs.Rows.{keys_of}
use Rattle.cg_types.specs.Map.{put_each}
use Rattle.cg_entry.specs.Values.{EntryValue}
use Rattle.cg_entry.specs.Entry.{is_later}
use Rattle.cg_entry.proofs.KeyLemmas.{find-filter}
use Rattle.cg_table.specs.Values.{TableValue, Entries}
use Rattle.cg_table.specs.Merge.{is_ahead, later_entries}
use Rattle.cg_table.specs.Puts.{Put, rising_puts, with_put, with_puts, row_at, rows_at, is_in_order, keep_order}
use Rattle.cg_table.proofs.MergeLemmas.{get-put_each, later_rise}

-- ---- puts in two parts

-- puts joined lead on
pub with_puts-append : (t : TableValue) (ps qs : List Put) → with_puts t (ps ++ qs) ≡ with_puts (with_puts t ps) qs
with_puts-append t [] qs = refl
with_puts-append t (p ∷ ps) qs = with_puts-append (with_put t p) ps qs

-- their order stays
pub keep_order-append : (t : TableValue) (ps qs : List Put) → keep_order t ps ≡ true → keep_order (with_puts t ps) qs ≡ true → keep_order t (ps ++ qs) ≡ true
keep_order-append t [] qs p q = q
keep_order-append t (x ∷ xs) qs p q =
    both (is_in_order t x) (keep_order (with_put t x) (xs ++ qs)) (first_of (is_in_order t x) (keep_order (with_put t x) xs) p)
    (keep_order-append (with_put t x) xs qs (second_of (is_in_order t x) (keep_order (with_put t x) xs) p) q)

-- puts that follow others in order are in order at the table that those lead to
pub keep_order-rest : (t : TableValue) (ps qs : List Put) → keep_order t (ps ++ qs) ≡ true → keep_order (with_puts t ps) qs ≡ true
keep_order-rest t [] qs order = order
keep_order-rest t (x ∷ xs) qs order = keep_order-rest (with_put t x) xs qs (second_of (is_in_order t x) (keep_order (with_put t x) (xs ++ qs)) order)

-- ---- the rows of some owners

same_owner : (owner : ℕ) (held : Option EntryValue) (p : Put) → option_map (λ e. (owner, e)) held ≡ Some p → p.0 ≡ owner
same_owner owner (Some e) p is = ap (λ (q : Put). q.0) (sym (same_Some (owner, e) p is))
same_owner owner None p is = absurd cc

-- the rows of owners that rise, rise
pub rows_at-rise : (m : Entries) (owners : List ℕ) → Rises owners → Rises (keys_of (rows_at m owners))
rows_at-rise m owners rise = rise_mapped (row_at m) (λ owner. owner) (λ p. p.0) (λ owner p is. same_owner owner (get m owner) p is) None owners (ap (rise_past None) (map-id owners) ∙ rise)

-- ---- rows that are put are the puts

not_later : (x : EntryValue) → is_later x x ≡ false
not_later x = grind (arith, nat_tests)

not_put : (held : Option EntryValue) → option_filter (is_ahead held) held ≡ None
not_put None = refl
not_put (Some x) = rw (not_later x) refl

put_by : (held row : Option EntryValue) → ((e : EntryValue) → row ≡ Some e → is_ahead held e ≡ true) → option_filter (is_ahead held) (option_or row held) ≡ row
put_by held None ahead = not_put held
put_by held (Some e) ahead = rw (ahead e refl) refl

-- if rows that rise, each later than the entry held, are put, they are the later entries
pub later_entries-put_each : (m : Entries) (rows : List Put) → Rises (keys_of rows) → ((q : ℕ) (e : EntryValue) → find nat_cmp q rows ≡ Some e → is_ahead (get m q) e ≡ true)
    → later_entries m (put_each rows m) ≡ rows
later_entries-put_each m rows rise ahead =
    let after = put_each rows m in
    let ps = later_entries m after in
    let found : (q : ℕ) → find nat_cmp q ps ≡ find nat_cmp q rows = λ q.
    find-filter (λ (x : Put). is_ahead (get m x.0) x.1) q None (entries after) (rise_sorted (entries after) (entries_sorted after))
    ∙ ap (option_filter (is_ahead (get m q))) (sym (get-entries after q) ∙ get-put_each q None rows m rise)
    ∙ put_by (get m q) (find nat_cmp q rows) (ahead q) in
    let same : from_sorted {R = nat_cmp} ps ≡ from_sorted {R = nat_cmp} rows = same_map nat_cmp_total nat_cmp-IsAntisymmetric (from_sorted {R = nat_cmp} ps) (from_sorted {R = nat_cmp} rows) (λ q.
    get_rising ps q (later_rise m after) ∙ found q ∙ sym (get_rising rows q rise)) in
    sym (entries_rising ps (later_rise m after)) ∙ ap (λ (n : Entries). entries n) same ∙ entries_rising rows rise

-- Each row is held.
abbrev pub AreHeld : Entries → List Put → Type 0
AreHeld m [] = ⊤
AreHeld m (p ∷ ps) = (get m p.0 ≡ Some p.1) × AreHeld m ps

held_past : (last : Option ℕ) (rows : List Put) (m : Entries) → rise_past last (keys_of rows) ≡ true → AreHeld (put_each rows m) rows
held_past last [] m rise = tt
held_past last (p ∷ ps) m rise =
    let rest = second_of (is_past last p.0) (rise_past (Some p.0) (keys_of ps)) rise in
    let tied : eq_by_cmp nat_cmp p.0 p.0 ≡ true = (eq_by_cmp_equiv nat_cmp_total).refl p.0 in
    let here : get (insert m p.0 p.1) p.0 ≡ Some p.1 = get-insert nat_cmp_total m p.0 p.1 p.0 ∙ rw tied refl in (
      get-put_each p.0 (Some p.0) ps (insert m p.0 p.1) rest ∙ rw (find_past p.0 p.0 ps tied rest) here,
      held_past (Some p.0) ps (insert m p.0 p.1) rest,
    )

-- rows that rise and are put are held
pub put_each-held : (rows : List Put) (m : Entries) → Rises (keys_of rows) → AreHeld (put_each rows m) rows
put_each-held rows m rise = held_past None rows m rise

-- ---- puts of a list

-- a list whose owners rise gives its puts
pub rising_is : (ps : List Put) (o : Option (List Put)) → o ≡ rising_puts ps → Rises (keys_of ps) → o ≡ Some ps
rising_is ps o is rise = is ∙ ap (λ (b : Bool). cond b (Some ps) None) rise
