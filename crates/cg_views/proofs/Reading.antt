-- Reads begin with the earlier ones, and a key that was told is in each read from then on.
use Rattle.std.proofs.Common.{◌≡◌, ℕ, Bool, true, false, cond, List, [], ◌∷◌, ◌++◌, Option, Some, None, refl, sym, ap, ◌∙◌, subst, append_assoc, arith, eq-eqb}
use Rattle.std.specs.Prelude.{◌||◌, ◌==◌, not, nat_le}
use Rattle.std.specs.List.{list_all}
use Rattle.std.specs.Ordering.{nat_cmp, eq_by_cmp}
use Rattle.std.specs.Cmp.{nat_cmp_total, eq_by_cmp_equiv}
use Rattle.std.specs.FinMap.{get, entries, get-entries, get-insert}
use Rattle.std.specs.FinMap.Entries.{find}
use Rattle.std.proofs.lemmas.Bool.{le-leb}
use Rattle.std.proofs.lemmas.Bool.Decides.{nat_tests}
use Rattle.std.proofs.lemmas.Option.{same_Some}
use Rattle.cg_types.proofs.RisingLemmas.{first_of, second_of, same_tied}
use Rattle.cg_entry.specs.Versioned.{Versioned, States}
use Rattle.cg_entry.specs.Values.{EntryValue}
use Rattle.cg_entry.specs.Entry.{is_later}
use Rattle.cg_table.specs.Values.{TableValue}
use Rattle.cg_table.specs.Merge.{is_ahead}
use Rattle.cg_table.specs.Puts.{Put, with_put, with_puts, is_held_from, keeps_keys, goes_on, is_in_order, keep_order}
use Rattle.cg_table.proofs.PutsLemmas.{with_puts-append, keep_order-rest}
use Rattle.cg_views.specs.Reading.{is_reached, ReadsNeverFall, state_in, OwnHasFrom, ToldSetsAreRead}

-- ---- keys that are kept

from_on : (v w : ℕ) (o : Option Versioned) → nat_le v w ≡ true → is_held_from w o ≡ true → is_held_from v o ≡ true
from_on v w None le held = absurd cc
from_on v w (Some s) le held = grind (arith, nat_tests)

tested : (f : ℕ × Versioned → Bool) (es : List (ℕ × Versioned)) (k : ℕ) (s : Versioned) → list_all f es ≡ true → find nat_cmp k es ≡ Some s → f (k, s) ≡ true
tested f [] k s all is = absurd cc
tested f (e ∷ es) k s all is = by (tested f es k s (second_of (f e) (list_all f es) all)) (eq_by_cmp nat_cmp k e.0) refl is
  where
    by : (find nat_cmp k es ≡ Some s → f (k, s) ≡ true) → (b : Bool) → eq_by_cmp nat_cmp k e.0 ≡ b → cond b (Some e.1) (find nat_cmp k es) ≡ Some s → f (k, s) ≡ true
    by rest true here at = ap f ((λ i. (same_tied k e.0 here i, sym (same_Some e.1 s at) i))) ∙ first_of (f e) (list_all f es) all
    by rest false past at = rest at

kept_key : (old new : States) (k : ℕ) (s : Versioned) → keeps_keys old new ≡ true → get old k ≡ Some s → is_held_from s.version (get new k) ≡ true
kept_key old new k s keeps is = tested (λ s. is_held_from s.1.version (get new s.0)) (entries old) k s keeps (sym (get-entries old k) ∙ is)

kept_from : (v : ℕ) (old new : States) (k : ℕ) (o : Option Versioned) → get old k ≡ o → keeps_keys old new ≡ true → is_held_from v o ≡ true → is_held_from v (get new k) ≡ true
kept_from v old new k None is keeps held = absurd cc
kept_from v old new k (Some s) is keeps held = from_on v s.version (get new k) held (kept_key old new k s keeps is)

goes_from : (v key : ℕ) (held : Option EntryValue) (e : EntryValue) → goes_on held e ≡ true → is_held_from v (state_in key held) ≡ true → is_held_from v (state_in key (Some e)) ≡ true
goes_from v key None e on from = absurd cc
goes_from v key (Some x) e on from = kept_from v x.states e.states key (get x.states key) refl (second_of (e.generation == x.generation) (keeps_keys x.states e.states) on) from

-- ---- puts that keep the order

own_goes : (t : TableValue) (p : Put) → is_in_order t p ≡ true → p.0 ≡ t.own → goes_on (get t.entries p.0) p.1 ≡ true
own_goes t p order own = by (p.0 == t.own) (eq-eqb p.0 t.own own) (second_of (is_ahead (get t.entries p.0) p.1) (not (p.0 == t.own) || goes_on (get t.entries p.0) p.1) order)
  where
    by : (b : Bool) → b ≡ true → (not b || goes_on (get t.entries p.0) p.1) ≡ true → goes_on (get t.entries p.0) p.1 ≡ true
    by true is on = on
    by false is on = absurd cc

put_from : (t : TableValue) (p : Put) (key v : ℕ) → is_in_order t p ≡ true → OwnHasFrom t key v → OwnHasFrom (with_put t p) key v
put_from t p key v order from = ap (λ o. is_held_from v (state_in key o)) (get-insert nat_cmp_total t.entries p.0 p.1 t.own) ∙ by (eq_by_cmp nat_cmp t.own p.0) refl
  where
    by : (b : Bool) → eq_by_cmp nat_cmp t.own p.0 ≡ b → is_held_from v (state_in key (cond b (Some p.1) (get t.entries t.own))) ≡ true
    by true here =
        let own : p.0 ≡ t.own = sym (same_tied t.own p.0 here) in
        goes_from v key (get t.entries p.0) p.1 (own_goes t p order own) (ap (λ k. is_held_from v (state_in key (get t.entries k))) own ∙ from)
    by false past = from

puts_from : (t : TableValue) (ps : List Put) (key v : ℕ) → keep_order t ps ≡ true → OwnHasFrom t key v → OwnHasFrom (with_puts t ps) key v
puts_from t [] key v order from = from
puts_from t (p ∷ ps) key v order from =
    puts_from (with_put t p) ps key v (second_of (is_in_order t p) (keep_order (with_put t p) ps) order) (put_from t p key v (first_of (is_in_order t p) (keep_order (with_put t p) ps) order) from)

-- ---- told puts are read

put_here : (t : TableValue) (e : EntryValue) (key v : ℕ) → is_held_from v (get e.states key) ≡ true → OwnHasFrom (with_put t (t.own, e)) key v
put_here t e key v from = ap (λ o. is_held_from v (state_in key o)) (get-insert nat_cmp_total t.entries t.own e t.own) ∙ by (eq_by_cmp nat_cmp t.own t.own) (itself t.own)
  where
    itself : (k : ℕ) → eq_by_cmp nat_cmp k k ≡ true
    itself k = (eq_by_cmp_equiv nat_cmp_total).refl k

    by : (b : Bool) → b ≡ true → is_held_from v (state_in key (cond b (Some e) (get t.entries t.own))) ≡ true
    by true is = from
    by false is = absurd cc

told_by : (opening : TableValue) (before after read : List Put) (e : EntryValue) (key v : ℕ) → read ≡ before ++ (opening.own, e) ∷ after → keep_order opening read ≡ true → is_held_from v (get e.states key) ≡ true
    → OwnHasFrom (with_puts opening read) key v
told_by opening before after read e key v is order from =
    let t = with_puts opening before in
    let rest : keep_order t ((opening.own, e) ∷ after) ≡ true = keep_order-rest opening before ((opening.own, e) ∷ after) (ap (keep_order opening) (sym is) ∙ order) in
    let here = puts_from (with_put t (opening.own, e)) after key v (second_of (is_in_order t (opening.own, e)) (keep_order (with_put t (opening.own, e)) after) rest) (put_here t e key v from) in
    subst (λ u. OwnHasFrom u key v) (sym (ap (with_puts opening) is ∙ with_puts-append opening before ((opening.own, e) ∷ after))) here

pub told_sets_are_read : ToldSetsAreRead
told_sets_are_read opening told read key text version order begins has =
    let at = has.stands in
    let is : read ≡ at.0 ++ (opening.own, has.entry) ∷ (at.1 ++ begins.0) = begins.1 ∙ ap (λ l. l ++ begins.0) at.2 ∙ append_assoc at.0 ((opening.own, has.entry) ∷ at.1) begins.0 in
    told_by opening at.0 (at.1 ++ begins.0) read has.entry key version is order (ap (is_held_from version) has.given ∙ le-leb version version (omega arith))

-- ---- entries never fall

passed : (x y e : EntryValue) → is_later y x ≡ true → is_later e x ≡ false → is_later e y ≡ false
passed x y e later not = grind (arith, nat_tests)

reached_by : (held : Option EntryValue) (y e : EntryValue) → is_ahead held y ≡ true → is_reached held e ≡ true → is_reached (Some y) e ≡ true
reached_by None y e ahead at = absurd cc
reached_by (Some x) y e ahead at = by (is_later e x) refl at
  where
    by : (b : Bool) → is_later e x ≡ b → not b ≡ true → not (is_later e y) ≡ true
    by true is at = absurd cc
    by false is at = ap not (passed x y e ahead is)

put_reached : (t : TableValue) (p : Put) (owner : ℕ) (e : EntryValue) → is_in_order t p ≡ true → is_reached (get t.entries owner) e ≡ true → is_reached (get (with_put t p).entries owner) e ≡ true
put_reached t p owner e order at = ap (λ o. is_reached o e) (get-insert nat_cmp_total t.entries p.0 p.1 owner) ∙ by (eq_by_cmp nat_cmp owner p.0) refl
  where
    by : (b : Bool) → eq_by_cmp nat_cmp owner p.0 ≡ b → is_reached (cond b (Some p.1) (get t.entries owner)) e ≡ true
    by true here =
        let same = same_tied owner p.0 here in
        reached_by (get t.entries p.0) p.1 e (first_of (is_ahead (get t.entries p.0) p.1) (not (p.0 == t.own) || goes_on (get t.entries p.0) p.1) order) (ap (λ k. is_reached (get t.entries k) e) (sym same) ∙ at)
    by false past = at

puts_reached : (t : TableValue) (ps : List Put) (owner : ℕ) (e : EntryValue) → keep_order t ps ≡ true → is_reached (get t.entries owner) e ≡ true → is_reached (get (with_puts t ps).entries owner) e ≡ true
puts_reached t [] owner e order at = at
puts_reached t (p ∷ ps) owner e order at =
    puts_reached (with_put t p) ps owner e (second_of (is_in_order t p) (keep_order (with_put t p) ps) order) (put_reached t p owner e (first_of (is_in_order t p) (keep_order (with_put t p) ps) order) at)

itself : (e : EntryValue) → is_later e e ≡ false
itself e = grind (arith, nat_tests)

pub reads_never_fall : ReadsNeverFall
reads_never_fall opening first next owner e order begins is =
    let t = with_puts opening first in
    let rest = keep_order-rest opening first begins.0 (ap (keep_order opening) (sym begins.1) ∙ order) in
    let here : is_reached (get t.entries owner) e ≡ true = ap (λ o. is_reached o e) is ∙ ap not (itself e) in
    ap (λ ps. is_reached (get (with_puts opening ps).entries owner) e) begins.1
    ∙ ap (λ (u : TableValue). is_reached (get u.entries owner) e) (with_puts-append opening first begins.0)
    ∙ puts_reached t begins.0 owner e rest here
