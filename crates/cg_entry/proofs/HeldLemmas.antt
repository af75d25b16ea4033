-- States as a map: the entry at a place, at a key, and one map laid over another.
use Rattle.std.proofs.Common.{◌≡◌, ℕ, ◌+◌, ◌<◌, ◌≤◌, true, false, cond, List, [], ◌∷◌, ◌++◌, take, Option, Some, None, refl, sym, ap, subst, ◌∙◌, arith, nat_lt, inl, inr}
use Rattle.std.specs.Prelude.{is_some, slice_get}
use Rattle.std.specs.List.{AllByRecursion}
use Rattle.std.specs.Option.{option_or}
use Rattle.std.specs.Ordering.{nat_cmp, eq_by_cmp}
use Rattle.std.specs.Cmp.{nat_cmp_total}
use Rattle.std.specs.FinMap.Entries.{find}
use Rattle.std.specs.FinMap as finmap
use Rattle.std.specs.FinMap.{get, entries, empty, insert, same_map, same_entries_map, nat_cmp-IsAntisymmetric, get-entries, get-empty, get-insert, entries-insert, entries-from_sorted, len-entries}
use Rattle.std.proofs.lemmas.Bool.{lt-ltb, le-ltb, cases_order, cases_lt}
use Rattle.std.proofs.lemmas.Bool.Decides.{nat_tests}
use Rattle.std.proofs.lemmas.List.{take_more, take_all}
use Rattle.std.proofs.lemmas.Option.{slice_get_within, get_or_from_slice_get}
use Rattle.cg_types.specs.Numbers.{IsKey}
use Rattle.cg_types.proofs.RisingLemmas.{same_tied, from_sorted-none}
use Rattle.cg_entry.specs.declared.state.State.{State}
use Rattle.cg_entry.specs.Contents.{IsState, AreStates}
use Rattle.cg_entry.specs.Entry.{overlay}
use Rattle.cg_entry.specs.State.{pair}
use Rattle.cg_entry.specs.Versioned.{Versioned, States}
use Rattle.cg_entry.proofs.PutLemmas.{get-overlay}
use Rattle.cg_entry.proofs.CoverLemmas.{overlay_covered}
use Rattle.cg_entry.proofs.PushLemmas.{put_last, all_push}

-- ---- entries at places

pub take_next : {X : Type 0} (es : List X) (i : ℕ) (x : X) → slice_get es i ≡ Some x → take (i + 1) es ≡ take i es ++ x ∷ []
take_next es i x is = take_more es i x (slice_get_within es i x is) ∙ ap (λ y. take i es ++ y ∷ []) (get_or_from_slice_get es i x x is)

pub take_same : {X : Type 0} (es fs : List X) (i : ℕ) (x y : X) → take i es ≡ take i fs → slice_get es i ≡ Some x → slice_get fs i ≡ Some y → x ≡ y → take (i + 1) es ≡ take (i + 1) fs
take_same es fs i x y so_far is_x is_y same = take_next es i x is_x ∙ (λ j. so_far j ++ same j ∷ []) ∙ sym (take_next fs i y is_y)

pub same_whole : (m n : States) (i : ℕ) → take i (entries m) ≡ take i (entries n) → finmap.len m ≤ i → finmap.len n ≤ i → m ≡ n
same_whole m n i so_far lm ln =
    same_entries_map m n (sym (take_all i (entries m) (omega (arith, lm, len-entries m))) ∙ so_far ∙ take_all i (entries n) (omega (arith, ln, len-entries n)))

some_is : {X : Type 0} (x y : X) → Some x ≡ Some y → x ≡ y
some_is x y e = cc

pub same_state : (a b : State) → pair a ≡ pair b → a ≡ b
same_state a b e = ap (λ (p : ℕ × Versioned). record { key = p.0; version = p.1.version; text = p.1.text }) e

-- states at one place of one map are one
pub one_state : (m n : States) (i : ℕ) (a b : State) → m ≡ n → slice_get (entries m) i ≡ Some (pair a) → slice_get (entries n) i ≡ Some (pair b) → a ≡ b
one_state m n i a b same is_a is_b =
    same_state a b (some_is (pair a) (pair b) (sym is_a ∙ ap (λ (k : States). slice_get (entries k) i) same ∙ is_b))

-- ---- laid over one another

pub shown_new : (old new : States) (q : ℕ) (v : Versioned) → get new q ≡ Some v → get (overlay old new) q ≡ Some v
shown_new old new q v is = get-overlay old new q ∙ ap (λ (o : Option Versioned). option_or o (get old q)) is

pub shown_old : (old new : States) (q : ℕ) → get new q ≡ None → get (overlay old new) q ≡ get old q
shown_old old new q none = get-overlay old new q ∙ ap (λ (o : Option Versioned). option_or o (get old q)) none

find_in_range : (q : ℕ) (es : List (ℕ × Versioned)) → AllByRecursion IsState es → (IsKey q → ⊥) → find nat_cmp q es ≡ None
find_in_range q [] all out = refl
find_in_range q (e ∷ es) all out =
    elim (eq_by_cmp nat_cmp q e.0) as (λ b. eq_by_cmp nat_cmp q e.0 ≡ b → cond b (Some e.1) (find nat_cmp q es) ≡ None) [
      | true ↦ λ tied. absurd (out (subst IsKey (sym (same_tied q e.0 tied)) all.0.key))
      | false ↦ λ tied. find_in_range q es all.1 out
    ] refl

get_in_range : (m : States) (q : ℕ) → AreStates m → (IsKey q → ⊥) → get m q ≡ None
get_in_range m q all out = get-entries m q ∙ find_in_range q (entries m) all out

pub over_in_range : (old new : States) (q : ℕ) → AreStates old → AreStates new → (IsKey q → ⊥) → get (overlay old new) q ≡ None
over_in_range old new q olds news out = shown_old old new q (get_in_range new q news out) ∙ get_in_range old q olds out

-- a map that shows what another one has at the keys below n, and has no other keys
pub record Shows (m over : States) (n : ℕ) : Type 0 where
  pub shown : (q : ℕ) → get m q ≡ cond (nat_lt q n) (get over q) None
  pub below : AllByRecursion (λ (e : ℕ × Versioned). e.0 < n) (entries m)

pub shows_none : (m over : States) → m ≡ empty → Shows m over 0
shows_none m over is = record {
  shown = λ q. ap (λ (k : States). get k q) is ∙ get-empty nat_cmp q ∙ ap (λ b. cond b (get over q) None) (sym (le-ltb q 0 (omega arith)));
  below = subst (λ es. AllByRecursion (λ (e : ℕ × Versioned). e.0 < 0) es) (sym (ap entries is ∙ ap entries (sym from_sorted-none) ∙ entries-from_sorted nat_cmp [] tt)) tt;
}

all_lower : (n m : ℕ) (es : List (ℕ × Versioned)) → n ≤ m → AllByRecursion (λ (e : ℕ × Versioned). e.0 < n) es → AllByRecursion (λ (e : ℕ × Versioned). e.0 < m) es
all_lower n m [] le all = tt
all_lower n m (e ∷ es) le all = (omega (arith, all.0), all_lower n m es le all.1)

pub shows_next : (m over : States) (n : ℕ) → Shows m over n → get over n ≡ None → Shows m over (n + 1)
shows_next m over n s none = record {
  shown = λ q. s.shown q ∙ (elim (cases_order q n) [
    | inl same ↦ ap (λ b. cond b (get over q) None) (le-ltb q n (omega arith)) ∙ sym (ap (λ b. cond b (get over q) None) (lt-ltb q (n + 1) (omega arith)) ∙ ap (get over) same ∙ none)
    | inr (inl lt) ↦ ap (λ b. cond b (get over q) None) (lt-ltb q n lt ∙ sym (lt-ltb q (n + 1) (omega arith)))
    | inr (inr gt) ↦ ap (λ b. cond b (get over q) None) (le-ltb q n (omega arith) ∙ sym (le-ltb q (n + 1) (omega arith)))
  ]);
  below = all_lower n (n + 1) (entries m) (omega arith) s.below;
}

same_ties : (q n : ℕ) → q ≡ n → eq_by_cmp nat_cmp q n ≡ true
same_ties q n same = rw same (grind (arith, nat_tests))

not_ties : (q n : ℕ) → (q ≡ n → ⊥) → eq_by_cmp nat_cmp q n ≡ false
not_ties q n other = elim (eq_by_cmp nat_cmp q n) as (λ b. eq_by_cmp nat_cmp q n ≡ b → b ≡ false) [ true ↦ λ e. absurd (other (same_tied q n e)) | false ↦ λ e. refl ] refl

pub shows_put : (m over : States) (n : ℕ) (v : Versioned) → Shows m over n → get over n ≡ Some v → Shows (insert m n v) over (n + 1)
shows_put m over n v s is = record {
  shown = λ q. get-insert nat_cmp_total m n v q ∙ (elim (cases_order q n) [
    | inl same ↦ ap (λ b. cond b (Some v) (get m q)) (same_ties q n same) ∙ sym (ap (λ b. cond b (get over q) None) (lt-ltb q (n + 1) (omega arith)) ∙ ap (get over) same ∙ is)
    | inr (inl lt) ↦ ap (λ b. cond b (Some v) (get m q)) (not_ties q n (λ e. omega arith)) ∙ s.shown q ∙ ap (λ b. cond b (get over q) None) (lt-ltb q n lt ∙ sym (lt-ltb q (n + 1) (omega arith)))
    | inr (inr gt) ↦ ap (λ b. cond b (Some v) (get m q)) (not_ties q n (λ e. omega arith)) ∙ s.shown q ∙ ap (λ b. cond b (get over q) None) (le-ltb q n (omega arith) ∙ sym (le-ltb q (n + 1) (omega arith)))
  ]);
  below = subst (λ es. AllByRecursion (λ (e : ℕ × Versioned). e.0 < n + 1) es) (sym (entries-insert nat_cmp_total m n v ∙ put_last n v (entries m) s.below))
      (all_push (λ (e : ℕ × Versioned). e.0 < n + 1) (entries m) (n, v) (all_lower n (n + 1) (entries m) (omega arith) s.below) (omega arith));
}

pub shows_whole : (m old new : States) (n : ℕ) → Shows m (overlay old new) n → 17 ≤ n → AreStates old → AreStates new → m ≡ overlay old new
shows_whole m old new n s le olds news =
    same_map nat_cmp_total nat_cmp-IsAntisymmetric m (overlay old new) (λ q. s.shown q ∙ (elim (cases_lt q n) [
      | inl lt ↦ ap (λ b. cond b (get (overlay old new) q) None) (lt-ltb q n lt)
      | inr ge ↦ ap (λ b. cond b (get (overlay old new) q) None) (le-ltb q n ge) ∙ sym (over_in_range old new q olds news (λ key. let few = key.1 in omega arith))
    ]))

-- one state over others is put among them
pub over_one : (old : States) (k : ℕ) (v : Versioned) → overlay old (insert empty k v) ≡ insert old k v
over_one old k v =
    same_map nat_cmp_total nat_cmp-IsAntisymmetric (overlay old (insert empty k v)) (insert old k v) (λ q.
    get-overlay old (insert empty k v) q ∙ ap (λ (o : Option Versioned). option_or o (get old q)) (get-insert nat_cmp_total empty k v q)
    ∙ (elim (eq_by_cmp nat_cmp q k) as (λ b. option_or (cond b (Some v) (get {R = nat_cmp} (empty {K = ℕ} {X = Versioned} {R = nat_cmp}) q)) (get old q) ≡ cond b (Some v) (get old q)) [
      | true ↦ refl
      | false ↦ ap (λ (o : Option Versioned). option_or o (get old q)) (get-empty nat_cmp q)
    ])
    ∙ sym (get-insert nat_cmp_total old k v q))

-- ---- each key of one stands in another

not_some : (o : Option Versioned) → is_some o ≡ true → o ≡ None → ⊥
not_some None some none = cc
not_some (Some v) some none = cc

absent : (new : States) (q : ℕ) (es : List (ℕ × Versioned)) → AllByRecursion (λ (e : ℕ × Versioned). is_some (get new e.0) ≡ true) es → get new q ≡ None → find nat_cmp q es ≡ None
absent new q [] all none = refl
absent new q (e ∷ es) all none =
    elim (eq_by_cmp nat_cmp q e.0) as (λ b. eq_by_cmp nat_cmp q e.0 ≡ b → cond b (Some e.1) (find nat_cmp q es) ≡ None) [
      | true ↦ λ tied. absurd (not_some (get new e.0) all.0 (ap (get new) (sym (same_tied q e.0 tied)) ∙ none))
      | false ↦ λ tied. absent new q es all.1 none
    ] refl

pub covered_all : (old new : States) (i : ℕ) → AllByRecursion (λ (e : ℕ × Versioned). is_some (get new e.0) ≡ true) (take i (entries old)) → finmap.len old ≤ i → overlay old new ≡ new
covered_all old new i all le =
    let whole = subst (λ es. AllByRecursion (λ (e : ℕ × Versioned). is_some (get new e.0) ≡ true) es) (take_all i (entries old) (omega (arith, le, len-entries old))) all in
    overlay_covered old new (λ q none. get-entries old q ∙ absent new q (entries old) whole none)
