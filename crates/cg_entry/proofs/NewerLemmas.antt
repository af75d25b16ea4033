-- The states that are newer than a version, read one by one.
use Rattle.std.proofs.Common.{◌≡◌, ℕ, zero, suc, ◌+◌, ◌<◌, ◌≤◌, Bool, true, false, cond, List, [], ◌∷◌, ◌++◌, length, take, Option, Some, None, refl, sym, ap, subst, ◌∙◌, arith, nat_lt, append-nil}
use Rattle.std.specs.Prelude.{slice_get}
use Rattle.std.specs.List.{AllByRecursion, filter}
use Rattle.std.specs.Ordering.{nat_cmp}
use Rattle.std.specs.Cmp.{nat_cmp_total}
use Rattle.std.specs.FinMap.{entries, entries_sorted, empty, from_sorted, insert, same_entries_map, entries-insert, entries-from_sorted}
use Rattle.std.proofs.lemmas.Bool.{ltb-true, lt-ltb}
use Rattle.std.proofs.lemmas.List.{take_all}
use Rattle.cg_types.specs.Rising.{is_past, rise_past}
use Rattle.cg_types.proofs.RisingLemmas.{keys_of, rise_sorted, rise_earlier, first_of, second_of, from_sorted-none}
use Rattle.cg_entry.specs.Contents.{IsState, AreStates}
use Rattle.cg_entry.specs.Entry.{newer_than}
use Rattle.cg_entry.specs.Versioned.{Versioned, States}
use Rattle.cg_entry.proofs.ContentLemmas.{all_filter}
use Rattle.cg_entry.proofs.DeltaLemmas.{entries-newer_than}
use Rattle.cg_entry.proofs.HeldLemmas.{take_next}
use Rattle.cg_entry.proofs.PushLemmas.{put_last}

abbrev pub is_newer : ℕ → ℕ × Versioned → Bool
is_newer v e = nat_lt v e.1.version

-- the entries of a map are the newer ones of the first so many
abbrev pub HasNewer : States → ℕ → ℕ → List (ℕ × Versioned) → Type 0
HasNewer newer v i es = entries newer ≡ filter (is_newer v) (take i es)

pub entries-empty : (states : States) → states ≡ empty → entries states ≡ []
entries-empty states is = ap entries is ∙ ap entries (sym from_sorted-none) ∙ entries-from_sorted nat_cmp [] tt

pub newer_of_none : (v : ℕ) (states : States) → states ≡ empty → newer_than v states ≡ empty
newer_of_none v states is = ap (λ (es : List (ℕ × Versioned)). from_sorted {R = nat_cmp} (filter (λ s. nat_lt v s.1.version) es)) (entries-empty states is) ∙ from_sorted-none

-- what is read twice has one version
pub same_version : (a b : ℕ × Versioned) (o : Option (ℕ × Versioned)) → o ≡ Some a → o ≡ Some b → a.1.version ≡ b.1.version
same_version a b o is_a is_b = let same : a ≡ b = cc in ap (λ (e : ℕ × Versioned). e.1.version) same

filter-push : (p : ℕ × Versioned → Bool) (xs : List (ℕ × Versioned)) (e : ℕ × Versioned) → filter p (xs ++ e ∷ []) ≡ filter p xs ++ cond (p e) (e ∷ []) []
filter-push p [] e = refl
filter-push p (x ∷ xs) e =
    elim (p x) as (λ b. cond b (x ∷ filter p (xs ++ e ∷ [])) (filter p (xs ++ e ∷ [])) ≡ cond b (x ∷ filter p xs) (filter p xs) ++ cond (p e) (e ∷ []) []) [
      | true ↦ ap (λ (ys : List (ℕ × Versioned)). x ∷ ys) (filter-push p xs e)
      | false ↦ filter-push p xs e
    ]

-- one entry more
pub filter_next : (p : ℕ × Versioned → Bool) (es : List (ℕ × Versioned)) (i : ℕ) (e : ℕ × Versioned) → slice_get es i ≡ Some e → (b : Bool) → p e ≡ b → filter p (take (i + 1) es) ≡ filter p (take i es) ++ cond b (e ∷ []) []
filter_next p es i e is b same = ap (filter p) (take_next es i e is) ∙ filter-push p (take i es) e ∙ ap (λ b. filter p (take i es) ++ cond b (e ∷ []) []) same

-- there are no more newer ones than entries
pub filter_few : (p : ℕ × Versioned → Bool) (es : List (ℕ × Versioned)) → length (filter p es) ≤ length es
filter_few p [] = omega arith
filter_few p (e ∷ es) =
    elim (p e) as (λ b. length (cond b (e ∷ filter p es) (filter p es)) ≤ suc (length es)) [
      | true ↦ omega (arith, filter_few p es)
      | false ↦ omega (arith, filter_few p es)
    ]

past_next : (k : ℕ) (es : List (ℕ × Versioned)) (i : ℕ) (e : ℕ × Versioned) → rise_past (Some k) (keys_of es) ≡ true → slice_get es i ≡ Some e → k < e.0
past_next k [] i e rise is = absurd cc
past_next k (x ∷ es) zero e rise is = let same : x ≡ e = cc in omega (arith, ltb-true k x.0 (first_of (nat_lt k x.0) (rise_past (Some x.0) (keys_of es)) rise), ap (λ (p : ℕ × Versioned). p.0) same)
past_next k (x ∷ es) (suc i) e rise is =
    let here = first_of (nat_lt k x.0) (rise_past (Some x.0) (keys_of es)) rise in
    past_next k es i e (rise_earlier (Some k) x.0 (keys_of es) here (second_of (nat_lt k x.0) (rise_past (Some x.0) (keys_of es)) rise)) is

before_next : (last : Option ℕ) (es : List (ℕ × Versioned)) (i : ℕ) (e : ℕ × Versioned) → rise_past last (keys_of es) ≡ true → slice_get es i ≡ Some e → AllByRecursion (λ (x : ℕ × Versioned). x.0 < e.0) (take i es)
before_next last es zero e rise is = tt
before_next last [] (suc i) e rise is = absurd cc
before_next last (x ∷ es) (suc i) e rise is =
    let rest = second_of (is_past last x.0) (rise_past (Some x.0) (keys_of es)) rise in
    (past_next x.0 es i e rest is, before_next (Some x.0) es i e rest is)

module _ (v : ℕ) (states newer : States) (i : ℕ) (e : ℕ × Versioned) (has : HasNewer newer v i (entries states)) (is : slice_get (entries states) i ≡ Some e) where
  pub newer_before : AllByRecursion (λ (x : ℕ × Versioned). x.0 < e.0) (entries newer)
  newer_before =
      subst (λ es. AllByRecursion (λ (x : ℕ × Versioned). x.0 < e.0) es) (sym has)
      (all_filter (λ (x : ℕ × Versioned). x.0 < e.0) (is_newer v) (take i (entries states)) (before_next None (entries states) i e (rise_sorted (entries states) (entries_sorted states)) is))

  more : (b : Bool) → is_newer v e ≡ b → filter (is_newer v) (take (i + 1) (entries states)) ≡ filter (is_newer v) (take i (entries states)) ++ cond b (e ∷ []) []
  more b same = filter_next (is_newer v) (entries states) i e is b same

  pub newer_put : v < e.1.version → HasNewer (insert newer e.0 e.1) v (i + 1) (entries states)
  newer_put lt =
      entries-insert nat_cmp_total newer e.0 e.1 ∙ put_last e.0 e.1 (entries newer) newer_before ∙ ap (λ (xs : List (ℕ × Versioned)). xs ++ e ∷ []) has
      ∙ sym (more true (lt-ltb v e.1.version lt))

  pub newer_passed : is_newer v e ≡ false → HasNewer newer v (i + 1) (entries states)
  newer_passed not = has ∙ sym (more false not ∙ append-nil (filter (is_newer v) (take i (entries states))))

pub newer_whole : (v : ℕ) (states newer : States) (i : ℕ) → HasNewer newer v i (entries states) → length (entries states) ≤ i → newer ≡ newer_than v states
newer_whole v states newer i has le =
    same_entries_map newer (newer_than v states) (has ∙ ap (filter (is_newer v)) (take_all i (entries states) le) ∙ sym (entries-newer_than v states))

nothing_more : (e : ℕ × Versioned) (es : List (ℕ × Versioned)) → e ∷ es ≡ [] → ⊥
nothing_more e es is = cc

not_filtered : (p : ℕ × Versioned → Bool) (es : List (ℕ × Versioned)) (i : ℕ) (e : ℕ × Versioned) → slice_get es i ≡ Some e → p e ≡ true → filter p es ≡ [] → ⊥
not_filtered p [] i e is passes none = cc
not_filtered p (x ∷ es) zero e is passes none =
    let same : x ≡ e = cc in
    nothing_more x (filter p es) (sym (ap (λ b. cond b (x ∷ filter p es) (filter p es)) (ap p same ∙ passes)) ∙ none)
not_filtered p (x ∷ es) (suc i) e is passes none =
    (elim (p x) as (λ b. cond b (x ∷ filter p es) (filter p es) ≡ [] → ⊥) [
      | true ↦ nothing_more x (filter p es)
      | false ↦ not_filtered p es i e is passes
    ]) none

-- with a newer state not none are newer
pub newer_stands : (v : ℕ) (states : States) (i : ℕ) (e : ℕ × Versioned) → slice_get (entries states) i ≡ Some e → v < e.1.version → newer_than v states ≡ empty → ⊥
newer_stands v states i e is lt none =
    not_filtered (is_newer v) (entries states) i e is (lt-ltb v e.1.version lt) (sym (entries-newer_than v states) ∙ entries-empty (newer_than v states) none)

all_newer_kept : (es : List (ℕ × Versioned)) → AllByRecursion IsState es → filter (is_newer 0) es ≡ es
all_newer_kept [] all = refl
all_newer_kept (e ∷ es) all =
    ap (λ b. cond b (e ∷ filter (is_newer 0) es) (filter (is_newer 0) es)) (lt-ltb 0 e.1.version all.0.version.0) ∙ ap (λ (xs : List (ℕ × Versioned)). e ∷ xs) (all_newer_kept es all.1)

-- all are newer than 0
pub newer_than-zero : (states : States) → AreStates states → newer_than 0 states ≡ states
newer_than-zero states all = same_entries_map (newer_than 0 states) states (entries-newer_than 0 states ∙ all_newer_kept (entries states) all)
