-- States newer than a version at a key, and the greatest version.
use Rattle.std.proofs.Common.{◌≡◌, ℕ, ◌≤◌, ◌⊎◌, inl, inr, ◌<◌, Bool, true, false, cond, List, [], ◌∷◌, Option, Some, None, refl, sym, ap, ◌∙◌, arith, nat_lt}
use Rattle.std.specs.Prelude.{max}
use Rattle.std.specs.Option.{option_or}
use Rattle.std.proofs.lemmas.Map.Entries.{option_filter}
use Rattle.std.specs.Ordering.{nat_cmp, eq_by_cmp}
use Rattle.std.specs.Cmp.{nat_cmp_total, eq_by_cmp_equiv}
use Rattle.std.specs.FinMap.{get, entries, entries_sorted, get-entries}
use Rattle.std.specs.FinMap.Entries.{find}
use Rattle.cg_types.specs.Rising.{is_past, rise_past}
use Rattle.cg_types.proofs.RisingLemmas.{keys_of, rise_sorted, find_past, second_of}
use Rattle.cg_entry.specs.Versioned.{Versioned, States}
use Rattle.cg_entry.specs.Entry.{greatest_of, greatest, newer_than, overlay}
use Rattle.cg_entry.proofs.KeyLemmas.{find-filter}
use Rattle.cg_entry.proofs.PutLemmas.{get-overlay}
use Rattle.cg_entry.proofs.DeltaLemmas.{entries-newer_than, greatest_over}

pub get-newer_than : (v : ℕ) (states : States) (q : ℕ) → get (newer_than v states) q ≡ option_filter (λ s. nat_lt v s.version) (get states q)
get-newer_than v states q =
    get-entries (newer_than v states) q ∙ ap (find nat_cmp q) (entries-newer_than v states)
    ∙ find-filter (λ s. nat_lt v s.1.version) q None (entries states) (rise_sorted (entries states) (entries_sorted states))
    ∙ ap (option_filter (λ (s : Versioned). nat_lt v s.version)) (sym (get-entries states q))

-- ---- the greatest version

greatest_bounds : (n q : ℕ) (es : List (ℕ × Versioned)) (s : Versioned) → find nat_cmp q es ≡ Some s → s.version ≤ greatest_of n es
greatest_bounds n q [] s e = cc
greatest_bounds n q (x ∷ es) s e = go (greatest_bounds (max n x.1.version) q es s) (eq_by_cmp nat_cmp q x.0) e
  where
    go : (find nat_cmp q es ≡ Some s → s.version ≤ greatest_of (max n x.1.version) es) → (b : Bool) → cond b (Some x.1) (find nat_cmp q es) ≡ Some s → s.version ≤ greatest_of (max n x.1.version) es
    go rest true f = let same : x.1 ≡ s = cc in omega (arith, ap (λ (s : Versioned). s.version) same, greatest_over (max n x.1.version) es)
    go rest false f = rest f

-- it is n, or the version of a state
abbrev IsReached : ℕ → List (ℕ × Versioned) → ℕ → Type 0
IsReached n es m = (m ≡ n) ⊎ ((k : ℕ) × (s : Versioned) × (find nat_cmp k es ≡ Some s) × (m ≡ s.version))

greatest_reached : (n : ℕ) (last : Option ℕ) (es : List (ℕ × Versioned)) → rise_past last (keys_of es) ≡ true → IsReached n es (greatest_of n es)
greatest_reached n last [] h = inl refl
greatest_reached n last (e ∷ es) h = go (greatest_reached (max n e.1.version) (Some e.0) es after)
  where
    after : rise_past (Some e.0) (keys_of es) ≡ true
    after = second_of (is_past last e.0) (rise_past (Some e.0) (keys_of es)) h

    here : find nat_cmp e.0 (e ∷ es) ≡ Some e.1
    here = rw ((eq_by_cmp_equiv nat_cmp_total).refl e.0) refl

    later : (k : ℕ) (s : Versioned) → find nat_cmp k es ≡ Some s → (b : Bool) → eq_by_cmp nat_cmp k e.0 ≡ b → cond b (Some e.1) (find nat_cmp k es) ≡ Some s
    later k s f true t = absurd (let none = find_past k e.0 es t after in cc)
    later k s f false t = f

    which : (m : ℕ) → m ≡ max n e.1.version → (n < e.1.version) ⊎ (e.1.version ≤ n) → IsReached n (e ∷ es) m
    which m is (inl lt) = inr (e.0, e.1, here, omega arith)
    which m is (inr le) = inl (omega arith)

    go : IsReached (max n e.1.version) es (greatest_of (max n e.1.version) es) → IsReached n (e ∷ es) (greatest_of (max n e.1.version) es)
    go (inl is) = which (greatest_of (max n e.1.version) es) is (grind arith)
    go (inr is) = inr (is.0, is.1, later is.0 is.1 is.2 (eq_by_cmp nat_cmp is.0 e.0) refl, is.3)

pub at_least : (n : ℕ) (states : States) → n ≤ greatest n states
at_least n states = greatest_over n (entries states)

pub version_within : (n : ℕ) (states : States) (k : ℕ) (s : Versioned) → get states k ≡ Some s → s.version ≤ greatest n states
version_within n states k s e = greatest_bounds n k (entries states) s (sym (get-entries states k) ∙ e)

-- a greatest version is n, or that of a state
abbrev pub Stands : ℕ → States → Type 0
Stands n states = (greatest n states ≡ n) ⊎ ((k : ℕ) × (s : Versioned) × (get states k ≡ Some s) × (greatest n states ≡ s.version))

pub greatest_stands : (n : ℕ) (states : States) → Stands n states
greatest_stands n states = go (greatest_reached n None (entries states) (rise_sorted (entries states) (entries_sorted states)))
  where
    go : IsReached n (entries states) (greatest n states) → Stands n states
    go (inl is) = inl is
    go (inr is) = inr (is.0, is.1, get-entries states is.0 ∙ is.2, is.3)

-- ---- states over others, which bring a version newer than all

module _ (m n : ℕ) (old new : States) (later : greatest m old < greatest n new) where
  brought_at : (k : ℕ) (s : Versioned) (o : Option Versioned) → get new k ≡ o → option_or o (get old k) ≡ Some s → s.version ≤ greatest n new
  brought_at k s None at_new e = omega (arith, version_within m old k s e, later)
  brought_at k s (Some t) at_new e = version_within n new k s (at_new ∙ e)

  no_more : Stands n (overlay old new) → greatest n (overlay old new) ≤ greatest n new
  no_more (inl e) = omega (arith, e, at_least n new)
  no_more (inr e) = omega (arith, e.3, brought_at e.0 e.1 (get new e.0) refl (sym (get-overlay old new e.0) ∙ e.2))

  no_less : Stands n new → greatest n new ≤ greatest n (overlay old new)
  no_less (inl e) = omega (arith, e, at_least n (overlay old new))
  no_less (inr e) = omega (arith, e.3, version_within n (overlay old new) e.0 e.1 (get-overlay old new e.0 ∙ ap (λ (o : Option Versioned). option_or o (get old e.0)) e.2))

  pub newest_brought : greatest n new ≡ greatest n (overlay old new)
  newest_brought = omega (arith, no_more (greatest_stands n (overlay old new)), no_less (greatest_stands n new))
