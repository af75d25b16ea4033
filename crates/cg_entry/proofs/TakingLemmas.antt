-- The outcome of the delta of one entry at an earlier one.
use Rattle.std.proofs.Common.{◌≡◌, ℕ, ◌<◌, ◌≤◌, inl, inr, Bool, true, false, cond, Option, Some, None, refl, sym, ap, ◌∙◌, arith, nat_lt}
use Rattle.std.specs.Option.{option_or}
use Rattle.std.specs.Cmp.{nat_cmp_total}
use Rattle.std.proofs.lemmas.Map.Entries.{option_filter}
use Rattle.std.specs.FinMap.{get, same_map, nat_cmp-IsAntisymmetric}
use Rattle.std.proofs.lemmas.Bool.{lt-ltb, le-ltb, le-leb, lt-leb, eq-eqb, ne_eqb}
use Rattle.cg_entry.specs.declared.entry.Absorbed.TheVariants.{Taken, Old, Gap}
use Rattle.cg_entry.specs.Versioned.{Versioned, States}
use Rattle.cg_entry.specs.Values.{EntryValue, DeltaValue}
use Rattle.cg_entry.specs.Entry.{greatest, newest, newer_than, overlay, delta_above}
use Rattle.cg_entry.specs.Taking.{whole_entry, taken_or_gap, advanced_entry, absorption}
use Rattle.cg_entry.proofs.PutLemmas.{get-overlay}
use Rattle.cg_entry.proofs.VersionLemmas.{Stands, get-newer_than, at_least, version_within, greatest_stands}
use Rattle.cg_entry.proofs.HistoryLemmas.{AllPositive, heartbeat_within, state_within}

-- the part of an entry above v
abbrev pub part : ℕ → EntryValue → DeltaValue
part v y = record { generation = y.generation; above = v; heartbeat = y.heartbeat; states = newer_than v y.states }

pub above_some : (v : ℕ) (y : EntryValue) → v < newest y → delta_above v y ≡ Some (part v y)
above_some v y lt = rw (lt-leb (newest y) v lt) refl

pub above_none : (v : ℕ) (y : EntryValue) → newest y ≤ v → delta_above v y ≡ None
above_none v y le = rw (le-leb (newest y) v le) refl

same_states : (m n : States) → ((q : ℕ) → get m q ≡ get n q) → m ≡ n
same_states m n e = same_map nat_cmp_total nat_cmp-IsAntisymmetric m n e

abbrev newer : ℕ → Option Versioned → Option Versioned
newer v o = option_filter (λ s. nat_lt v s.version) o

-- a state over v is kept
kept_over : (v : ℕ) (s : Versioned) → v < s.version → newer v (Some s) ≡ Some s
kept_over v s lt = rw (lt-ltb v s.version lt) refl

-- ---- the greatest version of a part is that of its entry

module _ (v : ℕ) (y : EntryValue) (lt : v < newest y) where
  of_newer : (k : ℕ) (s : Versioned) (o : Option Versioned) → get y.states k ≡ o → newer v o ≡ Some s → s.version ≤ newest y
  of_newer k s None f g = cc
  of_newer k s (Some t) f g = go (nat_lt v t.version) g
    where
      go : (b : Bool) → cond b (Some t) None ≡ Some s → s.version ≤ newest y
      go true g = let same : t ≡ s = cc in omega (arith, state_within y k t f, ap (λ (s : Versioned). s.version) same)
      go false g = cc

  found : (k : ℕ) (s : Versioned) → get y.states k ≡ Some s → newest y ≡ s.version → get (newer_than v y.states) k ≡ Some s
  found k s f e = get-newer_than v y.states k ∙ ap (newer v) f ∙ kept_over v s (omega arith)

  high : Stands y.heartbeat (newer_than v y.states) → greatest y.heartbeat (newer_than v y.states) ≤ newest y
  high (inl e) = omega (arith, e, heartbeat_within y)
  high (inr e) = omega (arith, e.3, of_newer e.0 e.1 (get y.states e.0) refl (sym (get-newer_than v y.states e.0) ∙ e.2))

  low : Stands y.heartbeat y.states → newest y ≤ greatest y.heartbeat (newer_than v y.states)
  low (inl e) = omega (arith, e, at_least y.heartbeat (newer_than v y.states))
  low (inr e) = omega (arith, e.3, version_within y.heartbeat (newer_than v y.states) e.0 e.1 (found e.0 e.1 e.2 e.3))

  pub newest_part : greatest y.heartbeat (newer_than v y.states) ≡ newest y
  newest_part = omega (arith, low (greatest_stands y.heartbeat y.states), high (greatest_stands y.heartbeat (newer_than v y.states)))

-- ---- a whole part carries its entry

all_kept : (y : EntryValue) → AllPositive y → newer_than 0 y.states ≡ y.states
all_kept y all = same_states (newer_than 0 y.states) y.states (λ k. get-newer_than 0 y.states k ∙ go k (get y.states k) refl)
  where
    go : (k : ℕ) (o : Option Versioned) → get y.states k ≡ o → newer 0 o ≡ o
    go k None e = refl
    go k (Some s) e = kept_over 0 s (omega (arith, all.states_are k s e))

pub whole_part : (v : ℕ) (y : EntryValue) → v ≡ 0 → AllPositive y → whole_entry (part v y) ≡ Some y
whole_part v y e all = rw (eq-eqb v 0 e) (ap Some (λ i. record { generation = y.generation; heartbeat = y.heartbeat; states = (ap (λ (n : ℕ). newer_than n y.states) e ∙ all_kept y all) i }))

pub no_whole_part : (v : ℕ) (y : EntryValue) → 0 < v → whole_entry (part v y) ≡ None
no_whole_part v y lt = rw (ne_eqb v 0 (omega arith)) refl

-- ---- a part over an earlier entry

-- the state of a key in y is that of x, or has a version that x has not reached
pub data KeptAt (x y : EntryValue) (k : ℕ) : Type 0 where
  Kept : get y.states k ≡ get x.states k → KeptAt x y k
  Renewed : (s : Versioned) → get y.states k ≡ Some s → newest x < s.version → KeptAt x y k

module _ (v : ℕ) (x y : EntryValue) (keeps : (k : ℕ) → KeptAt x y k) (same : x.generation ≡ y.generation) (le : v ≤ newest x) where
  either_way : (o : Option Versioned) → option_or (newer v o) o ≡ o
  either_way None = refl
  either_way (Some s) = elim (nat_lt v s.version) as (λ b. option_or (cond b (Some s) None) (Some s) ≡ Some s) [ true ↦ refl | false ↦ refl ]

  at_key : (k : ℕ) → KeptAt x y k → option_or (newer v (get y.states k)) (get x.states k) ≡ get y.states k
  at_key k (Kept e) = ap (option_or (newer v (get y.states k))) (sym e) ∙ either_way (get y.states k)
  at_key k (Renewed s e lt) = ap (λ (o : Option Versioned). option_or (newer v o) (get x.states k)) e ∙ ap (λ (o : Option Versioned). option_or o (get x.states k)) (kept_over v s (omega arith)) ∙ sym e

  at_each : (k : ℕ) → get (overlay x.states (newer_than v y.states)) k ≡ get y.states k
  at_each k = get-overlay x.states (newer_than v y.states) k ∙ ap (λ (o : Option Versioned). option_or o (get x.states k)) (get-newer_than v y.states k) ∙ at_key k (keeps k)

  advanced_is : advanced_entry x (part v y) ≡ y
  advanced_is = λ i. record { generation = same i; heartbeat = y.heartbeat; states = same_states (overlay x.states (newer_than v y.states)) y.states at_each i }

-- ---- the outcome of it

module _ (v : ℕ) (x y : EntryValue) where
  pub absorbed_older : y.generation < x.generation → absorption x (part v y) ≡ Old
  absorbed_older g = rw (lt-ltb y.generation x.generation g) refl

  absorbed_newer : x.generation < y.generation → absorption x (part v y) ≡ taken_or_gap (whole_entry (part v y))
  absorbed_newer g = rw (le-ltb y.generation x.generation (omega arith), lt-ltb x.generation y.generation g) refl

  pub absorbed_whole : x.generation < y.generation → v ≡ 0 → AllPositive y → absorption x (part v y) ≡ Taken y
  absorbed_whole g e all = absorbed_newer g ∙ ap taken_or_gap (whole_part v y e all)

  pub absorbed_part : x.generation < y.generation → 0 < v → absorption x (part v y) ≡ Gap
  absorbed_part g lt = absorbed_newer g ∙ ap taken_or_gap (no_whole_part v y lt)

  module _ (same : x.generation ≡ y.generation) (below : v < newest y) where
    pub absorbed_old : newest y ≤ newest x → absorption x (part v y) ≡ Old
    absorbed_old le =
        rw (le-ltb y.generation x.generation (omega arith), le-ltb x.generation y.generation (omega arith), newest_part v y below, le-leb (newest y) (newest x) le) refl

    pub absorbed_gap : newest x < v → absorption x (part v y) ≡ Gap
    absorbed_gap lt =
        rw (le-ltb y.generation x.generation (omega arith), le-ltb x.generation y.generation (omega arith), newest_part v y below, lt-leb (newest y) (newest x) (omega arith), lt-ltb (newest x) v lt) refl

    pub absorbed_taken : newest x < newest y → v ≤ newest x → ((k : ℕ) → KeptAt x y k) → absorption x (part v y) ≡ Taken y
    absorbed_taken lt le keeps =
        rw (le-ltb y.generation x.generation (omega arith), le-ltb x.generation y.generation (omega arith), newest_part v y below, lt-leb (newest y) (newest x) lt, le-ltb (newest x) v le)
        (ap Taken (advanced_is v x y keeps same le))
