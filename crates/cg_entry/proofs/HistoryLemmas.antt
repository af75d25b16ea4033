-- Generation and version rise along a history.
use Rattle.std.proofs.Common.{◌≡◌, ◌↔◌, ℕ, zero, suc, ◌+◌, ◌-◌, ◌<◌, ◌≤◌, ◌⊎◌, inl, inr, Bool, true, false, cond, List, length, Option, Some, None, refl, sym, ap, subst, ◌∙◌, arith}
use Rattle.std.specs.Ordering.{nat_cmp, eq_by_cmp}
use Rattle.std.specs.Cmp.{nat_cmp_total, eq_by_cmp_equiv}
use Rattle.std.specs.FinMap.{get, get-insert, get-empty}
use Rattle.std.proofs.lemmas.Bool.Decides.{nat_tests}
use Rattle.cg_entry.specs.Versioned.{Versioned}
use Rattle.cg_entry.specs.Values.{EntryValue}
use Rattle.cg_entry.specs.Entry.{newest, starting_entry, entry_after_beat, with_state, is_later}
use Rattle.cg_types.specs.ListPlace.{at_place}
use Rattle.cg_entry.specs.History.{Follows, Starts, Beats, Sets, Removes, IsHistory, generation_at, generation_of}
use Rattle.cg_entry.specs.Spelling.{version_of, version_at}
use Rattle.cg_entry.proofs.PlaceLemmas.{at_place_some, at_place_within}
use Rattle.cg_entry.proofs.VersionLemmas.{Stands, at_least, version_within, greatest_stands}

pub heartbeat_within : (x : EntryValue) → x.heartbeat ≤ newest x
heartbeat_within x = at_least x.heartbeat x.states

pub state_within : (x : EntryValue) (k : ℕ) (s : Versioned) → get x.states k ≡ Some s → s.version ≤ newest x
state_within x k s e = version_within x.heartbeat x.states k s e

newest_stands : (x : EntryValue) → Stands x.heartbeat x.states
newest_stands x = greatest_stands x.heartbeat x.states

-- ---- the newest version of the next entry

pub newest_started : (g : ℕ) → newest (starting_entry g) ≡ 1
newest_started g = go (newest_stands (starting_entry g))
  where
    go : Stands (starting_entry g).heartbeat (starting_entry g).states → newest (starting_entry g) ≡ 1
    go (inl e) = e
    go (inr e) = absurd (let none = get-empty {X = Versioned} nat_cmp e.0 in let some = e.2 in cc)

pub newest_beaten : (x : EntryValue) → newest (entry_after_beat x) ≡ newest x + 1
newest_beaten x = go (newest_stands (entry_after_beat x))
  where
    go : Stands (entry_after_beat x).heartbeat (entry_after_beat x).states → newest (entry_after_beat x) ≡ newest x + 1
    go (inl e) = e
    go (inr e) = absurd (omega (arith, e.3, state_within x e.0 e.1 e.2, heartbeat_within (entry_after_beat x)))

module _ (key : ℕ) (text : Option (List ℕ)) (x : EntryValue) where
  -- what a set or a removal leaves at its key
  abbrev pub given : Versioned
  given = record { text = text; version = newest x + 1 }

  get_given : (q : ℕ) → get (with_state key text x).states q ≡ cond (eq_by_cmp nat_cmp q key) (Some given) (get x.states q)
  get_given q = get-insert nat_cmp_total x.states key given q

  -- at the key, or at another
  pub data GivenAt (q : ℕ) : Type 0 where
    Here : get (with_state key text x).states q ≡ Some given → GivenAt q
    Elsewhere : get (with_state key text x).states q ≡ get x.states q → GivenAt q

  pub given_at : (q : ℕ) → GivenAt q
  given_at q = go (eq_by_cmp nat_cmp q key) refl
    where
      go : (b : Bool) → eq_by_cmp nat_cmp q key ≡ b → GivenAt q
      go true e = Here (get_given q ∙ ap (λ b. cond b (Some given) (get x.states q)) e)
      go false e = Elsewhere (get_given q ∙ ap (λ b. cond b (Some given) (get x.states q)) e)

  pub newest_given : newest (with_state key text x) ≡ newest x + 1
  newest_given = go (newest_stands (with_state key text x))
    where
      here : get (with_state key text x).states key ≡ Some given
      here = get_given key ∙ ap (λ b. cond b (Some given) (get x.states key)) ((eq_by_cmp_equiv nat_cmp_total).refl key)

      low : newest x + 1 ≤ newest (with_state key text x)
      low = state_within (with_state key text x) key given here

      which : (q : ℕ) (s : Versioned) → get (with_state key text x).states q ≡ Some s → newest (with_state key text x) ≡ s.version → GivenAt q → newest (with_state key text x) ≡ newest x + 1
      which q s e is (Here f) = let same : given ≡ s = cc in is ∙ ap (λ (s : Versioned). s.version) (sym same)
      which q s e is (Elsewhere f) = absurd (omega (arith, low, is, state_within x q s (sym f ∙ e)))

      go : Stands (with_state key text x).heartbeat (with_state key text x).states → newest (with_state key text x) ≡ newest x + 1
      go (inl e) = absurd (omega (arith, low, e, heartbeat_within x))
      go (inr e) = which e.0 e.1 e.2 e.3 (given_at e.0)

-- ---- later entries

-- generation and version g n come before g' n'
abbrev pub IsBefore : ℕ → ℕ → ℕ → ℕ → Type 0
IsBefore g n g' n' = (g < g') ⊎ ((g ≡ g') × (n < n'))

follows_before : {x y : EntryValue} → Follows x y → IsBefore x.generation (newest x) y.generation (newest y)
follows_before {x} (Starts g l e) = rw e (inl l)
follows_before {x} (Beats e) = rw e (inr (refl, omega (arith, newest_beaten x)))
follows_before {x} (Sets key text e) = rw e (inr (refl, omega (arith, newest_given key (Some text) x)))
follows_before {x} (Removes key stood e) = rw e (inr (refl, omega (arith, newest_given key None x)))

abbrev pub ComesBefore : List EntryValue → ℕ → ℕ → Type 0
ComesBefore h p q = IsBefore (generation_at h p) (version_at h p) (generation_at h q) (version_at h q)

before_on : (a b c d e f : ℕ) → IsBefore a b c d → IsBefore c d e f → IsBefore a b e f
before_on a b c d e f p q = grind arith

before_next : (h : List EntryValue) (p : ℕ) → IsHistory h → suc p ≤ length h → ComesBefore h p (suc p)
before_next h zero is l =
    let x = at_place_some h 1 (omega arith) l in
    let begins = is.begins x.0 x.1 in
    let one : newest x.0 ≡ 1 = rw (begins.1) (newest_started begins.0) in
    subst (λ o. IsBefore 0 0 (generation_of o) (version_of o)) (sym x.1) (grind (arith, one))
before_next h (suc p) is l =
    let x = at_place_some h (suc p) (omega arith) (omega arith) in
    let y = at_place_some h (suc (suc p)) (omega arith) l in
    let later : IsBefore x.0.generation (newest x.0) y.0.generation (newest y.0) = follows_before (is.goes_on (suc p) x.0 y.0 x.1 y.1) in
    subst (λ o. IsBefore (generation_of o) (version_of o) (generation_at h (suc (suc p))) (version_at h (suc (suc p)))) (sym x.1)
    (subst (λ o. IsBefore x.0.generation (newest x.0) (generation_of o) (version_of o)) (sym y.1) later)

before_by : (h : List EntryValue) (p d : ℕ) → IsHistory h → p + suc d ≤ length h → ComesBefore h p (p + suc d)
before_by h p zero is l = let e : suc p ≡ p + 1 = omega arith in subst (ComesBefore h p) e (before_next h p is (omega arith))
before_by h p (suc d) is l =
    let e : suc (p + suc d) ≡ p + suc (suc d) = omega arith in
    subst (ComesBefore h p) e (before_on (generation_at h p) (version_at h p) (generation_at h (p + suc d)) (version_at h (p + suc d)) (generation_at h (suc (p + suc d))) (version_at h (suc (p + suc d)))
    (before_by h p d is (omega arith)) (before_next h (p + suc d) is (omega arith)))

-- generation and version rise strictly along a history
pub comes_before : (h : List EntryValue) (p q : ℕ) → IsHistory h → p < q → q ≤ length h → ComesBefore h p q
comes_before h p q is lt l = let same : p + suc (q - p - 1) ≡ q = omega arith in subst (ComesBefore h p) same (before_by h p (q - p - 1) is (omega arith))

pub generation_rises : (h : List EntryValue) (p q : ℕ) → IsHistory h → p ≤ q → q ≤ length h → generation_at h p ≤ generation_at h q
generation_rises h p q is le l = go (grind arith)
  where
    go : (p ≡ q) ⊎ (p < q) → generation_at h p ≤ generation_at h q
    go (inl e) = omega (arith, ap (generation_at h) e)
    go (inr lt) = let b = comes_before h p q is lt l in grind arith

-- in one generation, the version says which of two places comes first
pub version_tells : (h : List EntryValue) (p q : ℕ) → IsHistory h → p ≤ length h → q ≤ length h → generation_at h p ≡ generation_at h q → (version_at h p < version_at h q) ↔ (p < q)
version_tells h p q is lp lq same = (forth, back)
  where
    back : p < q → version_at h p < version_at h q
    back lt = let l = comes_before h p q is lt lq in grind arith

    split : version_at h p < version_at h q → (p < q) ⊎ (p ≡ q) ⊎ (q < p) → p < q
    split v (inl lt) = lt
    split v (inr (inl e)) = absurd (omega (arith, ap (version_at h) e))
    split v (inr (inr lt)) = absurd (let l = comes_before h q p is lt lp in grind arith)

    forth : version_at h p < version_at h q → p < q
    forth v = split v (grind arith)

-- ---- versions are at least 1

pub record AllPositive (x : EntryValue) : Type 0 where
  pub newest_is : 1 ≤ newest x
  pub states_are : (k : ℕ) (s : Versioned) → get x.states k ≡ Some s → 1 ≤ s.version

started_positive : (g : ℕ) → AllPositive (starting_entry g)
started_positive g = record {
  newest_is = omega (arith, newest_started g);
  states_are = λ k s e. absurd (let none = get-empty {X = Versioned} nat_cmp k in cc);
}

given_positive : (key : ℕ) (text : Option (List ℕ)) (x : EntryValue) (k : ℕ) (s : Versioned) → AllPositive x → get (with_state key text x).states k ≡ Some s → GivenAt key text x k → 1 ≤ s.version
given_positive key text x k s a f (Here g) = let same : given key text x ≡ s = cc in omega (arith, ap (λ (s : Versioned). s.version) same)
given_positive key text x k s a f (Elsewhere g) = a.states_are k s (sym g ∙ f)

given_all_positive : (key : ℕ) (text : Option (List ℕ)) (x : EntryValue) → AllPositive x → AllPositive (with_state key text x)
given_all_positive key text x a = record {
  newest_is = omega (arith, newest_given key text x);
  states_are = λ k s f. given_positive key text x k s a f (given_at key text x k);
}

follows_positive : {x y : EntryValue} → Follows x y → AllPositive x → AllPositive y
follows_positive {x} {y} (Starts g l e) a = subst AllPositive (sym e) (started_positive g)
follows_positive {x} {y} (Beats e) a = subst AllPositive (sym e) (record { newest_is = omega (arith, newest_beaten x); states_are = a.states_are })
follows_positive {x} {y} (Sets key text e) a = subst AllPositive (sym e) (given_all_positive key (Some text) x a)
follows_positive {x} {y} (Removes key stood e) a = subst AllPositive (sym e) (given_all_positive key None x a)

pub all_positive : (h : List EntryValue) (p : ℕ) → IsHistory h → (x : EntryValue) → at_place h p ≡ Some x → AllPositive x
all_positive h zero is x e = cc
all_positive h (suc zero) is x e = let b = is.begins x e in subst AllPositive (sym b.1) (started_positive b.0)
all_positive h (suc (suc p)) is x e =
    let y = at_place_some h (suc p) (omega arith) (omega (arith, (at_place_within h (suc (suc p)) x e).1)) in
    follows_positive (is.goes_on (suc p) y.0 x y.1 e) (all_positive h (suc p) is y.0 y.1)

pub version_positive : (h : List EntryValue) (p : ℕ) → IsHistory h → 0 < p → p ≤ length h → 0 < version_at h p
version_positive h p is lt l =
    let x = at_place_some h p lt l in
    omega (arith, (all_positive h p is x.0 x.1).newest_is, ap version_of x.1)

-- ---- two entries of one history

-- the order of two entries of a history
pub data Compared (p q : ℕ) (x y : EntryValue) : Type 0 where
  Behind : p < q → x.generation < y.generation → Compared p q x y
  Ahead : q < p → y.generation < x.generation → Compared p q x y
  SameBehind : p < q → x.generation ≡ y.generation → newest x < newest y → Compared p q x y
  SameAhead : q < p → x.generation ≡ y.generation → newest y < newest x → Compared p q x y
  SamePlace : p ≡ q → x ≡ y → Compared p q x y

pub compared : (h : List EntryValue) (p q : ℕ) → IsHistory h → (x y : EntryValue) → at_place h p ≡ Some x → at_place h q ≡ Some y → Compared p q x y
compared h p q is x y ex ey = go (grind arith)
  where
    forth : p < q → ComesBefore h p q → Compared p q x y
    forth lt (inl g) = Behind lt (omega (arith, g, ap generation_of ex, ap generation_of ey))
    forth lt (inr n) = SameBehind lt (sym (ap generation_of ex) ∙ n.0 ∙ ap generation_of ey) (omega (arith, n.1, ap version_of ex, ap version_of ey))

    back : q < p → ComesBefore h q p → Compared p q x y
    back lt (inl g) = Ahead lt (omega (arith, g, ap generation_of ex, ap generation_of ey))
    back lt (inr n) = SameAhead lt (sym (ap generation_of ex) ∙ sym n.0 ∙ ap generation_of ey) (omega (arith, n.1, ap version_of ex, ap version_of ey))

    go : (p < q) ⊎ (p ≡ q) ⊎ (q < p) → Compared p q x y
    go (inl lt) = forth lt (comes_before h p q is lt (at_place_within h q y ey).1)
    go (inr (inl e)) =
        let there : at_place h q ≡ Some x = subst (λ n. at_place h n ≡ Some x) e ex in
        SamePlace e cc
    go (inr (inr lt)) = back lt (comes_before h q p is lt (at_place_within h p x ex).1)

pub later_is : (p q : ℕ) (x y : EntryValue) → Compared p q x y → p < q → is_later y x ≡ true
later_is p q x y (Behind lt g) l = grind (arith, nat_tests)
later_is p q x y (Ahead lt g) l = absurd (omega arith)
later_is p q x y (SameBehind lt g n) l = grind (arith, nat_tests)
later_is p q x y (SameAhead lt g n) l = absurd (omega arith)
later_is p q x y (SamePlace e s) l = absurd (omega arith)

pub not_later_is : (p q : ℕ) (x y : EntryValue) → Compared p q x y → q ≤ p → is_later y x ≡ false
not_later_is p q x y (Behind lt g) l = absurd (omega arith)
not_later_is p q x y (Ahead lt g) l = grind (arith, nat_tests)
not_later_is p q x y (SameBehind lt g n) l = absurd (omega arith)
not_later_is p q x y (SameAhead lt g n) l = grind (arith, nat_tests)
not_later_is p q x y (SamePlace e s) l = let g = ap (λ (e : EntryValue). e.generation) s in let n = ap newest s in grind (arith, nat_tests)

pub same_named : (p q : ℕ) (x y : EntryValue) → Compared p q x y → x.generation ≡ y.generation → newest x ≡ newest y → (p ≡ q) × (x ≡ y)
same_named p q x y (Behind lt g) e n = absurd (omega arith)
same_named p q x y (Ahead lt g) e n = absurd (omega arith)
same_named p q x y (SameBehind lt g m) e n = absurd (omega arith)
same_named p q x y (SameAhead lt g m) e n = absurd (omega arith)
same_named p q x y (SamePlace e s) g n = (e, s)
