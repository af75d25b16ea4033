-- The removals of an entry: what shows under them, and one more of them.
use Rattle.std.proofs.Common.{◌≡◌, ℕ, zero, suc, ◌-◌, ◌<◌, ◌==◌, true, false, cond, List, [], ◌∷◌, map, length, Option, Some, None, refl, sym, ap, subst, ◌∙◌, arith, eqb-true, eq-eqb}
use Rattle.std.specs.Prelude.{slice_set, replicate}
use Rattle.std.specs.List.{AllByRecursion}
use Rattle.std.specs.Option.{option_map}
use Rattle.std.specs.Ordering.{nat_cmp, eq_by_cmp}
use Rattle.std.specs.Cmp.{nat_cmp_total}
use Rattle.std.specs.FinMap.Entries.{find}
use Rattle.std.specs.FinMap as finmap
use Rattle.std.specs.FinMap.{get, entries, entries_sorted, insert, same_map, nat_cmp-IsAntisymmetric, get-entries, get-insert, len-entries}
use Rattle.std.proofs.lemmas.Bool.Decides.{nat_tests}
use Rattle.std.proofs.lemmas.List.{get_or-set_same, get_or-set_other, length-map}
use Rattle.cg_types.specs.Numbers.{IsVersionHeld}
use Rattle.cg_types.proofs.RisingLemmas.{keys_of, same_tied, entries_rising, rise_sorted}
use Rattle.cg_entry.specs.Contents.{IsState, AreStates}
use Rattle.cg_entry.specs.Entry.{is_text}
use Rattle.cg_entry.specs.Versioned.{Versioned, States}
use Rattle.cg_entry.specs.Removals.{removal_at, version_if_any, tombstone_or, removed_under, with_tombstones}

-- ---- the versions by key

pub none_at : (n k : ℕ) → removal_at (replicate n 0) k ≡ 0
none_at zero k = refl
none_at (suc n) zero = refl
none_at (suc n) (suc k) = none_at n k

unlike : (k key : ℕ) → (k == key) ≡ false → k ≡ key → ⊥
unlike k key e same = let yes : (k == key) ≡ true = eq-eqb k key same in cc

put_at : (given old : List ℕ) (key version k : ℕ) → key < length given → removal_at given k ≡ removal_at old k → removal_at (slice_set given key version) k ≡ cond (k == key) version (removal_at old k)
put_at given old key version k lt same =
    elim (k == key) as (λ b. (k == key) ≡ b → removal_at (slice_set given key version) k ≡ cond b version (removal_at old k)) [
      | true ↦ λ e. ap (removal_at (slice_set given key version)) (eqb-true k key e) ∙ get_or-set_same given key version 0 lt
      | false ↦ λ e. get_or-set_other given key k version 0 (unlike k key e) ∙ same
    ] refl

set_behind : (r : ℕ) (rs : List ℕ) (key version : ℕ) → 0 < key → slice_set (r ∷ rs) key version ≡ r ∷ slice_set rs (key - 1) version
set_behind r rs zero version positive = absurd (omega arith)
set_behind r rs (suc n) version positive = let before : suc n - 1 ≡ n = omega arith in rw before refl

-- the same, where the versions begin behind 0, which is no key
pub put_behind : (given old : List ℕ) (i n key version k : ℕ) → i ≡ key → n ≡ version → 0 < key → key < suc (length given) → removal_at (0 ∷ given) k ≡ removal_at old k
    → removal_at (0 ∷ slice_set given (i - 1) n) k ≡ cond (k == key) version (removal_at old k)
put_behind given old i n key version k is_key is_version positive lt same =
    ap (λ (m : ℕ). removal_at (0 ∷ slice_set given (m - 1) n) k) is_key ∙ ap (λ (m : ℕ). removal_at (0 ∷ slice_set given (key - 1) m) k) is_version
    ∙ ap (λ (rs : List ℕ). removal_at rs k) (sym (set_behind 0 given key version positive)) ∙ put_at (0 ∷ given) old key version k lt same

held_at : (rs : List ℕ) (k : ℕ) → AllByRecursion IsVersionHeld rs → IsVersionHeld (removal_at rs k)
held_at [] k all = omega arith
held_at (r ∷ rs) zero all = all.0
held_at (r ∷ rs) (suc k) all = held_at rs k all.1

-- ---- what shows at a key

pub shown_removed : (n v : ℕ) (w : Versioned) → Some v ≡ version_if_any n → tombstone_or n w ≡ record { text = None; version = v }
shown_removed zero v w e = absurd cc
shown_removed (suc n) v w e = let same : v ≡ suc n = cc in ap (λ m. record { text = None; version = m }) (sym same)

pub shown_kept : (n : ℕ) (w : Versioned) → None ≡ version_if_any n → tombstone_or n w ≡ w
shown_kept zero w e = refl
shown_kept (suc n) w e = absurd cc

under_none : (es : List (ℕ × Versioned)) → map (removed_under []) es ≡ es
under_none [] = refl
under_none (e ∷ es) = ap (λ (ys : List (ℕ × Versioned)). e ∷ ys) (under_none es)

keys-under : (rs : List ℕ) (es : List (ℕ × Versioned)) → keys_of (map (removed_under rs) es) ≡ keys_of es
keys-under rs [] = refl
keys-under rs (e ∷ es) = ap (λ (ks : List ℕ). e.0 ∷ ks) (keys-under rs es)

find-under : (rs : List ℕ) (q : ℕ) (es : List (ℕ × Versioned)) → find nat_cmp q (map (removed_under rs) es) ≡ option_map (tombstone_or (removal_at rs q)) (find nat_cmp q es)
find-under rs q [] = refl
find-under rs q (e ∷ es) =
    elim (eq_by_cmp nat_cmp q e.0) as (λ b. eq_by_cmp nat_cmp q e.0 ≡ b → cond b (Some (tombstone_or (removal_at rs e.0) e.1)) (find nat_cmp q (map (removed_under rs) es)) ≡ option_map (tombstone_or (removal_at rs q)) (cond b (Some e.1) (find nat_cmp q es))) [
      | true ↦ λ tied. ap (λ (k : ℕ). Some (tombstone_or (removal_at rs k) e.1)) (sym (same_tied q e.0 tied))
      | false ↦ λ tied. find-under rs q es
    ] refl

pub entries-under : (rs : List ℕ) (states : States) → entries (with_tombstones rs states) ≡ map (removed_under rs) (entries states)
entries-under [] states = sym (under_none (entries states))
entries-under (r ∷ rs) states =
    entries_rising (map (removed_under (r ∷ rs)) (entries states)) (rw (keys-under (r ∷ rs) (entries states)) (rise_sorted (entries states) (entries_sorted states)))

pub get-under : (rs : List ℕ) (states : States) (q : ℕ) → get (with_tombstones rs states) q ≡ option_map (tombstone_or (removal_at rs q)) (get states q)
get-under rs states q =
    get-entries (with_tombstones rs states) q ∙ ap (find nat_cmp q) (entries-under rs states) ∙ find-under rs q (entries states)
    ∙ ap (option_map (tombstone_or (removal_at rs q))) (sym (get-entries states q))

-- what an entry shows at a key
pub shows_at : (rs : List ℕ) (states shown : States) (q : ℕ) (o : Option Versioned) → with_tombstones rs states ≡ shown → get states q ≡ o → get shown q ≡ option_map (tombstone_or (removal_at rs q)) o
shows_at rs states shown q o seen is = ap (λ (m : States). get m q) (sym seen) ∙ get-under rs states q ∙ ap (option_map (tombstone_or (removal_at rs q))) is

pub len-under : (rs : List ℕ) (states : States) → length (entries (with_tombstones rs states)) ≡ finmap.len states
len-under rs states = ap length (entries-under rs states) ∙ length-map (entries states) (removed_under rs) ∙ sym (len-entries states)

-- ---- in range

one_valid : (e : ℕ × Versioned) (n : ℕ) → IsVersionHeld n → IsState e → IsState (e.0, tombstone_or n e.1)
one_valid e zero held is = is
one_valid e (suc n) held is = record { key = is.key; version = (omega arith, held); text = tt }

under_valid : (rs : List ℕ) (es : List (ℕ × Versioned)) → AllByRecursion IsVersionHeld rs → AllByRecursion IsState es → AllByRecursion IsState (map (removed_under rs) es)
under_valid rs [] held all = tt
under_valid rs (e ∷ es) held all = (one_valid e (removal_at rs e.0) (held_at rs e.0 held) all.0, under_valid rs es held all.1)

pub states_valid : (rs : List ℕ) (states : States) → AllByRecursion IsVersionHeld rs → AreStates states → AreStates (with_tombstones rs states)
states_valid rs states held all = subst (λ es. AllByRecursion IsState es) (sym (entries-under rs states)) (under_valid rs (entries states) held all)

-- ---- one more removal

ties : (q k : ℕ) → (q == k) ≡ eq_by_cmp nat_cmp q k
ties q k = grind (arith, nat_tests)

text_removed : (o : Option Versioned) (n version : ℕ) → is_text (option_map (tombstone_or n) o) ≡ true → 0 < version → option_map (tombstone_or version) o ≡ Some (record { text = None; version = version })
text_removed None n version stood positive = absurd cc
text_removed (Some w) n zero stood positive = absurd (omega arith)
text_removed (Some w) n (suc v) stood positive = refl

-- one more is a tombstone, put in the place of a text
pub one_removed : (rs more : List ℕ) (key version : ℕ) (states : States) → ((k : ℕ) → removal_at more k ≡ cond (k == key) version (removal_at rs k)) → 0 < version → is_text (get (with_tombstones rs states) key) ≡ true
    → with_tombstones more states ≡ insert (with_tombstones rs states) key (record { text = None; version = version })
one_removed rs more key version states each positive stood =
    let tombstone : Versioned = record { text = None; version = version } in
    let shown : States = with_tombstones rs states in
    same_map nat_cmp_total nat_cmp-IsAntisymmetric (with_tombstones more states) (insert shown key tombstone) (λ q.
    get-under more states q ∙ ap (λ n. option_map (tombstone_or n) (get states q)) (each q ∙ ap (λ b. cond b version (removal_at rs q)) (ties q key))
    ∙ (elim (eq_by_cmp nat_cmp q key) as (λ b. eq_by_cmp nat_cmp q key ≡ b → option_map (tombstone_or (cond b version (removal_at rs q))) (get states q) ≡ cond b (Some tombstone) (get shown q)) [
      | true ↦ λ tied. text_removed (get states q) (removal_at rs q) version (ap is_text (sym (get-under rs states q)) ∙ ap (λ k. is_text (get shown k)) (same_tied q key tied) ∙ stood) positive
      | false ↦ λ tied. sym (get-under rs states q)
    ] refl)
    ∙ sym (get-insert nat_cmp_total shown key tombstone q))
