-- A table with entries put is in range, if the table and the entries are.
use Rattle.std.proofs.Common.{◌≡◌, ℕ, Bool, true, false, cond, List, [], ◌∷◌, Some, None, ◌++◌, refl, sym, subst, ◌∙◌}
use Rattle.std.specs.List.{AllByRecursion}
use Rattle.std.specs.Ordering.{nat_cmp, eq_by_cmp}
use Rattle.std.specs.Cmp.{nat_cmp_total}
use Rattle.std.specs.FinMap.{empty, get, insert, get-insert, get-empty}
use Rattle.cg_types.proofs.RisingLemmas.{same_tied}
use Rattle.cg_types.specs.Map.{put_each}
use Rattle.cg_entry.specs.Values.{EntryValue}
use Rattle.cg_table.specs.Values.{Entries, IsOwnerEntry, IsOwnerRow, AreOwnerEntries}

none_held : AreOwnerEntries empty
none_held owner entry e = let m : Entries = empty in let none : get m owner ≡ None = get-empty nat_cmp owner in absurd cc

pub insert_held : (m : Entries) (k : ℕ) (v : EntryValue) → AreOwnerEntries m → IsOwnerEntry k v → AreOwnerEntries (insert m k v)
insert_held m k v are is owner entry e = go (eq_by_cmp nat_cmp owner k) refl (sym (get-insert nat_cmp_total m k v owner) ∙ e)
  where
    go : (b : Bool) → eq_by_cmp nat_cmp owner k ≡ b → cond b (Some v) (get m owner) ≡ Some entry → IsOwnerEntry owner entry
    go true same found = let value : v ≡ entry = cc in subst (λ (x : EntryValue). IsOwnerEntry owner x) value (subst (λ (q : ℕ). IsOwnerEntry q v) (sym (same_tied owner k same)) is)
    go false other found = are owner entry found

pub alone_held : (own : ℕ) (entry : EntryValue) → IsOwnerEntry own entry → AreOwnerEntries (insert empty own entry)
alone_held own entry is = insert_held empty own entry none_held is

-- one more row
pub all_more : (P : ℕ × EntryValue → Type 0) (rows : List (ℕ × EntryValue)) (r : ℕ × EntryValue) → AllByRecursion P rows → P r → AllByRecursion P (rows ++ r ∷ [])
all_more P [] r all is = (is, tt)
all_more P (x ∷ rows) r all is = (all.0, all_more P rows r all.1 is)

pub put_each_held : (rows : List (ℕ × EntryValue)) (m : Entries) → AllByRecursion IsOwnerRow rows → AreOwnerEntries m → AreOwnerEntries (put_each rows m)
put_each_held [] m all are = are
put_each_held (r ∷ rows) m all are = put_each_held rows (insert m r.0 r.1) all.1 (insert_held m r.0 r.1 are all.0)
