-- A state that is put into a list, and maps laid over one another.
use Rattle.std.proofs.Common.{◌≡◌, ℕ, List, ◌++◌, Option, sym, ap, ◌∙◌}
use Rattle.std.specs.Ordering.{nat_cmp}
use Rattle.std.specs.Option.{option_or}
use Rattle.std.specs.Cmp.{nat_cmp_total}
use Rattle.std.specs.FinMap.Entries.{put, find, is_sorted-put}
use Rattle.std.specs.FinMap as map
use Rattle.std.specs.FinMap.{get, entries, from_sorted, same_entries_map, entries-insert, same_map, nat_cmp-IsAntisymmetric, get-from_entries, get-entries, get-empty}
use Rattle.cg_types.proofs.RisingLemmas.{rise_sorted, sorted_rising, find-before}
use Rattle.cg_entry.specs.declared.state.State.{State}
use Rattle.cg_entry.specs.Versioned.{Versioned, States}
use Rattle.cg_entry.specs.State.{pairs, KeysRise}
use Rattle.cg_entry.specs.Entry.{overlay}
use Rattle.cg_entry.proofs.StateLemmas.{keys-pairs, pairs_rise, entries-pairs}

-- keys that rise still rise with one more put in
pub put_rises : (k : ℕ) (v : Versioned) (xs ys : List State) → KeysRise xs → pairs ys ≡ put nat_cmp k v (pairs xs) → KeysRise ys
put_rises k v xs ys h e =
    rw (← keys-pairs ys) (rw e (rise_sorted (put nat_cmp k v (pairs xs)) (is_sorted-put nat_cmp nat_cmp_total k v (pairs xs) (sorted_rising (pairs xs) (pairs_rise xs h)))))

-- the state that an overlay has at a key
pub get-overlay : (old new : States) (q : ℕ) → get (overlay old new) q ≡ option_or (get new q) (get old q)
get-overlay old new q =
    get-from_entries nat_cmp_total (entries new ++ entries old) q ∙ find-before q (entries new) (entries old)
    ∙ ap (λ (o : Option Versioned). option_or o (find nat_cmp q (entries old))) (sym (get-entries new q)) ∙ ap (option_or (get new q)) (sym (get-entries old q))

-- an overlay by no states changes nothing
pub overlay_none : (old : States) → overlay old map.empty ≡ old
overlay_none old =
    same_map nat_cmp_total nat_cmp-IsAntisymmetric (overlay old map.empty) old (λ q.
    get-overlay old map.empty q ∙ ap (λ (o : Option Versioned). option_or o (get old q)) (get-empty nat_cmp q))

-- a state put into a list is inserted into its map
pub put_inserted : (k : ℕ) (v : Versioned) (given xs ys : List State) (states : States) → given ≡ xs → KeysRise xs → from_sorted {R = nat_cmp} (pairs xs) ≡ states → pairs ys ≡ put nat_cmp k v (pairs given)
    → from_sorted {R = nat_cmp} (pairs ys) ≡ map.insert states k v
put_inserted k v given xs ys states same rise seen e =
    let was : entries states ≡ pairs xs = ap entries (sym seen) ∙ entries-pairs xs rise in
    let made : pairs ys ≡ put nat_cmp k v (pairs xs) = e ∙ ap (λ (zs : List State). put nat_cmp k v (pairs zs)) same in
    same_entries_map (from_sorted {R = nat_cmp} (pairs ys)) (map.insert states k v)
    (entries-pairs ys (put_rises k v xs ys rise made) ∙ made ∙ ap (put nat_cmp k v) (sym was) ∙ sym (entries-insert nat_cmp_total states k v))
