-- Entries that move on, and the put of one.
use Rattle.std.proofs.Common.{◌≡◌, ℕ, ◌⊎◌, inl, inr, Bool, true, false, cond, [], ◌∷◌, Option, Some, None, refl, sym, subst, ◌∙◌}
use Rattle.std.specs.Ordering.{nat_cmp, eq_by_cmp}
use Rattle.std.specs.FinMap.{get, insert}
use Rattle.std.proofs.lemmas.Option.{same_Some}
use Rattle.cg_types.proofs.RisingLemmas.{same_tied}
use Rattle.cg_entry.specs.Values.{EntryValue}
use Rattle.cg_entry.specs.Entry.{is_later}
use Rattle.cg_table.specs.Values.{Entries}
use Rattle.cg_table.specs.Merge.{is_ahead, later_entries}
use Rattle.cg_table.proofs.PutsLemmas.{later_entries-put_each}
use Rattle.cg_core.proofs.OrderLemmas.{ahead_on}

-- the entry held of an owner is the same, or a later one
abbrev pub Moves : Option EntryValue → Option EntryValue → Type 0
Moves before after = (after ≡ before) ⊎ ((e : EntryValue) × ((after ≡ Some e) × (is_ahead before e ≡ true)))

ahead_is_later : (held : Option EntryValue) (y z : EntryValue) → held ≡ Some y → is_ahead held z ≡ true → is_later z y ≡ true
ahead_is_later held y z is ahead = rw is at ahead

pub moves_on : (a b c : Option EntryValue) → Moves a b → Moves b c → Moves a c
moves_on a b c (inl p) (inl q) = inl (q ∙ p)
moves_on a b c (inl p) (inr q) = inr (q.0, (q.1.0, subst (λ (o : Option EntryValue). is_ahead o q.0 ≡ true) p q.1.1))
moves_on a b c (inr p) (inl q) = inr (p.0, (q ∙ p.1.0, p.1.1))
moves_on a b c (inr p) (inr q) = inr (q.0, (q.1.0, ahead_on a p.0 q.0 p.1.1 (ahead_is_later b p.0 q.0 p.1.0 q.1.1)))

-- ---- one put

one_ahead : (m : Entries) (own : ℕ) (e : EntryValue) → is_ahead (get m own) e ≡ true → (q : ℕ) (x : EntryValue) (b : Bool) → eq_by_cmp nat_cmp q own ≡ b → cond b (Some e) None ≡ Some x → is_ahead (get m q) x ≡ true
one_ahead m own e ahead q x true is found = (λ i. is_ahead (get m (same_tied q own is i)) (sym (same_Some e x found) i)) ∙ ahead
one_ahead m own e ahead q x false is found = absurd cc

-- if one later entry is put, it is the only put
pub only_put : (m : Entries) (own : ℕ) (e : EntryValue) → is_ahead (get m own) e ≡ true → later_entries m (insert m own e) ≡ (own, e) ∷ []
only_put m own e ahead = later_entries-put_each m ((own, e) ∷ []) refl (λ q x found. one_ahead m own e ahead q x (eq_by_cmp nat_cmp q own) refl found)
