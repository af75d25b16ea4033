-- The laws of histories.
use Rattle.std.proofs.Common.{◌≡◌, ℕ, suc, ◌+◌, ◌<◌, ◌≤◌, ◌⊎◌, inl, inr, List, [], ◌∷◌, ◌++◌, length, Some, sym, subst, ◌∙◌, arith, length-append}
use Rattle.cg_entry.specs.Values.{EntryValue}
use Rattle.cg_entry.specs.Entry.{starting_entry}
use Rattle.cg_types.specs.ListPlace.{at_place}
use Rattle.cg_entry.specs.History.{Follows, IsHistory}
use Rattle.cg_entry.specs.Laws.{HistoriesGrow, EntriesRise, VersionsNameEntries}
use Rattle.cg_entry.proofs.PlaceLemmas.{at_place_within, at_place-append, at_place_last}
use Rattle.cg_entry.proofs.HistoryLemmas.{compared, later_is, same_named}

start_begins : (g : ℕ) → IsHistory (starting_entry g ∷ [])
start_begins g = record {
  begins = λ x e. (g, let same : starting_entry g ≡ x = cc in sym same);
  goes_on = λ p x y ex ey. absurd (omega (arith, (at_place_within (starting_entry g ∷ []) p x ex).0, (at_place_within (starting_entry g ∷ []) (suc p) y ey).1));
}

-- an entry that follows the last one
module _ (h : List EntryValue) (last y : EntryValue) (is : IsHistory h) (there : at_place h (length h) ≡ Some last) (follows : Follows last y) where
  within : (p : ℕ) (z : EntryValue) → at_place (h ++ y ∷ []) p ≡ Some z → p ≤ length h + 1
  within p z e = omega (arith, (at_place_within (h ++ y ∷ []) p z e).1, length-append h (y ∷ []))

  goes_on : (p : ℕ) (x z : EntryValue) → at_place (h ++ y ∷ []) p ≡ Some x → at_place (h ++ y ∷ []) (suc p) ≡ Some z → (p < length h) ⊎ (length h ≤ p) → Follows x z
  goes_on p x z ex ez (inl l) = is.goes_on p x z (sym (at_place-append h (y ∷ []) p (omega arith)) ∙ ex) (sym (at_place-append h (y ∷ []) (suc p) l) ∙ ez)
  goes_on p x z ex ez (inr l) =
      let same : length h ≡ p = omega (arith, within (suc p) z ez) in
      let here : at_place h (length h) ≡ Some x = sym (at_place-append h (y ∷ []) (length h) (omega arith)) ∙ subst (λ n. at_place (h ++ y ∷ []) n ≡ Some x) (sym same) ex in
      let next : at_place (h ++ y ∷ []) (suc (length h)) ≡ Some z = subst (λ n. at_place (h ++ y ∷ []) (suc n) ≡ Some z) (sym same) ez in
      let end = at_place_last h y in
      let from : last ≡ x = cc in
      let to : y ≡ z = cc in
      subst (λ x. Follows x z) from (subst (Follows last) to follows)

  grown : IsHistory (h ++ y ∷ [])
  grown = record {
    begins = λ x e. is.begins x (sym (at_place-append h (y ∷ []) 1 (omega (arith, (at_place_within h (length h) last there).0))) ∙ e);
    goes_on = λ p x z ex ez. goes_on p x z ex ez (grind arith);
  }

pub histories_grow : HistoriesGrow
histories_grow = record { first = start_begins; next = λ h x y is there follows. grown h x y is there follows }

pub entries_rise : EntriesRise
entries_rise h is p q x y ex ey lt = later_is p q x y (compared h p q is x y ex ey) lt

pub versions_name_entries : VersionsNameEntries
versions_name_entries h is p q x y ex ey g n = same_named p q x y (compared h p q is x y ex ey) g n
