-- States that are chosen stay in range.
use Rattle.std.proofs.Common.{ℕ, Bool, true, false, cond, List, [], ◌∷◌, nat_lt}
use Rattle.std.specs.List.{AllByRecursion, filter}
use Rattle.cg_entry.specs.declared.state.State.{State}
use Rattle.cg_entry.specs.Contents.{IsState}
use Rattle.cg_entry.specs.State.{pair, pairs}
use Rattle.cg_entry.specs.Versioned.{Versioned}
use Rattle.cg_entry.proofs.StateLemmas.{newer, pairs-filter}

abbrev pub AreValid : List (ℕ × Versioned) → Type 0
AreValid es = AllByRecursion IsState es

pub all_filter : {X : Type 0} (P : X → Type 0) (p : X → Bool) (xs : List X) → AllByRecursion P xs → AllByRecursion P (filter p xs)
all_filter P p [] all = tt
all_filter P p (x ∷ xs) all =
    elim (p x) as (λ b. AllByRecursion P (cond b (x ∷ filter p xs) (filter p xs))) [
      | true ↦ (all.0, all_filter P p xs all.1)
      | false ↦ all_filter P p xs all.1
    ]

pub newer_valid : (v : ℕ) (items : List State) → AreValid (pairs items) → AreValid (pairs (newer v items))
newer_valid v items all = rw (pairs-filter v items) (all_filter IsState (λ s. nat_lt v s.1.version) (pairs items) all)

-- a fact of each state of a list is a fact of each entry that the states are
pub all_pairs : (P : ℕ × Versioned → Type 0) (ss : List State) → AllByRecursion (λ (s : State). P (pair s)) ss → AllByRecursion P (pairs ss)
all_pairs P [] all = tt
all_pairs P (s ∷ ss) all = (all.0, all_pairs P ss all.1)
