-- Lists whose owners rise, read at an owner.
use Rattle.std.proofs.Common.{◌≡◌, ◌==◌, ℕ, Bool, true, false, cond, List, [], ◌∷◌, map, Option, Some, None, refl, sym, ap, ◌∙◌, arith, eqb-true}
use Rattle.std.specs.Prelude.{find}
use Rattle.std.specs.List.{filter_map, cons_option}
use Rattle.std.specs.Option.{option_map, option_and_then}
use Rattle.std.specs.Ordering.{nat_cmp}
use Rattle.std.specs.FinMap as table
use Rattle.std.specs.FinMap.Entries as entries
use Rattle.cg_types.specs.Rising.{is_past, rise_past, Rises}
use Rattle.cg_types.proofs.RisingLemmas.{second_of}
use Rattle.cg_entry.specs.Values.{EntryValue}
use Rattle.cg_table.specs.Values.{Entries}
use Rattle.cg_exchange.proofs.WalkLemmas.{find_none, same_test}

module _ {X Y : Type 0} (key : X → ℕ) (kept : Y → ℕ) (f : X → Option Y) (same : (x : X) (y : Y) → f x ≡ Some y → kept y ≡ key x) where
  abbrev FoundMapped : ℕ → List X → Type 0
  FoundMapped q xs = find (λ y. kept y == q) (filter_map f xs) ≡ option_and_then f (find (λ x. key x == q) xs)

  found_by : (q : ℕ) (x : X) (xs : List X) → rise_past (Some (key x)) (map key xs) ≡ true → FoundMapped q xs → (o : Option Y) → f x ≡ o → (b : Bool) → (key x == q) ≡ b
      → find (λ y. kept y == q) (cons_option o (filter_map f xs)) ≡ option_and_then f (cond b (Some x) (find (λ x. key x == q) xs))
  found_by q x xs rise rest None e true t = rest ∙ ap (option_and_then f) (find_none key q (key x) xs (omega (arith, eqb-true (key x) q t)) rise) ∙ sym e
  found_by q x xs rise rest None e false t = rest
  found_by q x xs rise rest (Some y) e true t = rw (same x y e, t) (sym e)
  found_by q x xs rise rest (Some y) e false t = rw (same x y e, t) rest

  found_past : (q : ℕ) (last : Option ℕ) (xs : List X) → rise_past last (map key xs) ≡ true → FoundMapped q xs
  found_past q last [] h = refl
  found_past q last (x ∷ xs) h =
      let rest = second_of (is_past last (key x)) (rise_past (Some (key x)) (map key xs)) h in
      found_by q x xs rest (found_past q (Some (key x)) xs rest) (f x) refl (key x == q) refl

  -- a rule over a list that rises, read at an owner, is the rule at the owner's member
  pub found_mapped : (q : ℕ) (xs : List X) → Rises (map key xs) → FoundMapped q xs
  found_mapped q xs h = found_past q None xs h

pub found_map : {X Y : Type 0} (key : X → ℕ) (kept : Y → ℕ) (g : X → Y) → ((x : X) → kept (g x) ≡ key x) → (q : ℕ) (xs : List X) → find (λ y. kept y == q) (map g xs) ≡ option_map g (find (λ x. key x == q) xs)
found_map key kept g same q [] = refl
found_map {X} {Y} key kept g same q (x ∷ xs) =
    rw (same x) (elim (key x == q) as (λ b. cond b (Some (g x)) (find (λ y. kept y == q) (map g xs)) ≡ option_map g (cond b (Some x) (find (λ x. key x == q) xs))) [
      | true ↦ refl
      | false ↦ found_map key kept g same q xs
    ])

row_by : (q : ℕ) (r : ℕ × EntryValue) (b : Bool) → (r.0 == q) ≡ b → (rest : Option (ℕ × EntryValue)) (held : Option EntryValue) → rest ≡ option_map (λ e. (q, e)) held
    → cond b (Some r) rest ≡ option_map (λ e. (q, e)) (cond b (Some r.1) held)
row_by q r true t rest held is = ap (λ k. Some (k, r.1)) (eqb-true r.0 q t)
row_by q r false t rest held is = is

row_at : (q : ℕ) (rows : List (ℕ × EntryValue)) → find (λ r. r.0 == q) rows ≡ option_map (λ e. (q, e)) (entries.find nat_cmp q rows)
row_at q [] = refl
row_at q (r ∷ rows) =
    row_by q r (r.0 == q) refl (find (λ r. r.0 == q) rows) (entries.find nat_cmp q rows) (row_at q rows)
    ∙ ap (λ b. option_map (λ e. (q, e)) (cond b (Some r.1) (entries.find nat_cmp q rows))) (same_test r.0 q)

-- the row of an owner has the entry held of it
pub row_held : (m : Entries) (q : ℕ) → find (λ r. r.0 == q) (table.entries m) ≡ option_map (λ e. (q, e)) (table.get m q)
row_held m q = row_at q (table.entries m) ∙ ap (option_map (λ e. (q, e))) (sym (table.get-entries m q))
