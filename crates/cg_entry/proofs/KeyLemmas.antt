-- The entry found at a key of rising entries that were filtered, or of mapped ones.
use Rattle.std.proofs.Common.{◌≡◌, ℕ, Bool, true, false, cond, List, [], ◌∷◌, map, Option, Some, None, refl, sym, ap, ◌∙◌}
use Rattle.std.specs.List.{filter}
use Rattle.std.specs.Option.{option_map}
use Rattle.std.specs.Ordering.{nat_cmp, eq_by_cmp}
use Rattle.std.specs.FinMap.Entries.{find}
use Rattle.std.proofs.lemmas.Map.Entries.{option_filter}
use Rattle.cg_types.specs.Rising.{is_past, rise_past}
use Rattle.cg_types.proofs.RisingLemmas.{keys_of, find_past, same_tied, second_of}

module _ {X : Type 0} (p : ℕ × X → Bool) (q : ℕ) where
  -- the first entry has the key
  filtered_here : (e : ℕ × X) (es : List (ℕ × X)) (b : Bool) → eq_by_cmp nat_cmp q e.0 ≡ true → find nat_cmp q (filter p es) ≡ None
      → find nat_cmp q (cond b (e ∷ filter p es) (filter p es)) ≡ cond b (Some e.1) None
  filtered_here e es true is none = rw is refl
  filtered_here e es false is none = none

  -- the first entry has another key
  filtered_past : (e : ℕ × X) (es : List (ℕ × X)) (b : Bool) → eq_by_cmp nat_cmp q e.0 ≡ false → find nat_cmp q (cond b (e ∷ filter p es) (filter p es)) ≡ find nat_cmp q (filter p es)
  filtered_past e es true is = rw is refl
  filtered_past e es false is = refl

  pub find-filter : (last : Option ℕ) (es : List (ℕ × X)) → rise_past last (keys_of es) ≡ true → find nat_cmp q (filter p es) ≡ option_filter (λ x. p (q, x)) (find nat_cmp q es)
  find-filter last [] h = refl
  find-filter last (e ∷ es) h = go (find-filter (Some e.0) es after) (eq_by_cmp nat_cmp q e.0) refl
    where
      after : rise_past (Some e.0) (keys_of es) ≡ true
      after = second_of (is_past last e.0) (rise_past (Some e.0) (keys_of es)) h

      go : find nat_cmp q (filter p es) ≡ option_filter (λ x. p (q, x)) (find nat_cmp q es) → (b : Bool) → eq_by_cmp nat_cmp q e.0 ≡ b
          → find nat_cmp q (filter p (e ∷ es)) ≡ option_filter (λ x. p (q, x)) (cond b (Some e.1) (find nat_cmp q es))
      go rest true is =
          filtered_here e es (p e) is (rest ∙ ap (option_filter (λ x. p (q, x))) (find_past q e.0 es is after))
          ∙ ap (λ k. cond (p (k, e.1)) (Some e.1) None) (sym (same_tied q e.0 is))
      go rest false is = filtered_past e es (p e) is ∙ rest

pub find-map : {X Y : Type 0} (f : X → Y) (q : ℕ) (es : List (ℕ × X)) → find nat_cmp q (map (λ e. (e.0, f e.1)) es) ≡ option_map f (find nat_cmp q es)
find-map f q [] = refl
find-map f q (e ∷ es) = elim (eq_by_cmp nat_cmp q e.0) as (λ b. cond b (Some (f e.1)) (find nat_cmp q (map (λ e. (e.0, f e.1)) es)) ≡ option_map f (cond b (Some e.1) (find nat_cmp q es))) [ true ↦ refl | false ↦ find-map f q es ]
