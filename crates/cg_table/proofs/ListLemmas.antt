-- Lists of the items that those of another lead to, one by one.
use Rattle.std.proofs.Common.{◌≡◌, ℕ, ◌+◌, ◌<◌, List, [], ◌∷◌, ◌++◌, length, take, get_or, Option, Some, None, refl, sym, ap, ◌∙◌}
use Rattle.std.specs.List.{filter_map, cons_option}
use Rattle.std.specs.Option.{option_to_list}
use Rattle.std.proofs.lemmas.List.{take_more}
use Rattle.std.proofs.lemmas.List.Elements.{filter_map-append}

module _ {X Y : Type 0} (f : X → Option Y) where
  one_mapped : (x : X) → filter_map f (x ∷ []) ≡ option_to_list (f x)
  one_mapped x = elim (f x) as (λ o. cons_option o [] ≡ option_to_list o) [ Some y ↦ refl | None ↦ refl ]

  -- one item more, if it leads to one
  pub filter_map_more : (xs : List X) (i : ℕ) (x : X) → i < length xs → x ≡ get_or xs i x → filter_map f (take (i + 1) xs) ≡ filter_map f (take i xs) ++ option_to_list (f x)
  filter_map_more xs i x lt is =
      ap (filter_map f) (take_more xs i x lt) ∙ filter_map-append f (take i xs) (get_or xs i x ∷ [])
      ∙ ap (λ y. filter_map f (take i xs) ++ filter_map f (y ∷ [])) (sym is) ∙ ap (λ ys. filter_map f (take i xs) ++ ys) (one_mapped x)
