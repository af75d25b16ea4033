-- Steps, one more and all of them.
use Rattle.std.proofs.Common.{◌≡◌, ℕ, ◌+◌, ◌<◌, List, [], ◌∷◌, ◌++◌, length, get_or, refl, sym, ap, ◌∙◌, subst}
use Rattle.std.specs.Prelude.{take}
use Rattle.std.proofs.lemmas.List.{take_more}
use Rattle.cg_workers.specs.Each.{Each}

module _ {X S : Type 0} (step : X → S → S → Type 0) where
  -- a step more
  pub each_more : (xs : List X) (x : X) (s u t : S) → Each step xs s u → step x u t → Each step (xs ++ (x ∷ [])) s t
  each_more [] x s u t same last = (t, subst (λ (v : S). step x v t) same last, refl)
  each_more (y ∷ ys) x s u t steps last = (steps.0, steps.1, each_more ys x steps.0 u t steps.2 last)

  -- the step of the next of these
  pub each_next : (xs : List X) (i : ℕ) (x : X) (s u t : S) → i < length xs → x ≡ get_or xs i x → Each step (take i xs) s u → step x u t → Each step (take (i + 1) xs) s t
  each_next xs i x s u t less is steps last =
      subst (λ (l : List X). Each step l s t) (ap (λ (y : X). take i xs ++ (y ∷ [])) is ∙ sym (take_more xs i x less)) (each_more (take i xs) x s u t steps last)

  -- All steps together keep what each step keeps.
  pub each_keeps : (keeps : S → S → Type 0) → ((s : S) → keeps s s) → ((s u t : S) → keeps s u → keeps u t → keeps s t)
      → ((x : X) (s t : S) → step x s t → keeps s t) → (xs : List X) (s t : S) → Each step xs s t → keeps s t
  each_keeps keeps same both one [] s t is = subst (keeps s) (sym is) (same s)
  each_keeps keeps same both one (x ∷ xs) s t steps = both s steps.0 t (one x s steps.0 steps.1) (each_keeps keeps same both one xs steps.0 t steps.2)
