-- Sources that are read one after the other, source by source.
use Rattle.std.proofs.Common.{◌≡◌, ℕ, zero, suc, ◌+◌, List, [], ◌∷◌, length, Some, refl, sym, subst, inl, inr, arith, slice_get}
use Rattle.std.proofs.Math.ListN.{set}
use Rattle.cg_history.specs.History.{HistoryValue}
use Rattle.cg_journal.specs.declared.unread.Unread.{Unread}
use Rattle.cg_audit.specs.Items.{LivesValue}
use Rattle.cg_tool.specs.Gathered.{Gathers, GathersNone, GathersAll, StopsAt}

module _ {S : Type 0} (reads : S → S → HistoryValue → Type 0) (fails : S → S → Unread → Type 0) where
  -- the first sources, this many, were read, and the others are as they were
  abbrev pub AtSource : ℕ → List S → List S → List LivesValue → List LivesValue → Type 0
  AtSource zero ss ts a b = (ss ≡ ts) × (a ≡ b)
  AtSource (suc i) (s ∷ ss) (t ∷ ts) a b = (m : List LivesValue) × Gathers reads fails s t a m × AtSource i ss ts m b
  AtSource (suc i) _ _ a b = ⊥

  one_more : (i : ℕ) (ss ts : List S) (x y : S) (a b c : List LivesValue) → AtSource i ss ts a b → slice_get ts i ≡ Some x → Gathers reads fails x y b c → AtSource (suc i) ss (set ts i y) a c
  one_more zero ss [] x y a b c at here one = absurd cc
  one_more zero ss (t ∷ ts) x y a b c at here one =
      let same : t ≡ x = cc in
      subst (λ us. AtSource 1 us (y ∷ ts) a c) (sym at.0) (c, subst (λ m. Gathers reads fails t y m c) (sym at.1) (subst (λ z. Gathers reads fails z y b c) (sym same) one), (refl, refl))
  one_more (suc i) [] ts x y a b c at here one = absurd at
  one_more (suc i) (s ∷ ss) [] x y a b c at here one = absurd at
  one_more (suc i) (s ∷ ss) (t ∷ ts) x y a b c at here one = (at.0, at.1, one_more i ss ts x y at.0 b c at.2 here one)

  -- one source more
  pub at_next : (i : ℕ) (ss ts : List S) (x y : S) (a b c : List LivesValue) → AtSource i ss ts a b → slice_get ts i ≡ Some x → Gathers reads fails x y b c → AtSource (i + 1) ss (set ts i y) a c
  at_next i ss ts x y a b c at here one = let next : suc i ≡ i + 1 = omega arith in subst (λ n. AtSource n ss (set ts i y) a c) next (one_more i ss ts x y a b c at here one)

  -- all of them
  pub at_end : (i : ℕ) (ss ts : List S) (a b : List LivesValue) → AtSource i ss ts a b → i ≡ length ts → GathersAll reads fails ss ts a b
  at_end zero ss [] a b at all = subst (λ us. GathersAll reads fails us [] a b) (sym at.0) at.1
  at_end zero ss (t ∷ ts) a b at all = absurd (omega (arith, all))
  at_end (suc i) [] ts a b at all = absurd at
  at_end (suc i) (s ∷ ss) [] a b at all = absurd at
  at_end (suc i) (s ∷ ss) (t ∷ ts) a b at all = (at.0, at.1, at_end i ss ts at.0 b at.2 (omega (arith, all)))

  -- the next one is not read
  pub stops_here : (i : ℕ) (ss ts : List S) (x y : S) (a b : List LivesValue) (u : Unread) → AtSource i ss ts a b → slice_get ts i ≡ Some x → GathersNone reads fails x y b b u → StopsAt reads fails ss (set ts i y) a u
  stops_here zero ss [] x y a b u at here none = absurd cc
  stops_here zero ss (t ∷ ts) x y a b u at here none =
      let same : t ≡ x = cc in
      subst (λ us. StopsAt reads fails us (y ∷ ts) a u) (sym at.0) (inl (subst (λ m. GathersNone reads fails t y m m u) (sym at.1) (subst (λ z. GathersNone reads fails z y b b u) (sym same) none), refl))
  stops_here (suc i) [] ts x y a b u at here none = absurd at
  stops_here (suc i) (s ∷ ss) [] x y a b u at here none = absurd at
  stops_here (suc i) (s ∷ ss) (t ∷ ts) x y a b u at here none = inr (at.0, at.1, stops_here i ss ts x y at.0 b u at.2 here none)
