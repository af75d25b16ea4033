-- One connection, one turn and one line more.
use Rattle.std.proofs.Common.{◌≡◌, ℕ, List, [], ◌∷◌, ◌++◌, Option, Result, Some, None, refl, subst, inl, inr}
use Rattle.rand_core.specs.Stream.{Stream}
use Rattle.cg_types.specs.declared.fault.Fault.{Fault}
use Rattle.cg_core.specs.Values.{NodeValue}
use Rattle.cg_workers.specs.Each.{Each}
use Rattle.cg_workers.proofs.EachLemmas.{each_more}
use Rattle.cg_ahead_seats.specs.Gates.{AheadValue, forgotten}
use Rattle.cg_agent.specs.Work.{ThenForgets, Came, AllCame, HasAnswered, TurnedBy, TurnedOn}
use Rattle.cg_agent.specs.Lines.{DoneLine, DoneLines}
use Rattle.cg_web.specs.Requests.{DoneChange, DoneRequests}

module _ (start : NodeValue) (own : ℕ) {R W L : Type 0} (remaining : R → Option (List ℕ)) (contents : W → Option (List ℕ))
    (accepts : L → Result (Option (R × W)) Fault → L → Type 0) (shows : ℕ → Type 0) where
  -- some connections came and were answered
  abbrev pub SomeCame : L × AheadValue → L × AheadValue → Type 0
  SomeCame s t = (each : List (Option Fault)) × AllCame start own remaining contents accepts shows each s t

  pub none_came : (s : L × AheadValue) → SomeCame s s
  none_came s = ([], refl)

  pub one_came : (broken : Option Fault) (s u : L × AheadValue) (l : L) (h k : AheadValue) → SomeCame s u
      → Came start own remaining contents accepts shows (Some broken) u (l, h) → k ≡ forgotten h → SomeCame s (l, k)
  one_came broken s u l h k all came let_go = (
    all.0 ++ (broken ∷ []),
    each_more (ThenForgets (λ b. Came start own remaining contents accepts shows (Some b))) all.0 broken s u (l, k) all.1 (h, came, let_go),
  )

  pub ended_here : (s t : L × AheadValue) → SomeCame s t → HasAnswered start own remaining contents accepts shows s t
  ended_here s t all = record { each = all.0; here = t; came = all.1; end = inl refl }

  pub none_more : (s u t : L × AheadValue) → SomeCame s u → Came start own remaining contents accepts shows None u t
      → HasAnswered start own remaining contents accepts shows s t
  none_more s u t all none = record { each = all.0; here = u; came = all.1; end = inr none }

module _ (start : NodeValue) (own : ℕ) {R W D : Type 0} (remaining : R → Option (List ℕ)) (contents : W → Option (List ℕ))
    (dials : D → ℕ → Result (R × W) Fault → D → Type 0) (shows : ℕ → Type 0) where
  pub none_turned : (s : Stream × (D × AheadValue)) → TurnedOn start own remaining contents dials shows s s
  none_turned s = record { results = []; turns = refl }

  pub turned_more : (result : Result (Unit {0}) Fault) (s u t : Stream × (D × AheadValue)) → TurnedOn start own remaining contents dials shows s u
      → TurnedBy start own remaining contents dials shows result u t → TurnedOn start own remaining contents dials shows s t
  turned_more result s u t all one = record {
    results = all.results ++ (result ∷ []);
    turns = each_more (TurnedBy start own remaining contents dials shows) all.results result s u t all.turns one;
  }

-- the steps of one list, and then of another
each_then : {X S : Type 0} (step : X → S → S → Type 0) (xs ys : List X) (s u t : S) → Each step xs s u → Each step ys u t → Each step (xs ++ ys) s t
each_then step [] ys s u t same more = subst (λ v. Each step ys v t) same more
each_then step (x ∷ xs) ys s u t steps more = (steps.0, steps.1, each_then step xs ys steps.0 u t steps.2 more)

module _ (start : NodeValue) (own : ℕ) where
  pub no_requests : (g : AheadValue) → DoneRequests start own g g
  no_requests g = ([], refl)

  -- the requests of two connections, one after the other
  pub requests_more : (g u h : AheadValue) → DoneRequests start own g u → DoneRequests start own u h → DoneRequests start own g h
  requests_more g u h all more = (all.0 ++ more.0, each_then (DoneChange start own) all.0 more.0 g u h all.1 more.1)

  pub lines_more : (line : List ℕ) (g u h : AheadValue) → DoneLines start own g u → DoneLine start own line u h → DoneLines start own g h
  lines_more line g u h all one = (all.0 ++ (line ∷ []), each_more (DoneLine start own) all.0 line g u h all.1 one)
