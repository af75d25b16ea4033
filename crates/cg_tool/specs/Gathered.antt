-- The lives that journals make, read one after the other.
use Rattle.std.specs.Prelude.{ℕ, Bool, false, ◌==◌, ◌≡◌, ◌⊎◌, nat_lt, if◌then◌else◌, List, [], ◌∷◌, map, Option, Some, None, slice_get, slice_set, Result, MatchResult}
use Rattle.cg_types.specs.declared.fault.Fault.TheVariants.{OutOfMemory}
use Rattle.cg_types.specs.Rising.{Rises}
use Rattle.cg_history.specs.History.{HistoryValue}
use Rattle.cg_journal.specs.declared.unread.Unread.{Unread}
use Rattle.cg_audit.specs.Items.{LivesValue}
use Rattle.cg_audit.specs.Lives.{lone_life, then_life}

-- the endpoints rise
abbrev pub EndpointsRise : List LivesValue → Type 0
EndpointsRise lives = Rises (map (λ (l : LivesValue). l.endpoint) lives)

-- lives with one more: behind the others of its endpoint, and else in its endpoint's place
abbrev pub with_life : List LivesValue → HistoryValue → List LivesValue
with_life [] h = lone_life h ∷ []
with_life (l ∷ ls) h =
    if nat_lt l.endpoint h.base.table.own then l ∷ with_life ls h
    else if l.endpoint == h.base.table.own then then_life l h ∷ ls
    else lone_life h ∷ l ∷ ls

-- `true` if these are lives of an endpoint
abbrev pub is_of : ℕ → Option LivesValue → Bool
is_of endpoint None = false
is_of endpoint (Some l) = l.endpoint == endpoint

-- The history is behind the lives at this place.
pub record IsPushed (old : List LivesValue) (place : ℕ) (h : HistoryValue) (new : List LivesValue) : Type 0 where
  pub lives : LivesValue
  pub at : slice_get old place ≡ Some lives
  pub set : new ≡ slice_set old place (then_life lives h)

-- Sources of journals, by their ghost members: a source before, after, and the history that was read; before, after,
-- and the line and the fault.
module _ {S : Type 0} (reads : S → S → HistoryValue → Type 0) (fails : S → S → Unread → Type 0) where
  -- a history was read, and was added
  pub record Gathers (s t : S) (old new : List LivesValue) : Type 0 where
    pub history : HistoryValue
    pub read : reads s t history
    pub added : new ≡ with_life old history

  -- none was read, or there was no memory to add it
  pub record GathersNone (s t : S) (old new : List LivesValue) (u : Unread) : Type 0 where
    pub unread : fails s t u ⊎ ((h : HistoryValue) × reads s t h × (u ≡ record { line = 0; fault = OutOfMemory }))
    pub kept : new ≡ old

  abbrev pub GathersOne : {T : Type 0} → S → S → List LivesValue → List LivesValue → Result T Unread → Type 0
  GathersOne s t old new result = MatchResult result (λ _. Gathers s t old new) (GathersNone s t old new)

  -- a history of each source was read and added, one after the other
  abbrev pub GathersAll : List S → List S → List LivesValue → List LivesValue → Type 0
  GathersAll [] [] old new = old ≡ new
  GathersAll (s ∷ ss) (t ∷ ts) old new = (m : List LivesValue) × Gathers s t old m × GathersAll ss ts m new
  GathersAll _ _ old new = ⊥

  -- so it was of the first sources, and not of the next one; those behind it were left as they were
  abbrev pub StopsAt : List S → List S → List LivesValue → Unread → Type 0
  StopsAt (s ∷ ss) (t ∷ ts) old u =
      (GathersNone s t old old u × (ts ≡ ss)) ⊎ ((m : List LivesValue) × Gathers s t old m × StopsAt ss ts m u)
  StopsAt _ _ old u = ⊥
