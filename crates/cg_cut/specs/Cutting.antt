-- Lives whose last records are cut off, and the items that are left of a run.
use Rattle.std.specs.Prelude.{ℕ, ◌≡◌, ◌==◌, ◌&&◌, ◌||◌, ◌⊎◌, ⊤, Bool, true, false, nat_le, if◌then◌else◌, List, [], ◌∷◌, ◌++◌, length}
use Rattle.std.specs.List.{filter}
use Rattle.cg_history.specs.History.{HistoryValue}
use Rattle.cg_journal.specs.Laws.{Continues}
use Rattle.cg_audit.specs.Items.{RunItem, LivesValue, generation_of}
use Rattle.cg_audit.specs.OneRun.{WasSent}

-- ---- lives

-- Of these lives some are gone, and each of the others has the first of its records.
abbrev pub AreCutLives : List HistoryValue → List HistoryValue → Type 0
AreCutLives whole [] = ⊤
AreCutLives [] (g ∷ gs) = ⊥
AreCutLives (h ∷ hs) (g ∷ gs) = (Continues g h × AreCutLives hs gs) ⊎ AreCutLives hs (g ∷ gs)

-- The same is true of the lives of each endpoint, which may have none left.
abbrev pub AreCut : List LivesValue → List LivesValue → Type 0
AreCut [] [] = ⊤
AreCut (l ∷ ls) (c ∷ cs) = (c.endpoint ≡ l.endpoint) × AreCutLives l.histories c.histories × AreCut ls cs
AreCut _ _ = ⊥

-- ---- items

-- the lives of an endpoint
abbrev pub lives_at : List LivesValue → ℕ → List HistoryValue
lives_at [] endpoint = []
lives_at (l ∷ ls) endpoint = if l.endpoint == endpoint then l.histories else lives_at ls endpoint

-- `true` if the life of the generation has an item of the number; its start is number 0
abbrev pub has_item : ℕ → ℕ → List HistoryValue → Bool
has_item generation number [] = false
has_item generation number (h ∷ hs) =
    (generation_of h == generation) && nat_le number (length h.records) || has_item generation number hs

-- `true` if the item is one of these lives
abbrev pub is_left : List LivesValue → RunItem → Bool
is_left lives i = has_item i.generation i.number (lives_at lives i.endpoint)

-- Each item that is left handles only messages that items left before it had sent.
abbrev pub EachSenderIsLeft : (RunItem → Bool) → List RunItem → List RunItem → Type 0
EachSenderIsLeft left before [] = ⊤
EachSenderIsLeft left before (i ∷ is) =
    (left i ≡ true → WasSent (filter left before) i.handled) × EachSenderIsLeft left (before ++ i ∷ []) is
