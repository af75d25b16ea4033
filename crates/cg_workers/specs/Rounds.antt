-- Contents of the channel of rounds, and the knowledge of its passes.
use Rattle.std.specs.Prelude.{◌≡◌, ℕ, Bool, true, false, List, [], ◌∷◌, ◌++◌}
use mathlib.Core.Option.{some}
use lib.ListN.{get_elem?}
use Rattle.cg_workers.specs.declared.round.Round.{Round}
use Rattle.cg_workers.specs.declared.rule.NextRound.{NextRound}
use Rattle.cg_workers.specs.declared.rule.NextRound.TheVariants.{Of, Done}
use Rattle.cg_workers.specs.declared.rule.Hand.{Hand}

-- the round that comes next: the word of the end has none
abbrev pub round_of : NextRound → List Round
round_of (Of round) = round ∷ []
round_of Done = []

abbrev pub rounds_of : List NextRound → List Round
rounds_of [] = []
rounds_of (x ∷ xs) = round_of x ++ rounds_of xs

-- it is the word of the end
abbrev pub is_done : NextRound → Bool
is_done (Of round) = false
is_done Done = true

abbrev pub hand : Bool → Bool → List Round → List Round → Bool → Hand
hand puts takes put taken said = record { puts = puts; takes = takes; put = put; taken = taken; said = said }

-- One pass alone may put, and knows the rounds put in; one alone may take, and knows the rounds taken.
abbrev pub HandFits : ℕ → ℕ → List Round → List Round → ℕ → Hand → Type 0
HandFits putter taker put taken pass v =
    (v.puts ≡ true → (pass ≡ putter) × (v.put ≡ put)) × (v.takes ≡ true → (pass ≡ taker) × (v.taken ≡ taken))

-- the rounds taken, and then those that the channel holds, are those put in
abbrev pub InOrder : List NextRound → List Hand → Type 0
InOrder items views =
    (putter : ℕ) × (taker : ℕ) × (put : List Round) × (taken : List Round)
    × (put ≡ taken ++ rounds_of items)
    × ((pass : ℕ) (v : Hand) → get_elem? views pass ≡ some v → HandFits putter taker put taken pass v)
