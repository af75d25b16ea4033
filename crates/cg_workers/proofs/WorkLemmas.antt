-- One connection more, one peer more, and one round more.
use Rattle.std.proofs.Common.{◌≡◌, ℕ, ◌+◌, List, [], ◌∷◌, ◌++◌, length-append, Option, Result, Ok, Err, refl, ap, ◌∙◌, append_assoc}
use Rattle.cg_types.specs.declared.fault.Fault.{Fault}
use Rattle.cg_core.specs.declared.event.Event.{Event}
use Rattle.cg_core.specs.declared.reply.Reply.{Reply}
use Rattle.cg_workers.specs.declared.round.Round.{Round}
use Rattle.cg_messages.specs.Values.{SynValue}
use Rattle.cg_workers.specs.Workers.{numbers_of, Came, AllCame, BegunWith, BegunWithTo, Reached, ReachedTo}
use Rattle.cg_workers.proofs.EachLemmas.{each_more}

module _ {S R W L : Type 0} (does : S → Event → Reply → S → Type 0) (refuses : S → Event → Fault → Type 0)
    (stays : S → S → Type 0) (remaining : R → Option (List ℕ)) (contents : W → Option (List ℕ))
    (accepts : L → Result (Option (R × W)) Fault → L → Type 0) (shows : ℕ → Type 0) where
  pub came_more : (count : ℕ) (link : R × W) (s u t : L × S) → AllCame does refuses stays remaining contents accepts shows count s u
      → Came does refuses stays remaining contents accepts shows link u t → AllCame does refuses stays remaining contents accepts shows (count + 1) s t
  came_more count link s u t all one = record {
    links = all.links ++ (link ∷ []);
    counted = length-append all.links (link ∷ []) ∙ ap (λ (n : ℕ). n + 1) all.counted;
    came = each_more (Came does refuses stays remaining contents accepts shows) all.links link s u t all.came one;
  }

module _ {S R W D : Type 0} (does : S → Event → Reply → S → Type 0) (refuses : S → Event → Fault → Type 0)
    (stays : S → S → Type 0) (remaining : R → Option (List ℕ)) (contents : W → Option (List ℕ))
    (dials : D → ℕ → Result (R × W) Fault → D → Type 0) (shows : ℕ → Type 0) where
  begun : (broken : Option Fault) (syn : SynValue) (answer : Result (R × W) Fault) (s t : S) → BegunWithTo does refuses stays remaining contents shows broken syn answer s t
      → BegunWith does refuses stays remaining contents shows syn answer s t
  begun broken syn (Ok link) s t x = x.0
  begun broken syn (Err f) s t x = x.0

  -- a peer was reached, whatever broke the exchange off
  pub reached : (broken : Option Fault) (syn : SynValue) (peer : ℕ) (s t : D × S) → ReachedTo does refuses stays remaining contents dials shows broken syn peer s t
      → Reached does refuses stays remaining contents dials shows syn peer s t
  reached broken syn peer s t x = record { answer = x.answer; dialed = x.dialed; begun = begun broken syn x.answer s.1 t.1 x.begun }

numbers_more : (rounds : List Round) (round : Round) → numbers_of rounds ++ (round.number ∷ []) ≡ numbers_of (rounds ++ (round ∷ []))
numbers_more [] round = refl
numbers_more (r ∷ rs) round = ap (λ l. r.number ∷ l) (numbers_more rs round)

pub numbers_after : (before room after : List ℕ) (rounds : List Round) (round : Round) → after ≡ room ++ (round.number ∷ []) → room ≡ before → before ≡ numbers_of rounds
    → after ≡ numbers_of (rounds ++ (round ∷ []))
numbers_after before room after rounds round pushed reserved numbered =
    pushed ∙ ap (λ (l : List ℕ). l ++ (round.number ∷ [])) (reserved ∙ numbered) ∙ numbers_more rounds round

pub rounds_more : (begun before after : List Round) (rounds : List Round) (round : Round) → after ≡ before ++ (round ∷ []) → before ≡ begun ++ rounds
    → after ≡ begun ++ (rounds ++ (round ∷ []))
rounds_more begun before after rounds round taken so_far =
    taken ∙ ap (λ (l : List Round). l ++ (round ∷ [])) so_far ∙ append_assoc begun rounds (round ∷ [])
