-- One seat more that was left by work, and the number of seats.
use Rattle.std.proofs.Common.{◌≡◌, ℕ, ◌+◌, ap, List, [], ◌∷◌, ◌++◌, Option, Result, sym, subst, inl, inr, arith}
use Rattle.std.specs.List.{All, sum_by}
use Rattle.std.proofs.lemmas.List.Sums.{sum_by-append, sum_by-cons}
use Rattle.std.proofs.lemmas.List.Elements.{All-nil, All-cons, All-append}
use Rattle.rand_core.specs.Stream.{Stream}
use Rattle.cg_types.specs.declared.fault.Fault.{Fault}
use Rattle.cg_core.specs.Values.{NodeValue}
use Rattle.cg_locked.specs.Seat.{SeatState}
use Rattle.cg_settings_file.specs.declared.agent.AgentInput.{AgentInput}
use Rattle.cg_settings_file.specs.declared.agent.AgentInput.TheVariants.{Ignore, Stop, Lines}
use Rattle.cg_agent.specs.declared.reading.Reading.{Reading}
use Rattle.cg_agent.specs.declared.reading.Reading.TheVariants as reading
use Rattle.cg_agent.specs.Seats.{amount_read, seats_for, LeftByReading}
use Rattle.cg_agent.specs.Worked.{SeatWorked}
use Rattle.cg_agent.specs.declared.posts.Post.{Post}
use Rattle.cg_agent.specs.declared.posts.Post.TheVariants as post
use Rattle.cg_agent.specs.Posts.{LeftAt}

-- a list of seats with one more has its parts more
pub parts_more : (xs ys : List SeatState) (x : SeatState) → ys ≡ xs ++ (x ∷ []) → sum_by (λ s. s.parts) ys ≡ sum_by (λ s. s.parts) xs + x.parts
parts_more xs ys x is =
    let parts : SeatState → ℕ = λ s. s.parts in
    omega (arith, ap (sum_by parts) is, sum_by-append parts xs (x ∷ []), sum_by-cons parts x [])

pub one_more : (F : SeatState → Type 0) (xs ys : List SeatState) (x : SeatState) → ys ≡ xs ++ (x ∷ []) → All F xs → F x → All F ys
one_more F xs ys x is all one = subst (All F) (sym is) (All-append F xs (x ∷ []) all (All-cons F x [] one (All-nil F)))

module _ (start : NodeValue) (own : ℕ) {R W L S V D : Type 0} (remaining : R → Option (List ℕ)) (contents : W → Option (List ℕ))
    (accepts : L → Result (Option (R × W)) Fault → L → Type 0) (rest : S → Option (List ℕ)) (written : V → Option (List ℕ))
    (dials : D → ℕ → Result (S × V) Fault → D → Type 0) (shows : ℕ → Type 0) (words : Stream) (dialer : D) where
  pub by_reading : {N : Type 0} (r : Reading N) (seat : SeatState) → amount_read r ≡ 0 → LeftByReading start own r seat
      → SeatWorked start own remaining contents accepts rest written dials shows words dialer seat
  by_reading (reading.Lines first pass) seat unused x = record { first = first; unused = unused; work = inr (inr (inl x)) }
  by_reading reading.Nothing seat unused x = absurd x
  by_reading reading.End seat unused x = absurd x

  pub by_post : {N : Type 0} (p : Post N L) (first seat : SeatState) → first.amount ≡ 0 → LeftAt start own remaining contents accepts shows p first seat
      → SeatWorked start own remaining contents accepts rest written dials shows words dialer seat
  by_post (post.Peers listener) first seat unused x = record { first = first; unused = unused; work = inl (listener, x) }
  by_post (post.Web listener tools) first seat unused x = record { first = first; unused = unused; work = inr (inr (inr x)) }

-- as many seats are for as many receivers
pub as_many : (a b : ℕ) (input : AgentInput) → seats_for a input ≡ seats_for b input → a ≡ b
as_many a b Ignore same = omega (arith, same)
as_many a b Stop same = omega (arith, same)
as_many a b Lines same = omega (arith, same)
