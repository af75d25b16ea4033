-- The work at the posts where connections are answered.
use Rattle.std.specs.Prelude.{ℕ, List, Option, Result}
use Rattle.cg_types.specs.declared.fault.Fault.{Fault}
use Rattle.cg_core.specs.Values.{NodeValue}
use Rattle.cg_locked.specs.Seat.{SeatState}
use Rattle.cg_agent.specs.declared.posts.Post.{Post}
use Rattle.cg_agent.specs.declared.posts.Post.TheVariants as post
use Rattle.cg_agent.specs.Worked.{LeftByAnswers, LeftByRequests}

-- A worker began with the first seat and left the other: it answered exchanges of peers, or requests over HTTP.
abbrev pub LeftAt : {N R W L : Type 0} → NodeValue → ℕ → (R → Option (List ℕ)) → (W → Option (List ℕ))
    → (L → Result (Option (R × W)) Fault → L → Type 0) → (ℕ → Type 0) → Post N L → SeatState → SeatState → Type 0
LeftAt start own remaining contents accepts shows (post.Peers listener) first seat =
    LeftByAnswers start own remaining contents accepts shows listener first seat
LeftAt start own remaining contents accepts shows (post.Web listener tools) first seat = LeftByRequests start own first seat
