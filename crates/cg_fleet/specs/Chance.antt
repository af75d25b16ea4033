-- What the next words of a generator decide.
use Rattle.std.specs.Prelude.{ℕ, zero, suc, ◌%◌, nat_lt, if◌then◌else◌}
use Rattle.rand_core.specs.Stream.{Stream, next_u64}

-- a number below a limit, and what is left of the words
abbrev pub below_of : ℕ → Stream → ℕ × Stream
below_of limit s = ((next_u64 s).0 % limit, (next_u64 s).1)

abbrev pub one_more : ℕ × Stream → ℕ × Stream
one_more x = (suc x.0, x.1)

-- Of so many messages, one behind the other, those that arrive before the first is lost: a message is lost if a number
-- below 100 that is drawn for it is below the loss.
abbrev pub arriving_of : ℕ → ℕ → Stream → ℕ × Stream
arriving_of zero loss s = (0, s)
arriving_of (suc most) loss s =
    if nat_lt (below_of 100 s).0 loss then (0, (below_of 100 s).1) else one_more (arriving_of most loss (below_of 100 s).1)
