-- Each listener so far has gone over to a post, with a pass and a reader.
use Rattle.std.proofs.Common.{◌≡◌, ◌+◌, vec_len, vec_capacity}
use Rattle.cg_agent.proofs.posts.with_web.Given as goal

abbrev pub invariant-loop : goal.invariant-loop
invariant-loop g l =
    (vec_len l.posts ≡ vec_len l.initial.posts + l.counter) × (vec_len l.web + l.counter ≡ vec_len l.initial.web)
    × (vec_len l.passes + l.counter ≡ vec_len l.initial.web) × (vec_len l.readers + l.counter ≡ vec_len l.initial.web)
    × (vec_capacity l.posts ≡ vec_capacity l.initial.posts)
