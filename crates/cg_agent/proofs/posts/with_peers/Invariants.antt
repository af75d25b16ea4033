-- Each listener so far has gone over to a post.
use Rattle.std.proofs.Common.{◌≡◌, ◌+◌, vec_len, vec_capacity}
use Rattle.cg_agent.proofs.posts.with_peers.Given as goal

abbrev pub invariant-loop : goal.invariant-loop
invariant-loop g l =
    (vec_len l.posts ≡ vec_len l.initial.posts + l.counter) × (vec_len l.listeners + l.counter ≡ vec_len l.initial.listeners)
    × (vec_capacity l.posts ≡ vec_capacity l.initial.posts)
