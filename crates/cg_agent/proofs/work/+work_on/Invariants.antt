-- Each call has a post fewer.
use Rattle.std.specs.Prelude.{vec_len}
use Rattle.cg_agent.proofs.work.+work_on.Given as goal

abbrev pub decreases-work_on : goal.decreases-work_on
decreases-work_on g l = vec_len l.posts
