use Rattle.std.proofs.Common.{refl}
use Rattle.cg_frames.specs.Reading.{frame_at}
use Rattle.cg_frames.proofs.feed.Feed.new.Goals as goal

pub invariant_of-result : goal.invariant_of-result
unfolding frame_at
invariant_of-result c = rw c.new.ensures.items refl
