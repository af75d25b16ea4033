use Rattle.std.proofs.Common.{◌≡◌, ◌<◌, subst}
use Rattle.std.specs.Prelude.{Ok, None}
use Rattle.std.proofs.Common.{rules}
use Rattle.cg_frames.specs.Choosing.{frame_among}
use Rattle.cg_frames.specs.Feeding.{lack_of}
use Rattle.cg_frames.specs.Feeding.{IsPartial, standing_of}
use Rattle.cg_frames.proofs.FrontLemmas.{some_lacking}
use Rattle.cg_frames.specs.declared.layout.TheConstants.{LAYOUTS}
use Rattle.cg_frames.proofs.feed.Feed.wants.Goals as goal

pub returns-in-None-clause-some : goal.returns-in-None-clause-some
returns-in-None-clause-some c _ =
    let partial : frame_among LAYOUTS c.self.inside.held.items ≡ Ok None = subst (λ f. IsPartial LAYOUTS (standing_of c.self.inside.held.items f)) c.in-None.is c.self.invariant in
    let some : 0 < lack_of c.self.inside.held.items = some_lacking LAYOUTS c.self.inside.held.items partial in
    search (rules, some)
