use Rattle.cg_operator.proofs.TellingLemmas.{has_version}
use Rattle.cg_operator.proofs.answering.change.Goals as goal

pub version_of-version-requires : goal.version_of-version-requires
version_of-version-requires g c =
    let done = c.in-Ok.ensures.ok in
    has_version _ done.0 done.1 (c.requires done.0 done.3)
