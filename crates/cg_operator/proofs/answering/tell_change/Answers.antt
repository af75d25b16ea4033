use Rattle.std.proofs.Common.{refl}
use Rattle.cg_operator.proofs.TellingLemmas.{told_some, told_none}
use Rattle.cg_operator.proofs.answering.tell_change.Goals as goal

pub returns-in_err-add_version-in-Some-clause-err : goal.returns-in_err-add_version-in-Some-clause-err
returns-in_err-add_version-in-Some-clause-err g c = told_some _ _ _ _ _ _ c.in-Some.is c.learn.ensures.told

pub returns-in_err-add_unpublished-in-None-clause-err : goal.returns-in_err-add_unpublished-in-None-clause-err
returns-in_err-add_unpublished-in-None-clause-err g c = told_none _ _ _ _ _ c.in-None.is refl
