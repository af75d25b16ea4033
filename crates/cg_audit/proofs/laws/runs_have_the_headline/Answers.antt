use Rattle.cg_audit.proofs.HeadlineOfRuns.{runs_have_the_headline}
use Rattle.cg_audit.proofs.laws.runs_have_the_headline.Goals as goal

pub returns : goal.returns
returns c = runs_have_the_headline
