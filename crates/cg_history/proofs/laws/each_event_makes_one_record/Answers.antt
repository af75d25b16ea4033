use Rattle.cg_history.proofs.OneMore.{each_event_makes_one_record}
use Rattle.cg_history.proofs.laws.each_event_makes_one_record.Goals as goal

pub returns : goal.returns
returns c = each_event_makes_one_record
