use Rattle.cg_history.proofs.PutsOfRecords.{records_replay}
use Rattle.cg_history.proofs.laws.records_replay.Goals as goal

pub returns : goal.returns
returns c = records_replay
