use Rattle.cg_world.proofs.WorldLaws.{messages_are_numbered}
use Rattle.cg_world.proofs.laws.messages_are_numbered.Goals as goal

pub returns : goal.returns
returns c = messages_are_numbered
