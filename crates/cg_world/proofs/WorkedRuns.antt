-- The worked run on nodes that run, computed by places.
use Rattle.std.proofs.Common.{refl}
use Rattle.cg_places.specs.PlaceWorld.{nobody, with_start, with_entry, with_message, with_spans, after_action}
use Rattle.cg_world.specs.World.{Start, Deliver, run, place_world}
use Rattle.cg_world.specs.WorkedRuns.{worked_exchange, WorkedRuns}
use Rattle.cg_world.proofs.ActionLemmas.{running}
use Rattle.cg_world.proofs.WorldLaws.{joined, refusals_agree, spelled, same_number_sent}

pub worked_runs : WorkedRuns
unfolding nobody with_start with_entry with_message with_spans after_action
worked_runs settings = record {
  all_done = refl;
  three_messages = same_number_sent (joined settings worked_exchange);
  opener_runs = running (run settings worked_exchange) (place_world worked_exchange) (joined settings worked_exchange).tied 1;
  answerer_runs = running (run settings worked_exchange) (place_world worked_exchange) (joined settings worked_exchange).tied 2;
  opener = λ n e. (spelled settings worked_exchange 1 n e).at 2;
  answerer = λ n e. (spelled settings worked_exchange 2 n e).at 1;
  not_rising = refusals_agree settings worked_exchange (Start 2 5);
  no_message = refusals_agree settings worked_exchange (Deliver 99 7 400);
  no_node = refusals_agree settings worked_exchange (Deliver 1 7 400);
  short = λ first second third one two c ran. ran.1.1.1.1;
}
