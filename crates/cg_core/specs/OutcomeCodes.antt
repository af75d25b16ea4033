-- The code of the outcomes of a message's deltas, by which `==` tells them apart.
use Rattle.std.specs.Prelude.{List}
use Rattle.std.specs.Coded.{Coded, coded_list}
use Rattle.cg_messages.specs.declared.outcome.Outcome.{Outcome}
use Rattle.cg_messages.specs.Values.{outcome_code}

abbrev pub outcomes_code : Coded (List Outcome)
outcomes_code = coded_list outcome_code
