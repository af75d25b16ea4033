use Rattle.std.proofs.Common.{◌≡◌, ◌<◌, ◌∙◌, true, arith}
use Rattle.std.specs.FinMap as map
use Rattle.std.specs.Ordering.{nat_cmp}
use Rattle.cg_entry.specs.State.{pairs, all_newer, keys_rise}
use Rattle.cg_entry.specs.Entry.{greatest}
use Rattle.cg_entry.proofs.DeltaLemmas.{listed_is_delta}
use Rattle.cg_entry.proofs.delta.Delta.try_new.Goals as goal

pub of_parts-requires-clause-valid : goal.of_parts-requires-clause-valid
of_parts-requires-clause-valid c =
    let all : all_newer c.args.above c.args.states.items ≡ true = cc in
    let rise : keys_rise c.args.states.items ≡ true = cc in
    let newer : c.args.above < greatest c.args.heartbeat (map.from_sorted (pairs c.args.states.items)) = rw (← c.from_rising-states.ensures) (omega arith) in
    let is : c.own.result ≡ map.from_sorted {R = nat_cmp} (pairs c.args.states.items) = c.own.ensures ∙ c.from_rising-states.ensures in
    rw is (listed_is_delta c.args.above c.args.heartbeat c.args.states.items all rise newer)
