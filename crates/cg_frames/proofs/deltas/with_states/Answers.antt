use Rattle.std.proofs.Common.{◌≡◌, true, sym, ap, ◌∙◌}
use Rattle.std.specs.Arc.{arc_value}
use Rattle.std.specs.List.{flat_map}
use Rattle.std.specs.FinMap.{entries}
use Rattle.cg_entry.specs.Section.{state}
use Rattle.cg_entry.specs.State.{pairs}
use Rattle.cg_entry.specs.Values.{DeltaValue}
use Rattle.cg_entry.proofs.StateLemmas.{entries-pairs}
use Rattle.cg_frames.proofs.BehindLemmas.{carries_some}
use Rattle.cg_frames.proofs.ReadIsSpelledParts.{delta_made, states_rise}
use Rattle.cg_frames.proofs.SectionLemmas.{copy_spells}
use Rattle.cg_frames.proofs.deltas.with_states.Goals as goal

pub shared-requires : goal.shared-requires
shared-requires c =
    let rise = (states_rise c.args.layout.now c.args.above c.args.count c.args.reader.now c.in_ok-states.states.items c.states_of.new.reader c.in_ok-states.ensures.value).0 in
    let same = ap (flat_map state) (sym (ap (λ (d : DeltaValue). entries d.states) c.in-Some.ensures.value ∙ entries-pairs c.in_ok-states.states.items rise)) in
    copy_spells c.in_ok-states.buffer (λ b. (arc_value b).items) (flat_map state (pairs c.in_ok-states.states.items)) _ same c.in_ok-states.ensures.spelled

pub unreachable-requires : goal.unreachable-requires
unreachable-requires c =
    let made = delta_made c.args.layout.now c.args.above c.args.heartbeat c.args.count c.args.reader.now c.in_ok-states.states.items c.states_of.new.reader c.in_ok-states.ensures.value in
    let some = carries_some c.args.above c.args.heartbeat c.args.count c.requires.some in
    let refused = c.in-None.ensures.when in cc
