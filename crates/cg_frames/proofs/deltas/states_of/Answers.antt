use Rattle.std.proofs.Common.{◌≡◌}
use Rattle.std.specs.Arc.{arc_value}
use Rattle.std.specs.List.{flat_map}
use Rattle.cg_entry.specs.Section.{state}
use Rattle.cg_entry.specs.State.{pairs}
use Rattle.cg_frames.proofs.SectionLemmas.{lent, copy_spells, spelled_of}
use Rattle.cg_frames.proofs.deltas.states_of.Goals as goal

pub states_in-requires-clause-copy : goal.states_in-requires-clause-copy
states_in-requires-clause-copy c =
    lent c.as_ref.result (λ b. b.now) c.in_ok-buffer.buffer (λ b. (arc_value b).items ≡ c.in_ok-section.section.now) c.as_ref.ensures.value c.in_ok-buffer.ensures

pub returns-clause-spelled : goal.returns-clause-spelled
returns-clause-spelled c =
    let spelled : c.in_ok-section.section.now ≡ flat_map state (pairs c.in_ok-states.states.items) = spelled_of c.args.layout.now c.args.above c.args.count c.in_ok-section.section.now c.in_ok-states.states.items c.show_bytes.ensures c.in_ok-states.ensures in
    copy_spells c.in_ok-buffer.buffer (λ b. (arc_value b).items) c.in_ok-section.section.now (flat_map state (pairs c.in_ok-states.states.items)) spelled c.in_ok-buffer.ensures
