use Rattle.std.specs.Prelude.{option_map}
use Rattle.std.specs.Arc.{arc_value}
use Rattle.cg_frames.proofs.SectionLemmas.{text_known, in_copy}
use Rattle.cg_frames.proofs.deltas.state_of.Goals as goal

pub text_of-requires-clause-stands : goal.text_of-requires-clause-stands
text_of-requires-clause-stands c =
    let at = text_known c.args.layout.now c.args.above c.args.last c.args.reader.now c.in_ok-key.key c.in_ok-version.version c.key.new.self c.version_above.new.self c.in_ok-key.ensures c.in_ok-version.ensures c.args.section.now (option_map (λ x. x.now) c.in_ok-read.read) c.known_value.new.self c.requires.bytes c.requires.end c.in_ok-read.ensures.value in
    rw (c.saturating_sub-at.ensures, c.left.ensures) (in_copy c.args.buffer (λ b. (arc_value b.now).items) c.args.section.now _ c.in_ok-read.read (λ x. x.now) c.requires.copy at)
