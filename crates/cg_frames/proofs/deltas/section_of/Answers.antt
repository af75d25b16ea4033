use Rattle.std.proofs.Common.{subst, arith}
use Rattle.cg_frames.specs.Laws.{AreBytes}
use Rattle.cg_frames.proofs.SectionLemmas.{cut_out}
use Rattle.cg_frames.proofs.deltas.section_of.Goals as goal

pub returns-clause-section : goal.returns-clause-section
returns-clause-section c =
    let small = subst AreBytes c.again-start.ensures c.until.ensures.bytes in
    rw (c.until.ensures.value, c.again-start.ensures) (cut_out c.args.layout.now c.args.above c.args.count c.args.reader.now c.go_past.new.reader c.requires.layout small (omega (arith, c.ranges.count.fits)) c.in_ok-go_past.ensures).alone

pub returns-clause-short : goal.returns-clause-short
returns-clause-short c =
    let small = subst AreBytes c.again-start.ensures c.until.ensures.bytes in
    rw (c.until.ensures.value, c.again-start.ensures) (cut_out c.args.layout.now c.args.above c.args.count c.args.reader.now c.go_past.new.reader c.requires.layout small (omega (arith, c.ranges.count.fits)) c.in_ok-go_past.ensures).short
