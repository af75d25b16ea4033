use Rattle.std.proofs.Common.{sym, subst}
use Rattle.cg_frames.specs.Layouts.{IsRead}
use Rattle.cg_frames.proofs.ChoosingLemmas.{due_all}
use Rattle.cg_frames.proofs.decoding.decode_among.Goals as goal

pub decode_in-requires : goal.decode_in-requires
decode_in-requires c = subst IsRead (sym c.expected_layout-layout.ensures) (due_all IsRead c.args.layouts.now c.args.bytes.now c.requires.some c.requires.each)
