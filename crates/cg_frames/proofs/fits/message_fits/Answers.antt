use Rattle.cg_messages.specs.Borrowed.{borrowed_message}
use Rattle.cg_frames.proofs.FitsLemmas.{message_fits}
use Rattle.cg_frames.proofs.fits.message_fits.Goals as goal

pub returns : goal.returns
returns c = message_fits c.args.layout.now c.requires (borrowed_message c.args.message) c.show.ensures
