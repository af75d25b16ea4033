use Rattle.cg_messages.specs.declared.message.Message.TheVariants as messages
use Rattle.cg_frames.proofs.FitsLemmas.{message_fits}
use Rattle.cg_frames.proofs.fits.borrowed_ack_fits.Goals as goal

pub returns : goal.returns
returns c = message_fits c.args.layout.now c.requires (messages.Ack c.args.ack.now) c.requests.ensures.valid
