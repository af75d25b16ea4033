use Rattle.cg_engine.proofs.Fronts.{sent_of}
use Rattle.cg_engine.proofs.sending.send_bytes.Goals as goal

pub returns : goal.returns
returns g c =
    sent_of _ _ _ _ _ c.write_and_flush.result c.requires c.write_and_flush.ensures.ok c.write_and_flush.ensures.kept
    c.write_and_flush.ensures.flushed c.write_and_flush.ensures.front c.write_and_flush.ensures.fault c.write_and_flush.ensures.caused
