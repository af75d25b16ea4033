use Rattle.std.proofs.Common.{◌++◌, take, Result, Ok, Err, OnErr}
use Rattle.std.proofs.KnownBytes.{Consumes-trans}
use Rattle.cg_links.proofs.transfer.read_all.Goals as goal

on_err : {T E : Type 0} (r : Result T E) (P : Type 0) → P → OnErr r P
on_err (Ok v) P p = tt
on_err (Err e) P p = p

pub returns-in_err-extend_from_slice-in-Ok-clause-taken : goal.returns-in_err-extend_from_slice-in-Ok-clause-taken
returns-in_err-extend_from_slice-in-Ok-clause-taken g c = on_err c.from_residual.result _ (
  c.loop.bytes.items ++ take c.in-Ok.n c.read.new.buf,
  Consumes-trans _ _ _ _ _ c.loop.invariant.read c.in-Ok.ensures.bytes.0,
)
