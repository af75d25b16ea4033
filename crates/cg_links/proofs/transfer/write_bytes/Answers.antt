use Rattle.std.proofs.Common.{◌++◌, take, arith, inl}
use Rattle.std.proofs.KnownBytes.{Appends-trans}
use Rattle.cg_links.proofs.Counts.{KeepsCounts-trans}
use Rattle.cg_links.proofs.Fronts.{front_kept, front_more, moves_front}
use Rattle.cg_links.proofs.transfer.write_bytes.Goals as goal

pub returns-in-Ok-eq0-clause-front : goal.returns-in-Ok-eq0-clause-front
returns-in-Ok-eq0-clause-front g c =
    let (done, split, appended, same) = c.loop-rest.invariant in
    front_more _ _ _ _ done c.loop-rest.rest.now c.in-Ok-eq0.field-0 split appended c.in-Ok-eq0.ensures.bytes

pub loop-rest-preserved : goal.loop-rest-preserved
loop-rest-preserved g c =
    let (done, split, appended, same) = c.loop-rest.invariant in
    let rest = c.loop-rest.rest.now in
    let n = c.in-Ok.n in (
      done ++ take n rest,
      moves_front _ done rest n split,
      Appends-trans _ _ _ _ _ appended c.in-Ok.ensures.bytes,
      KeepsCounts-trans _ _ _ same (c.in-Ok.ensures.counts.0 (inl (omega arith))),
    )

pub returns-in-Err-clause-front : goal.returns-in-Err-clause-front
returns-in-Err-clause-front g c =
    let (done, split, appended, same) = c.loop-rest.invariant in
    front_kept _ _ _ _ done c.loop-rest.rest.now split appended c.in-Err.ensures.bytes
