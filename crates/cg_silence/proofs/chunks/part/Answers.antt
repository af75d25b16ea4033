use Rattle.std.proofs.Common.{take, drop, Some, subst, sym, ap}
use Rattle.cg_silence.specs.Walking.{PartedAt, last_key}
use Rattle.cg_silence.proofs.ChunkLemmas.{part_at, parted_at}
use Rattle.cg_silence.proofs.chunks.part.Goals as goal
use Rattle.cg_silence.proofs.chunks.part.Goals.{in-None, in-Some}

pub returns : goal.returns
returns c =
    let os = c.args.outcomes.now in
    let n = c.match-last_endpoint.count in
    part_at (last_key c.args.rows.now) os n (elim c.match-last_endpoint.branch [
      | in-None w ↦ subst (λ o. PartedAt o (take n os) (drop n os)) w.in-None.ensures (ap (λ k. take k os) w.count-is)
      | in-Some w ↦
          let last = w.in-Some.last in
          let count = w.count_up_to-count in
          subst (λ o. PartedAt o (take n os) (drop n os)) w.in-Some.ensures
          (subst (λ k. PartedAt (Some last) (take k os) (drop k os)) (sym w.count-is) (parted_at last count.result os c.requires count.ensures.within count.ensures.behind))
    ])
