use Rattle.std.proofs.Common.{◌≡◌, ◌<◌, ℕ, suc, List, length, refl, subst, add-one, arith}
use Rattle.cg_entry.specs.Values.{EntryValue}
use Rattle.cg_entry.specs.declared.digest.Digest.{Digest}
use Rattle.cg_exchange.specs.Walking.{AreSame}
use Rattle.cg_exchange.proofs.WalkLemmas.{same_next, rest_from}
use Rattle.cg_exchange.proofs.answers.behind_same.Goals as goal

pub loop-count-preserved : goal.loop-count-preserved
loop-count-preserved c =
    let rows : List (ℕ × EntryValue) = c.args.rows.now in
    let digests : List Digest = c.args.digests.now in
    let i : ℕ = c.loop-count.count in
    let in_rows : i < length rows = omega (arith, c.loop-count-test.true, c.min-most.ensures) in
    let in_digests : i < length digests = omega (arith, c.loop-count-test.true, c.min-most.ensures) in
    let next : AreSame (suc i) rows digests = same_next i rows digests c.index-rows-count.result c.index-digests-count.result c.loop-count.invariant in_rows in_digests c.index-rows-count.is c.index-digests-count.is (c.if-not-is_same.ensures refl) in
    rw add-one next

pub returns : goal.returns
returns c =
    let end : c.loop-count.count ≡ c.min-most.result = omega (arith, c.loop-count.auto.count-end, c.loop-count-test.false) in
    record {
      count = c.min-most.result;
      same = subst (λ (n : ℕ). AreSame n c.args.rows.now c.args.digests.now) end c.loop-count.invariant;
      rows_behind = rest_from c.args.rows.now c.min-most.result;
      digests_behind = rest_from c.args.digests.now c.min-most.result;
    }
