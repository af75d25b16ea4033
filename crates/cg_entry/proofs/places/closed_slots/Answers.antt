use Rattle.std.proofs.Common.{◌∙◌, ◌-◌, cond, nat_lt, get_or, arith, rules}
use Rattle.std.proofs.lemmas.List.{take_all, drop_all, get_or_default, length-set}
use Rattle.std.proofs.lemmas.List.Edits.{map_over_more}
use Rattle.cg_entry.proofs.places.closed_slots.Goals as goal

pub loop-number-preserved : goal.loop-number-preserved
loop-number-preserved c =
    let before = get_or c.loop-number.slots c.loop-number.number 0 in
    record {
      long = length-set c.loop-number.slots c.loop-number.number c.closed_place.result ∙ c.loop-number.invariant.long;
      so_far = rw c.closed_place.ensures (map_over_more (λ p. cond (nat_lt c.args.at p) (p - 1) p) c.args.before c.loop-number.slots c.loop-number.number before (omega (arith, c.loop-number-test.true)) c.loop-number.invariant.so_far
          (get_or_default c.loop-number.slots c.loop-number.number 0 before (omega (arith, c.loop-number-test.true, c.loop-number.invariant.long))));
    }

pub returns : goal.returns
returns c = search (rules, take_all, drop_all)
