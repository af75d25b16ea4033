use Rattle.std.proofs.Common.{◌∙◌, suc, cond, nat_lt, get_or, arith, rules}
use Rattle.std.specs.Prelude.{◌&&◌, nat_le}
use Rattle.std.proofs.lemmas.List.{take_all, drop_all, get_or_default, length-set}
use Rattle.std.proofs.lemmas.List.Edits.{map_over_more}
use Rattle.cg_entry.proofs.places.bumped_slots.Goals as goal

pub loop-number-preserved : goal.loop-number-preserved
loop-number-preserved c =
    let before = get_or c.loop-number.slots c.loop-number.number 0 in
    record {
      long = length-set c.loop-number.slots c.loop-number.number c.bumped_slot.result ∙ c.loop-number.invariant.long;
      so_far = rw c.bumped_slot.ensures (map_over_more (λ p. cond (nat_lt p 16 && nat_le c.args.at p) (suc p) p) c.args.before c.loop-number.slots c.loop-number.number before (omega (arith, c.loop-number-test.true)) c.loop-number.invariant.so_far
          (get_or_default c.loop-number.slots c.loop-number.number 0 before (omega (arith, c.loop-number-test.true, c.loop-number.invariant.long))));
    }

pub returns : goal.returns
returns c = search (rules, take_all, drop_all)
