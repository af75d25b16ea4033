use Rattle.std.proofs.Common.{◌≡◌, ◌<◌, length, get_or, ◌∙◌, sym, ap, refl}
use Rattle.std.specs.Prelude.{Some}
use Rattle.cg_types.proofs.RowLemmas.{find_in_gap}
use Rattle.cg_entry.specs.declared.state.State.{State}
use Rattle.cg_entry.specs.State.{pairs, value_at_key}
use Rattle.cg_entry.specs.Block.{picked, state_at}
use Rattle.cg_entry.proofs.BlockLemmas.{row_within, found_row, found_key, each_at, read_at}
use Rattle.cg_entry.proofs.block.find.Goals as goal

pub bounds-places-at : goal.bounds-places-at
bounds-places-at c = row_within c.args.items.now c.args.key c.args.places.now c.in-Ok.at c.requires.rise c.in-Ok.ensures.found

pub bounds-items-places : goal.bounds-items-places
bounds-items-places c =
    each_at (λ p. p < length c.args.items.now) c.args.places.now c.in-Ok.at 0 c.requires.within (row_within c.args.items.now c.args.key c.args.places.now c.in-Ok.at c.requires.rise c.in-Ok.ensures.found)

pub returns-in-Ok : goal.returns-in-Ok
returns-in-Ok c =
    let few = row_within c.args.items.now c.args.key c.args.places.now c.in-Ok.at c.requires.rise c.in-Ok.ensures.found in
    let here : state_at c.args.items.now (get_or c.args.places.now c.in-Ok.at 0) ≡ c.index-items-places.result = read_at c.args.items.now _ _ c.index-items-places.result c.index-items-places.is refl (each_at (λ p. p < length c.args.items.now) c.args.places.now c.in-Ok.at 0 c.requires.within few) in
    record {
      value = ap (λ (s : State). Some (value_at_key s)) (sym here) ∙ sym (found_row c.args.items.now c.args.key c.args.places.now c.in-Ok.at c.requires.rise c.in-Ok.ensures.found);
      key = ap (λ (s : State). s.key) (sym here) ∙ found_key c.args.items.now c.args.key c.args.places.now c.in-Ok.at c.requires.rise c.in-Ok.ensures.found;
    }

pub returns-in-Err : goal.returns-in-Err
returns-in-Err c = record {
  value = sym (find_in_gap c.args.key (pairs (picked c.args.items.now c.args.places.now)) c.in-Err.field-0 c.in-Err.ensures.absent);
  key = tt;
}
