use Rattle.std.proofs.Common.{◌+◌, ◌-◌, length, min, refl, length-append}
use Rattle.std.proofs.lemmas.List.{take_rest}
use Rattle.cg_silence.proofs.WindowLemmas.{drop_of_two}
use Rattle.cg_silence.proofs.past.joined.Goals as goal

pub returns : goal.returns
returns c =
    let first = c.args.first.now in
    let second = c.args.second.now in
    rw (length-append first second, ← drop_of_two first second (length first + length second - c.args.most))
    (rw (c.in_ok-extend_from_slice-2.ensures.items, c.in_ok-extend_from_slice.ensures.items, c.in_ok-gaps.ensures.items, c.min-skipped.ensures, c.saturating_sub-from.ensures)
    (rw (take_rest first (min (length first + length second - c.args.most) (length first)), take_rest second (length first + length second - c.args.most - min (length first + length second - c.args.most) (length first))) refl))
