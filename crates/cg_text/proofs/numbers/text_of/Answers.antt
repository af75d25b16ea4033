use Rattle.std.proofs.Common.{◌-◌, drop, sym, ◌∙◌, subst, arith, IsUtf8}
use Rattle.std.proofs.lemmas.List.{length-drop, take_all}
use Rattle.cg_text.proofs.NumberLemmas.{numbers-utf8}
use Rattle.cg_text.proofs.numbers.text_of.Goals as goal

pub from_utf8_unchecked-requires : goal.from_utf8_unchecked-requires
from_utf8_unchecked-requires c =
    let p = c.put_numbers-start in
    let all = take_all (22 - p.result) (drop p.result p.new.text) (omega (arith, length-drop p.result p.new.text, p.array_long)) in
    subst IsUtf8 (sym (all ∙ p.ensures.text)) (numbers-utf8 c.args.first c.args.second (omega arith) (omega arith))
