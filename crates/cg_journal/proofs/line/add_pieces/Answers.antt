use Rattle.std.proofs.Common.{◌≡◌, ◌++◌, length, arith, take-append-drop, string_bytes, sym, ◌∙◌}
use Rattle.cg_journal.proofs.LineLemmas.{digits_more, digits_done}
use Rattle.cg_journal.proofs.line.add_pieces.Goals as goal

pub loop-rest-preserved : goal.loop-rest-preserved
loop-rest-preserved c =
    let parts : c.split_at.result.0.now ++ c.split_at.result.1.now ≡ c.loop-rest.rest.now = rw (c.split_at.ensures.front, c.split_at.ensures.back) (take-append-drop _ c.loop-rest.rest.now) in
    digits_more (λ s. string_bytes s) c.loop-rest.pieces.items c.push.new.self.items c.in_ok-digits.digits _ c.loop-rest.rest.now c.split_at.result.0.now c.split_at.result.1.now
    c.in_ok-push.ensures.items c.in_ok-digits.ensures parts c.loop-rest.invariant

pub returns : goal.returns
returns c =
    let none : length c.loop-rest.rest.now ≡ 0 = grind (arith, c.is_empty.ensures, c.loop-rest-test.false) in
    digits_done _ c.loop-rest.rest.now _ none c.loop-rest.invariant
