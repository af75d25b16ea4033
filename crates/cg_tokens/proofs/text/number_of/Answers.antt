use Rattle.std.proofs.Common.{◌∙◌, refl, arith}
use Rattle.cg_tokens.proofs.TextLemmas.{value_more, value_more_fits}
use Rattle.cg_tokens.proofs.text.number_of.Goals as goal

pub overflow_mul-number : goal.overflow_mul-number
overflow_mul-number c =
    let less = value_more_fits c.args.digits.now c.loop-byte.byte-index c.loop-byte.number _ c.loop-byte-test.true c.loop-byte.invariant refl c.requires.digits c.requires.few in
    omega (arith, less)

pub overflow_add-number : goal.overflow_add-number
overflow_add-number c =
    let less = value_more_fits c.args.digits.now c.loop-byte.byte-index c.loop-byte.number c.from.result c.loop-byte-test.true c.loop-byte.invariant (c.from.ensures ∙ c.digit_of.ensures.value) c.requires.digits c.requires.few in
    omega (arith, less)

pub loop-byte-preserved : goal.loop-byte-preserved
loop-byte-preserved c = value_more c.args.digits.now c.loop-byte.byte-index c.loop-byte.number c.from.result c.loop-byte-test.true c.loop-byte.invariant (c.from.ensures ∙ c.digit_of.ensures.value)
