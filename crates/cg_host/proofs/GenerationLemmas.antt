-- A generation's text is read back.
use Rattle.std.proofs.Common.{◌≡◌, ℕ, ◌-◌, ◌<◌, [], Some, refl, arith, decimal}
use Rattle.std.proofs.lemmas.Grind.{common_steps}
use Rattle.cg_types.specs.declared.limits.TheConstants.{NUMBER_LIMIT}
use Rattle.cg_types.specs.Words.{number_between, generation_in as number_in}
use Rattle.cg_types.proofs.WordLemmas.{number_of-decimal, digits_of_decimal}
use Rattle.cg_types.proofs.EndpointLaws.{cut_at-digits}
use Rattle.cg_host.specs.Generation.{kept_generation_in, kept_text_of, KeptIsRead}

number_read : (n : ℕ) → 0 < n → n < NUMBER_LIMIT → number_in (decimal n) ≡ Some n
unfolding number_between
number_read n low high = rw (number_of-decimal (NUMBER_LIMIT - 1) n (omega arith) (omega arith)) (grind (arith, common_steps))

pub kept_is_read : KeptIsRead
unfolding kept_generation_in kept_text_of
kept_is_read n low high =
    rw (cut_at-digits 10 (decimal n) [] refl (digits_of_decimal n (omega arith))) (number_read n low high)
