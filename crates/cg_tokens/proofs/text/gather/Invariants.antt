use Rattle.std.proofs.Common.{◌≡◌, ◌≤◌, ◌++◌}
use Rattle.std.specs.Prelude.{option_copied}
use Rattle.std.specs.List.{filter_map}
use Rattle.arrayvec.specs.ArrayVec.{array_vec_len}
use Rattle.cg_tokens.specs.declared.limits.TheConstants.{TOKEN_COUNT_LIMIT}
use Rattle.cg_tokens.specs.Text.{pieces, pieces_of, token_in, are_tokens}
use Rattle.cg_tokens.proofs.TextLemmas.{checks, left}
use Rattle.cg_tokens.proofs.text.gather.Given as goal

abbrev pub invariant-loop-rest : goal.invariant-loop-rest
invariant-loop-rest l = record {
  few : array_vec_len l.tokens ≤ TOKEN_COUNT_LIMIT;
  so_far : checks l.last (array_vec_len l.tokens) (pieces_of (option_copied l.rest)) ≡ are_tokens (pieces l.fn.text);
  gathered : l.tokens.items ++ filter_map token_in (pieces_of (option_copied l.rest)) ≡ filter_map token_in (pieces l.fn.text);
}

abbrev pub decreases-loop-rest : goal.decreases-loop-rest
decreases-loop-rest l = left (option_copied l.rest)
