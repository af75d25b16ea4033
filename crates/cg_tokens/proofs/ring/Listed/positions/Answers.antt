use Rattle.std.proofs.Common.{ℕ, List, ◌∙◌, sym, ap, subst}
use Rattle.std.specs.FinMap.{entries}
use Rattle.cg_types.specs.Rising.{Rises}
use Rattle.cg_types.proofs.RisingLemmas.{entries_rising}
use Rattle.cg_types.specs.Rows.{keys_of}
use Rattle.cg_tokens.specs.Values.{RingValue}
use Rattle.cg_tokens.proofs.ClaimLemmas.{heads_valid}
use Rattle.cg_tokens.proofs.ring.Listed.positions.Goals as goal

pub returns-clause-value : goal.returns-clause-value
returns-clause-value c =
    let rise : Rises (keys_of c.self.inside.positions.items) = subst (λ (ps : List (ℕ × ℕ)). Rises (keys_of ps)) (sym c.self.invariant.heads) (heads_valid c.self.inside.claims.items c.self.invariant.sorted) in
    c.deref.ensures.value ∙ sym (entries_rising c.self.inside.positions.items rise) ∙ ap (λ (r : RingValue). entries r.positions) c.self.view_is

pub returns-clause-rise : goal.returns-clause-rise
returns-clause-rise c =
    subst (λ (ps : List (ℕ × ℕ)). Rises (keys_of ps)) (sym (c.deref.ensures.value ∙ c.self.invariant.heads)) (heads_valid c.self.inside.claims.items c.self.invariant.sorted)
