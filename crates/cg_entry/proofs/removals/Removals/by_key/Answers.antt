use Rattle.std.proofs.Common.{◌≡◌, ◌∙◌, ℕ, List, [], ◌∷◌, cond, sym, ap}
use Rattle.cg_entry.specs.Removals.{removal_at}
use Rattle.cg_entry.proofs.RemovalLemmas.{none_at}
use Rattle.cg_entry.proofs.removals.Removals.by_key.Goals as goal

pub returns-then-not-self-clause-value : goal.returns-then-not-self-clause-value
returns-then-not-self-clause-value c = λ k.
    let none : [] ≡ c.args.self.now = ap (λ b. cond b (0 ∷ c.self.inside.versions) []) (sym c.if-not-self.true) ∙ c.self.view_is in
    none_at 17 k ∙ ap (λ (rs : List ℕ). removal_at rs k) none
