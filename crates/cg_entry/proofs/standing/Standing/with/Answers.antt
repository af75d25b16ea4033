use Rattle.std.proofs.Common.{◌≡◌, ◌<◌, ◌∙◌, ℕ, sym, ap, subst, IfOk}
use Rattle.std.specs.List.{AllByRecursion}
use Rattle.std.specs.FinMap as map
use Rattle.cg_entry.specs.Versioned.{Versioned, States}
use Rattle.cg_entry.specs.State.{value_at_key}
use Rattle.cg_entry.specs.Entry.{overlay}
use Rattle.cg_entry.proofs.HeldLemmas.{over_one}
use Rattle.cg_entry.proofs.NewerLemmas.{entries-empty}
use Rattle.cg_entry.proofs.standing.Standing.with.Goals as goal

pub put_newest-requires : goal.put_newest-requires
put_newest-requires c =
    subst (λ es. AllByRecursion (λ (e : ℕ × Versioned). e.1.version < c.args.state.version) es) (sym (entries-empty c.in_ok-with_room-in-Bare.field-0 c.in_ok-with_room-in-Bare.ensures)) tt

pub returns : goal.returns
returns c =
    let one : c.own-one.result ≡ map.insert map.empty c.args.state.key (value_at_key c.args.state) = c.own-one.ensures ∙ c.in_ok-one.ensures in
    subst (λ (m : States). IfOk c.laid_under.result (λ b. b ≡ m)) (ap (overlay c.args.self.now) one ∙ over_one c.args.self.now c.args.state.key (value_at_key c.args.state)) c.laid_under.ensures
