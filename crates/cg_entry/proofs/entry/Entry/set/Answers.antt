use Rattle.std.proofs.Common.{◌≡◌, ◌∙◌, ℕ, List, Some, sym, ap, subst}
use Rattle.std.specs.FinMap.{insert}
use Rattle.cg_entry.specs.Entry.{greatest, with_state}
use Rattle.cg_entry.specs.Removals.{with_tombstones}
use Rattle.cg_entry.specs.Values.{EntryValue}
use Rattle.cg_entry.proofs.StandingLemmas.{set_is, set_stands}
use Rattle.cg_entry.proofs.entry.Entry.set.Goals as goal

pub invariant_of-self : goal.invariant_of-self
invariant_of-self c =
    let put = c.in_ok-states.ensures ∙ ap (λ (x : EntryValue). insert x.states c.args.key (record { text = Some c.args.text; version = c.in_ok-version.version })) (sym c.self.view_is) in
    subst (λ (rs : List ℕ). c.in_ok-version.version ≡ greatest c.self.inside.heartbeat (with_tombstones rs c.in_ok-states.states)) (sym c.none-self-inside.ensures)
    (set_stands c.self.inside.generation c.self.inside.heartbeat c.args.versions.now c.in_ok-version.version (with_tombstones c.self.inside.removals c.self.inside.states) c.args.self.now c.self.view_is c.requires c.in_ok-version.ensures.value c.args.key (Some c.args.text) c.in_ok-states.states put)

pub returns-clause-ok : goal.returns-clause-ok
returns-clause-ok c =
    let put = c.in_ok-states.ensures ∙ ap (λ (x : EntryValue). insert x.states c.args.key (record { text = Some c.args.text; version = c.in_ok-version.version })) (sym c.self.view_is) in
    subst (λ (rs : List ℕ). record { generation = c.self.inside.generation; heartbeat = c.self.inside.heartbeat; states = with_tombstones rs c.in_ok-states.states } ≡ with_state c.args.key (Some c.args.text) c.args.self.now) (sym c.none-self-inside.ensures)
    (set_is c.self.inside.generation c.self.inside.heartbeat c.args.versions.now c.in_ok-version.version (with_tombstones c.self.inside.removals c.self.inside.states) c.args.self.now c.self.view_is c.requires c.in_ok-version.ensures.value c.args.key (Some c.args.text) c.in_ok-states.states put)

pub returns-clause-stands : goal.returns-clause-stands
returns-clause-stands c =
    let put = c.in_ok-states.ensures ∙ ap (λ (x : EntryValue). insert x.states c.args.key (record { text = Some c.args.text; version = c.in_ok-version.version })) (sym c.self.view_is) in
    c.in_ok-version.ensures.ok
    ∙ subst (λ (rs : List ℕ). c.in_ok-version.version ≡ greatest c.self.inside.heartbeat (with_tombstones rs c.in_ok-states.states)) (sym c.none-self-inside.ensures)
    (set_stands c.self.inside.generation c.self.inside.heartbeat c.args.versions.now c.in_ok-version.version (with_tombstones c.self.inside.removals c.self.inside.states) c.args.self.now c.self.view_is c.requires c.in_ok-version.ensures.value c.args.key (Some c.args.text) c.in_ok-states.states put)
