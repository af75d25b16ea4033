use Rattle.std.proofs.Common.{◌∙◌, None, arith, sym, ap}
use Rattle.cg_entry.specs.Entry.{has_text}
use Rattle.cg_entry.specs.Removals.{with_tombstones}
use Rattle.cg_entry.specs.Values.{EntryValue}
use Rattle.cg_entry.proofs.RemovalLemmas.{one_removed}
use Rattle.cg_entry.proofs.StandingLemmas.{next_is, set_is, set_stands}
use Rattle.cg_entry.proofs.entry.Entry.remove.Goals as goal

pub invariant_of-self : goal.invariant_of-self
invariant_of-self c =
    let positive = next_is c.args.versions.now c.in_ok-version.version c.in_ok-version.ensures.value in
    let stood = ap (λ (x : EntryValue). has_text c.args.key x) c.self.view_is ∙ sym c.has_text.ensures ∙ c.if-not-has_text.false in
    let one = one_removed c.self.inside.removals c.put.new.self c.args.key c.in_ok-version.version c.self.inside.states c.put.ensures (omega arith) stood in
    set_stands c.self.inside.generation c.self.inside.heartbeat c.args.versions.now c.in_ok-version.version (with_tombstones c.self.inside.removals c.self.inside.states) c.args.self.now c.self.view_is c.requires c.in_ok-version.ensures.value c.args.key None (with_tombstones c.put.new.self c.self.inside.states) one

pub returns-clause-ok : goal.returns-clause-ok
returns-clause-ok c =
    let positive = next_is c.args.versions.now c.in_ok-version.version c.in_ok-version.ensures.value in
    let stood = ap (λ (x : EntryValue). has_text c.args.key x) c.self.view_is ∙ sym c.has_text.ensures ∙ c.if-not-has_text.false in
    let one = one_removed c.self.inside.removals c.put.new.self c.args.key c.in_ok-version.version c.self.inside.states c.put.ensures (omega arith) stood in
    set_is c.self.inside.generation c.self.inside.heartbeat c.args.versions.now c.in_ok-version.version (with_tombstones c.self.inside.removals c.self.inside.states) c.args.self.now c.self.view_is c.requires c.in_ok-version.ensures.value c.args.key None (with_tombstones c.put.new.self c.self.inside.states) one

pub returns-clause-stands : goal.returns-clause-stands
returns-clause-stands c =
    let positive = next_is c.args.versions.now c.in_ok-version.version c.in_ok-version.ensures.value in
    let stood = ap (λ (x : EntryValue). has_text c.args.key x) c.self.view_is ∙ sym c.has_text.ensures ∙ c.if-not-has_text.false in
    let one = one_removed c.self.inside.removals c.put.new.self c.args.key c.in_ok-version.version c.self.inside.states c.put.ensures (omega arith) stood in
    c.in_ok-version.ensures.ok
    ∙ set_stands c.self.inside.generation c.self.inside.heartbeat c.args.versions.now c.in_ok-version.version (with_tombstones c.self.inside.removals c.self.inside.states) c.args.self.now c.self.view_is c.requires c.in_ok-version.ensures.value c.args.key None (with_tombstones c.put.new.self c.self.inside.states) one
