use Rattle.std.proofs.Common.{◌∙◌, ℕ, List, Option, Some, None, sym, ap}
use Rattle.cg_entry.specs.Values.{EntryValue}
use Rattle.cg_entry.specs.State.{value_at_key}
use Rattle.cg_entry.specs.Versioned.{Versioned}
use Rattle.cg_entry.specs.Removals.{removal_at}
use Rattle.cg_entry.proofs.RemovalLemmas.{shows_at, shown_removed, shown_kept}
use Rattle.cg_entry.proofs.entry.Entry.state.Goals as goal

pub returns-in_default : goal.returns-in_default
returns-in_default c =
    sym (shows_at c.self.inside.removals c.self.inside.states c.args.self.now.states c.args.key None (ap (λ (x : EntryValue). x.states) c.self.view_is) (sym c.in_default.ensures.value))

pub returns-in-Some-get : goal.returns-in-Some-get
returns-in-Some-get c =
    let w : Versioned = value_at_key c.in-Some.state.now in
    ap (λ (v : Versioned). Some v) (sym (shown_removed (removal_at c.self.inside.removals c.args.key) c.in-Some-get.version w c.in-Some-get.ensures))
    ∙ sym (shows_at c.self.inside.removals c.self.inside.states c.args.self.now.states c.args.key (Some w) (ap (λ (x : EntryValue). x.states) c.self.view_is) (sym c.in-Some.ensures.value))

pub returns-in-None : goal.returns-in-None
returns-in-None c =
    let w : Versioned = value_at_key c.in-Some.state.now in
    ap (λ (t : Option (List ℕ)). Some (record { text = t; version = w.version })) c.as_ref.ensures.value
    ∙ ap (λ (v : Versioned). Some v) (sym (shown_kept (removal_at c.self.inside.removals c.args.key) w c.in-None.ensures))
    ∙ sym (shows_at c.self.inside.removals c.self.inside.states c.args.self.now.states c.args.key (Some w) (ap (λ (x : EntryValue). x.states) c.self.view_is) (sym c.in-Some.ensures.value))
