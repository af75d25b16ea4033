use Rattle.std.proofs.Common.{◌≡◌, ◌<◌, ◌≤◌, ◌∙◌, sym, ap, arith}
use Rattle.std.specs.Option.{option_copied}
use Rattle.cg_entry.specs.Values.{EntryValue}
use Rattle.cg_entry.proofs.ReadLemmas.{is_less, not_less}
use Rattle.cg_entry.proofs.TakenLemmas.{unheld_taken, later_taken, advanced_taken}
use Rattle.cg_entry.proofs.entry.meet.Goals as goal

pub returns-in_default-clause-each : goal.returns-in_default-clause-each
returns-in_default-clause-each c =
    unheld_taken (option_copied c.args.held) c.args.delta.now c.whole.result (ap option_copied c.in_default.is) c.whole.ensures.value

pub returns-then-lt-2-clause-each : goal.returns-then-lt-2-clause-each
returns-then-lt-2-clause-each c =
    let mine : c.entry.inside.generation ≡ c.in-Some.entry.now.generation = ap (λ (x : EntryValue). x.generation) c.entry.view_is in
    let less : c.entry.inside.generation < c.generation-2.result = is_less c.entry.inside.generation c.generation-2.result (sym c.if-lt-2.ensures) in
    later_taken (option_copied c.args.held) c.in-Some.entry.now c.args.delta.now (ap option_copied c.in-Some.is) c.whole-then-lt-2.result (omega (arith, mine, less, c.generation-2.ensures)) c.whole-then-lt-2.ensures.value

pub returns-clause-each : goal.returns-clause-each
returns-clause-each c =
    let mine : c.entry.inside.generation ≡ c.in-Some.entry.now.generation = ap (λ (x : EntryValue). x.generation) c.entry.view_is in
    let not_older : c.entry.inside.generation ≤ c.generation.result = not_less c.generation.result c.entry.inside.generation (sym c.lt.ensures ∙ c.if-lt.false) in
    let not_newer : c.generation-2.result ≤ c.entry.inside.generation = not_less c.entry.inside.generation c.generation-2.result (sym c.lt-2.ensures ∙ c.if-lt-2.false) in
    let same : c.in-Some.entry.now.generation ≡ c.args.delta.now.generation = omega (arith, mine, not_older, not_newer, c.generation.ensures, c.generation-2.ensures) in
    advanced_taken (option_copied c.args.held) c.in-Some.entry.now c.args.delta.now (ap option_copied c.in-Some.is) c.in_ok-advance.field-0 same c.in_ok-advance.ensures
