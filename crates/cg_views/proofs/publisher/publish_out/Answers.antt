use Rattle.std.proofs.Common.{◌≡◌, sym, ap, ◌∙◌, subst}
use mathlib.Core.List.{IsPrefix}
use Rattle.cg_views.specs.Shows.{ShownValue, IsSound}
use Rattle.cg_views.proofs.Beginnings.{at_ok}
use Rattle.cg_views.proofs.Showing.{turns, shows_last, publishes, shows_published}
use Rattle.cg_views.proofs.publisher.publish_out.Goals as goal

pub publish_as-writer-requires : goal.publish_as-writer-requires
publish_as-writer-requires g c next is views h at =
    let i = c.publisher.invariant in
    let shown = c.append.new.self.desk.shown.value in
    let last = c.publisher.inside.last in
    let here : shown ≡ c.publisher.inside.writer.desk.shown.value = ap (λ d. d.shown.value) c.in-Ok-append.ensures.desk in
    let same : next ≡ last = is ∙ shows_last shown _ _ c.in-Ok.operation last c.in-Ok-append.ensures.pending c.in-Ok.ensures in
    let begins = subst (λ (s : ShownValue). IsPrefix s.front.all last.front.all) (sym here) i.begins in
    turns g.N.Naming.book g.N.Naming.opening _ _ shown next (subst (λ (s : ShownValue). IsPrefix shown.front.all s.front.all) (sym same) begins) (subst (IsSound g.N.Naming.book g.N.Naming.opening) (sym same) i.last_sound) views h at

pub invariant_of-result-in-Ok-result : goal.invariant_of-result-in-Ok-result
invariant_of-result-in-Ok-result g c =
    let v = at_ok _ _ _ _ c.in-Ok-result.is c.publish_as-writer.ensures.values in
    let same = v.0 ∙ shows_last c.append.new.self.desk.shown.value _ _ c.in-Ok.operation c.publisher.inside.last c.in-Ok-append.ensures.pending c.in-Ok.ensures in
    publishes _ _ _ _ _ _ c.publisher.invariant same

pub returns-in-Ok-result-clause-ok : goal.returns-in-Ok-result-clause-ok
returns-in-Ok-result-clause-ok g c =
    let i = c.publisher.invariant in
    let v = at_ok _ _ _ _ c.in-Ok-result.is c.publish_as-writer.ensures.values in
    let same = v.0 ∙ shows_last c.append.new.self.desk.shown.value _ _ c.in-Ok.operation c.publisher.inside.last c.in-Ok-append.ensures.pending c.in-Ok.ensures in
    rw (← c.publisher.view_is) (shows_published g.N.Naming.opening c.publisher.inside.writer.desk.shown.value.front _ c.publisher.inside.last.front i.begins (ap (λ (s : ShownValue). s.front) same))
