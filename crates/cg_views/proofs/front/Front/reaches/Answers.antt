use Rattle.std.proofs.Common.{List, ap, subst, refl}
use mathlib.Core.List.{IsPrefix}
use Rattle.cg_table.specs.Puts.{Put}
use Rattle.cg_views.proofs.Beginnings.{begins_by_length}
use Rattle.cg_views.proofs.front.Front.reaches.Goals as goal

pub returns : goal.returns
returns c =
    let both = c.learn.new.self.log in
    let this : IsPrefix c.self.inside.seen.log both = subst (λ (l : List (List Put)). IsPrefix l both) (ap (λ s. s.log) c.again-both.ensures) c.learn.ensures.2 in
    rw (← c.self.view_is, ← c.other.view_is) (begins_by_length c.self.inside.seen.log c.other.inside.seen.log both c.self.inside.len c.other.inside.len c.self.invariant c.other.invariant this c.learn.ensures.3 _ refl)
