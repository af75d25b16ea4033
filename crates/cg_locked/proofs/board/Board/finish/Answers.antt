use Rattle.std.proofs.Common.{List, ◌∙◌, subst}
use Rattle.std.specs.List.{All}
use mathlib.Core.List.{IsPrefix}
use Rattle.cg_history.specs.declared.item.Item.{Item}
use Rattle.cg_locked.specs.Seat.{SeatState}
use Rattle.cg_locked.proofs.board.Board.finish.Goals as goal

pub returns-in-Ok-clause-seen : goal.returns-in-Ok-clause-seen
returns-in-Ok-clause-seen g c =
    let same = c.meet_all.ensures.same ∙ c.apart-history.ensures.same.1 in
    subst (λ (l : List Item). All (λ (s : SeatState). IsPrefix s.seen l) c.args.seats.items) same
    (subst (λ (xs : List SeatState). All (λ (s : SeatState). IsPrefix s.seen c.meet_all.new.log) xs) c.deref.ensures.value c.meet_all.ensures.begins)

pub returns-clause-seen : goal.returns-clause-seen
returns-clause-seen g c =
    let same = c.meet_all.ensures.same ∙ c.apart-history.ensures.same.1 in
    subst (λ (l : List Item). All (λ (s : SeatState). IsPrefix s.seen l) c.args.seats.items) same
    (subst (λ (xs : List SeatState). All (λ (s : SeatState). IsPrefix s.seen c.meet_all.new.log) xs) c.deref.ensures.value c.meet_all.ensures.begins)
