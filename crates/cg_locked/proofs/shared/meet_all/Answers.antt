use Rattle.std.proofs.Common.{◌≡◌, ◌+◌, ◌++◌, ◌∷◌, [], List, take, sym, ap, ◌∙◌, subst, arith}
use Rattle.std.specs.List.{All}
use Rattle.std.proofs.lemmas.List.{take_more, take_all}
use Rattle.std.proofs.lemmas.List.Elements.{All-push}
use mathlib.Core.List.{IsPrefix}
use Rattle.cg_history.specs.declared.item.Item.{Item}
use Rattle.cg_locked.specs.Seat.{SeatState}
use Rattle.cg_locked.proofs.shared.meet_all.Goals as goal

pub loop-seat-preserved : goal.loop-seat-preserved
loop-seat-preserved g c =
    let P = λ (s : SeatState). IsPrefix s.seen c.meet.new.self in
    let same = c.meet.ensures.same in
    let i = c.loop-seat.seat-index in
    let xs : List SeatState = c.args.seats.now in
    let x : SeatState = c.seat-item.result in
    let before : All P (take i xs) = subst (λ (l : List Item). All (λ (s : SeatState). IsPrefix s.seen l) (take i xs)) (sym same) c.loop-seat.invariant.1 in
    let here : P x = subst (λ (l : List Item). IsPrefix l c.meet.new.self) c.front.ensures c.meet.ensures.begins in
    let all : take (i + 1) xs ≡ take i xs ++ x ∷ [] = take_more xs i x c.loop-seat-test.true ∙ ap (λ (y : SeatState). take i xs ++ y ∷ []) (sym c.seat-item.is) in
    (same ∙ c.loop-seat.invariant.0, subst (λ (l : List SeatState). All P l) (sym all) (All-push P (take i xs) x before here))

pub returns-clause-begins : goal.returns-clause-begins
returns-clause-begins g c =
    let P = λ (s : SeatState). IsPrefix s.seen c.loop-seat.log in
    let xs : List SeatState = c.args.seats.now in
    let i = c.loop-seat.seat-index in
    let past = c.loop-seat-test.false in
    subst (λ (l : List SeatState). All P l) (take_all i xs (omega (arith, past))) c.loop-seat.invariant.1
