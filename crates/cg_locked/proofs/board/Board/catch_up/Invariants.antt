use Rattle.std.proofs.Common.{◌≡◌, ◌≤◌, ◌-◌, length}
use Rattle.cg_locked.proofs.board.Board.catch_up.Given as goal

abbrev pub invariant-loop-self : goal.invariant-loop-self
invariant-loop-self g l =
    (l.self.history ≡ l.initial.self.history) × (l.self.book ≡ l.initial.self.book) × (l.self.log ≡ l.initial.self.log) × (l.self.published ≡ l.initial.self.published)
    × (l.self.publisher.published ≡ l.initial.self.publisher.published)
    × (l.initial.self.appended ≤ l.self.appended)

abbrev pub decreases-loop-self : goal.decreases-loop-self
decreases-loop-self g l = length l.self.history.records - l.self.appended
