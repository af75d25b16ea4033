use Rattle.std.proofs.Common.{◌≡◌, ◌+◌, ◌++◌, ◌∙◌, sym, ap, subst, take, arith}
use Rattle.cg_table.specs.Values.{TableValue}
use Rattle.cg_table.specs.Puts.{with_puts}
use Rattle.cg_core.specs.Values.{NodeValue}
use Rattle.cg_history.specs.Items.{puts_of}
use Rattle.cg_history.specs.History.{unfolded}
use Rattle.cg_views.specs.Lists.{MayFollow, are_all}
use Rattle.cg_locked.proofs.Folding.{whole_replayed}
use Rattle.cg_locked.proofs.Showing.{next_may_follow}
use Rattle.cg_locked.proofs.board.Board.append_next.Goals as goal

pub append_puts-requires : goal.append_puts-requires
append_puts-requires g c =
    let s = c.args.self.now in
    let h = s.history in
    let led = whole_replayed s.log h s.listed g.N.Name.start s.start s.replays c.show.ensures in
    let one : h.folded + s.appended + 1 ≡ h.folded + (s.appended + 1) = omega arith in
    let next : puts_of (take (h.folded + s.appended + 1) s.log) ≡ puts_of (take (h.folded + s.appended) s.log) ++ c.in_ok-puts.puts = ap (λ n. puts_of (take n s.log)) one ∙ c.in_ok-puts.ensures in
    let may = next_may_follow (unfolded s.log h) (h.folded + s.appended) (are_all s.publisher) c.in_ok-puts.puts led s.shown next in
    subst (λ (t : TableValue). MayFollow (with_puts t (are_all s.publisher)) c.in_ok-puts.puts) (ap (λ (n : NodeValue). n.table) s.start ∙ sym s.opening) may
