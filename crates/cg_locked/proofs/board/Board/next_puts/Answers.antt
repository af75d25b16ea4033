use Rattle.std.proofs.Common.{◌≡◌, ◌+◌, List, length, take, arith, ap, ◌∙◌, ◌<◌}
use Rattle.std.specs.Prelude.{slice_index_or}
use Rattle.cg_history.specs.declared.item.Item.{Item}
use Rattle.cg_history.specs.Items.{puts_of}
use Rattle.cg_history.proofs.Folding.{all_counted}
use Rattle.cg_history.proofs.PutsOfRecords.{puts_next}
use Rattle.cg_locked.proofs.Folding.{index_in_all}
use Rattle.cg_locked.proofs.board.Board.next_puts.Goals as goal

pub returns : goal.returns
returns g c =
    let s = c.args.self.now in
    let h = s.history in
    let k = s.appended in
    let r = c.index-records-self.result in
    let is : r ≡ slice_index_or h.records k r = c.index-records-self.is ∙ ap (λ (l : List Item). slice_index_or l k r) c.records.ensures.value in
    let count = all_counted s.log h s.listed in
    let less = c.requires in
    let within : h.folded + k < length s.log = omega (arith, count, less) in
    let one : h.folded + (k + 1) ≡ h.folded + k + 1 = omega arith in
    rw c.in_ok-puts.ensures (ap (λ n. puts_of (take n s.log)) one ∙ puts_next (h.folded + k) s.log r within (index_in_all s.log h s.listed k r is))
