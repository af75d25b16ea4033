-- No two confirmed receipts are of one record.
use Rattle.std.proofs.Common.{◌≡◌, ◌-◌, ℕ, Option, Some, sym, ap, ◌∙◌, arith, take}
use Rattle.std.proofs.lemmas.Option.{same_Some}
use Rattle.cg_types.specs.ListPlace.{at_place}
use Rattle.cg_history.specs.declared.item.Item.{Item}
use Rattle.cg_history.proofs.Confirmed.{at_take, within_follows}
use Rattle.cg_history.specs.Laws.{ConfirmedStandOnce}

same_item : (x y : Option Item) (i j : Item) → x ≡ Some i → y ≡ Some j → x ≡ y → i ≡ j
same_item x y i j a b e = same_Some i j (sym a ∙ e ∙ b)

pub confirmed_stand_once : ConfirmedStandOnce
confirmed_stand_once folded records receipts i j q r all at_i at_j less same =
    let first = all i q at_i in
    let second = all j r at_j in
    let item = same_item (at_place records (q.number - folded)) (at_place records (r.number - folded)) first.stands.0 second.stands.0 first.stands.1 second.stands.1 (ap (λ (n : ℕ). at_place records (n - folded)) same) in
    let caller : q.caller ≡ r.caller = sym first.stands.2.0 ∙ ap (λ (x : Item). x.caller) item ∙ second.stands.2.0 in
    let later = within_follows (take j receipts) i q r second.follows (at_take receipts i j q less at_i) caller in
    absurd (omega (arith, later, same))
