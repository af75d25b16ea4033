use Rattle.std.proofs.Common.{◌≡◌, ◌==◌, ℕ, List, length, true, false, ap, sym, ◌∙◌, eqb-true}
use Rattle.std.proofs.lemmas.List.{nil_from_length}
use Rattle.cg_types.proofs.MapLemmas.{from_sorted-entries, no_rows, is_empty}
use Rattle.cg_types.proofs.map.SharedMap.copy.Goals as goal

pub returns-then-is_empty-clause-value : goal.returns-then-is_empty-clause-value
returns-then-is_empty-clause-value g c =
    let rows = c.rows-shared.result.now in
    let none : (length rows == 0) ≡ true = sym c.is_empty.ensures ∙ c.if-is_empty.true in
    c.new.ensures ∙ is_empty rows c.args.self.now c.rows-shared.ensures.value (nil_from_length rows (eqb-true (length rows) 0 none))

pub returns-in_err-rows-clause-empty : goal.returns-in_err-rows-clause-empty
returns-in_err-rows-clause-empty g c = λ empty.
    let rows = c.rows-shared.result.now in
    let some : (length rows == 0) ≡ false = sym c.is_empty.ensures ∙ c.if-is_empty.false in
    let none : (length rows == 0) ≡ true = ap (λ (rows : List (ℕ × g.row.T.Denot)). length rows == 0) (no_rows rows c.args.self.now c.rows-shared.ensures.value empty) in
    absurd cc

pub returns-in_err-share_all-clause-empty : goal.returns-in_err-share_all-clause-empty
returns-in_err-share_all-clause-empty g c = λ empty.
    let rows = c.rows-shared.result.now in
    let some : (length rows == 0) ≡ false = sym c.is_empty.ensures ∙ c.if-is_empty.false in
    let none : (length rows == 0) ≡ true = ap (λ (rows : List (ℕ × g.row.T.Denot)). length rows == 0) (no_rows rows c.args.self.now c.rows-shared.ensures.value empty) in
    absurd cc

pub returns-clause-value : goal.returns-clause-value
returns-clause-value g c = rw (c.in_ok-share_all.ensures, c.in_ok-rows.ensures.items, c.rows-shared.ensures.value) (from_sorted-entries c.args.self.now)
