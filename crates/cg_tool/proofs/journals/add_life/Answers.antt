use Rattle.std.proofs.Common.{◌≡◌, ℕ, true, false, length, sym, ap, ◌∙◌, arith, slice_get}
use Rattle.std.specs.Prelude.{nat_lt}
use Rattle.std.specs.List.{insert}
use Rattle.std.proofs.lemmas.List.Sums.{prefix_len-le-length}
use Rattle.std.proofs.lemmas.Result.{IfOk-weaker}
use Rattle.cg_table.specs.Values.{TableValue}
use Rattle.cg_core.specs.Values.{NodeValue}
use Rattle.cg_audit.specs.Items.{LivesValue}
use Rattle.cg_tool.specs.Gathered.{is_of}
use Rattle.cg_tool.proofs.GatheredLemmas.{count_before, pushed_there, inserted_there}
use Rattle.cg_tool.proofs.journals.add_life.Goals as goal

pub returns-then-are_at-clause-ok : goal.returns-then-are_at-clause-ok
returns-then-are_at-clause-ok c =
    let items = c.args.lives.now.items in
    let e = c.own-endpoint.result in
    let own : e ≡ c.args.history.base.table.own = c.own-endpoint.ensures.value ∙ ap (λ (t : TableValue). t.own) (c.table.ensures ∙ ap (λ (n : NodeValue). n.table) c.base.ensures.value) in
    let place = c.before-place.result in
    let is : place ≡ count_before items c.args.history.base.table.own = c.before-place.ensures ∙ ap (λ ls. count_before ls e) c.deref.ensures.value ∙ ap (count_before items) own in
    let of : is_of c.args.history.base.table.own (slice_get items place) ≡ true =
    sym (c.are_at.ensures ∙ ap (λ ls. is_of e (slice_get ls place)) c.deref-2.ensures.value ∙ ap (λ (o : ℕ). is_of o (slice_get items place)) own) ∙ c.if-are_at.true in
    IfOk-weaker c.push_at.result _ _ (λ v pushed. pushed_there items c.args.history place c.push_at.new.lives.items is of pushed) c.push_at.ensures.ok

pub insert-requires : goal.insert-requires
insert-requires c =
    let le = prefix_len-le-length (λ (l : LivesValue). nat_lt l.endpoint c.own-endpoint.result) c.deref.result.now in
    let is = c.before-place.ensures in
    let same : length c.deref.result.now ≡ length c.args.lives.now.items = ap length c.deref.ensures.value in
    omega (arith, le, is, same, c.deref.ensures.len)

pub returns-clause-ok : goal.returns-clause-ok
returns-clause-ok c =
    let items = c.args.lives.now.items in
    let e = c.own-endpoint.result in
    let own : e ≡ c.args.history.base.table.own = c.own-endpoint.ensures.value ∙ ap (λ (t : TableValue). t.own) (c.table.ensures ∙ ap (λ (n : NodeValue). n.table) c.base.ensures.value) in
    let place = c.before-place.result in
    let is : place ≡ count_before items c.args.history.base.table.own = c.before-place.ensures ∙ ap (λ ls. count_before ls e) c.deref.ensures.value ∙ ap (count_before items) own in
    let none : is_of c.args.history.base.table.own (slice_get items place) ≡ false =
    sym (c.are_at.ensures ∙ ap (λ ls. is_of e (slice_get ls place)) c.deref-2.ensures.value ∙ ap (λ (o : ℕ). is_of o (slice_get items place)) own) ∙ c.if-are_at.false in
    c.in_ok-insert.ensures.items ∙ ap (insert items place) c.in_ok-of_one.ensures ∙ inserted_there items c.args.history place is none
