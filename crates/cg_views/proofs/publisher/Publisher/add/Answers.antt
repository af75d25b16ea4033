use Rattle.std.proofs.Common.{◌≡◌, sym, ap, ◌∙◌, subst}
use Rattle.std.specs.Arc.{arc_value}
use Rattle.cg_table.specs.Values.{TableValue}
use Rattle.cg_table.specs.Puts.{with_puts}
use Rattle.cg_views.specs.Lists.{PublisherValue, FrontValue, are_all, MayFollow, appended}
use Rattle.cg_views.specs.Shows.{ShownValue, publisher_of}
use Rattle.cg_views.proofs.Beginnings.{when_true}
use Rattle.cg_views.proofs.Showing.{stands, appends, shows_appended, with_operation}
use Rattle.cg_views.proofs.publisher.Publisher.add.Goals as goal

pub table_with-requires : goal.table_with-requires
table_with-requires g c =
    let at = stands _ _ _ _ _ c.self.invariant ∙ ap (λ (p : PublisherValue). with_puts p.opening (are_all p)) c.self.view_is in
    (subst (λ (t : TableValue). MayFollow t c.args.puts.now) (sym at) c.requires).room

pub invariant_of-self : goal.invariant_of-self
invariant_of-self g c =
    let last = c.self.inside.last in
    let at = stands _ _ _ _ _ c.self.invariant ∙ ap (λ (p : PublisherValue). with_puts p.opening (are_all p)) c.self.view_is in
    let follows = subst (λ (t : TableValue). MayFollow t c.args.puts.now) (sym at) c.requires in
    let next : ShownValue = record { table = c.in_ok-table-2.table.value; front = c.add.new.self } in
    let added = when_true _ _ c.add.result c.if-not-add.false c.add.ensures in
    let front : next.front ≡ with_operation c.args.puts.now last.front = added ∙ ap (with_operation c.args.puts.now) c.front-front.ensures in
    let table : next.table ≡ with_puts last.table c.args.puts.now = c.in_ok-table-2.ensures.ok ∙ c.in_ok-table.ensures in
    appends _ _ _ last next _ c.args.puts.now c.self.invariant table front follows.order

pub returns-clause-ok : goal.returns-clause-ok
returns-clause-ok g c =
    let last = c.self.inside.last in
    let added = when_true _ _ c.add.result c.if-not-add.false c.add.ensures in
    let front : c.add.new.self ≡ with_operation c.args.puts.now last.front = added ∙ ap (with_operation c.args.puts.now) c.front-front.ensures in
    let shown = c.self.inside.writer.desk.shown.value.front in
    ap (publisher_of g.N.Naming.opening shown) front ∙ shows_appended g.N.Naming.opening shown last.front c.args.puts.now c.self.invariant.begins ∙ ap (appended c.args.puts.now) c.self.view_is
