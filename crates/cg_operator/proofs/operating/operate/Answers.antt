use Rattle.std.proofs.Common.{◌≡◌, rules}
use Rattle.cg_links.specs.Counted.{link_of}
use Rattle.cg_operator.specs.Operating.{At}
use Rattle.cg_operator.proofs.GoingLemmas.{operated_at, operated_goes, operated_faults}
use Rattle.cg_operator.proofs.operating.operate.Goals as goal

pub returns : goal.returns
returns g c =
    let o = c.operate_lines.new.operating in
    let gate_is : o.gate.now ≡ c.gate-1.given.0 = search rules in
    let pass_is : o.pass.now ≡ c.pass-1.given.0 = search rules in
    let writer_is : o.writer.now ≡ c.writer-1.given.0 = search rules in
    let before = g.I.Read.remaining (link_of c.args.reader.now) in
    let after = g.I.Read.remaining (link_of c.operate_lines.new.reader) in
    let s : At g.row.W.Denot = record { gate = c.args.gate.now; pass = c.args.pass.now; writer = c.args.writer.now } in
    let t : At g.row.W.Denot = record { gate = c.gate-1.given.0; pass = c.pass-1.given.0; writer = c.writer-1.given.0 } in
    let lines = operated_at
    g.N.Name.start g.W.Write.contents g.N.Naming.opening before after c.args.reader.now c.operate_lines.new.reader
    s o.gate.now c.gate-1.given.0 o.pass.now c.pass-1.given.0 o.writer.now c.writer-1.given.0 c.operate_lines.result
    gate_is pass_is writer_is c.operate_lines.ensures.done in
    let on = operated_goes
    g.N.Name.start g.W.Write.contents g.N.Naming.opening before after c.args.reader.now c.operate_lines.new.reader
    s t c.operate_lines.result lines in
    record {
      lines = lines;
      gate = on.gate;
      later = on.later;
      turns = c.operate_lines.ensures.turns;
      fault = operated_faults
          g.N.Name.start g.W.Write.contents g.N.Naming.opening before after c.args.reader.now
          c.operate_lines.new.reader s t c.operate_lines.result lines;
    }
