use Rattle.cg_links.specs.Counted.{link_of}
use Rattle.cg_operator.proofs.StepLemmas.{taken_same, lines_operate}
use Rattle.cg_operator.proofs.operating.operate_lines.Goals as goal

pub returns-clause-gate : goal.returns-clause-gate
returns-clause-gate g c =
    (taken_same
    g.W.Write.contents g.N.Name.start g.N.Naming.opening
    (g.I.Read.remaining (link_of c.args.reader.now)) (g.I.Read.remaining (link_of c.take_lines.new.reader))
    c.args.reader.now c.take_lines.new.reader c.args.operating.now c.take_lines.new.taker c.take_lines.result
    c.take_lines.ensures.lines).gate

pub returns-clause-pass : goal.returns-clause-pass
returns-clause-pass g c =
    (taken_same
    g.W.Write.contents g.N.Name.start g.N.Naming.opening
    (g.I.Read.remaining (link_of c.args.reader.now)) (g.I.Read.remaining (link_of c.take_lines.new.reader))
    c.args.reader.now c.take_lines.new.reader c.args.operating.now c.take_lines.new.taker c.take_lines.result
    c.take_lines.ensures.lines).pass

pub returns-clause-writer : goal.returns-clause-writer
returns-clause-writer g c =
    (taken_same
    g.W.Write.contents g.N.Name.start g.N.Naming.opening
    (g.I.Read.remaining (link_of c.args.reader.now)) (g.I.Read.remaining (link_of c.take_lines.new.reader))
    c.args.reader.now c.take_lines.new.reader c.args.operating.now c.take_lines.new.taker c.take_lines.result
    c.take_lines.ensures.lines).writer

pub returns-clause-done : goal.returns-clause-done
returns-clause-done g c =
    lines_operate
    g.W.Write.contents g.N.Name.start g.N.Naming.opening
    (g.I.Read.remaining (link_of c.args.reader.now)) (g.I.Read.remaining (link_of c.take_lines.new.reader))
    c.args.reader.now c.take_lines.new.reader c.args.operating.now c.take_lines.new.taker c.take_lines.result
    c.take_lines.ensures.lines
