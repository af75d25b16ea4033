use Rattle.cg_workers.proofs.receiving.answer.Goals as goal

pub returns : goal.returns
returns g c = (
  record {
    now = c.now-now.result;
    shown = c.now-now.ensures;
    r0 = c.new-reader.result;
    r1 = c.respond.new.reader;
    w0 = c.new-writer.result;
    w1 = c.respond.new.writer;
    read = c.new-reader.ensures.link;
    written = c.new-writer.ensures.link;
    fresh = (c.new-reader.ensures.counts, c.new-writer.ensures.counts);
    ended = c.respond.result;
    done = c.respond.ensures;
  },
  c.broken_by.ensures,
)
