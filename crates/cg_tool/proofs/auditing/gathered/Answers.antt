use Rattle.std.proofs.Common.{◌≡◌, ◌<◌, length, [], refl, arith, get_or}
use Rattle.std.proofs.lemmas.Option.{slice_get-get_or}
use Rattle.cg_tool.proofs.SourceLemmas.{at_next, at_end, stops_here}
use Rattle.cg_tool.proofs.auditing.gathered.Goals as goal

pub returns-in-Err : goal.returns-in-Err
returns-in-Err g c =
    let l = c.loop-source in
    let within : l.source-index < length l.sources = omega arith in
    let x = get_or l.sources l.source-index c.source-item.result in
    let here = slice_get-get_or l.sources l.source-index c.source-item.result within in
    let none = c.in-Err.ensures in
    stops_here g.S.Source.reads g.S.Source.fails l.source-index c.args.sources.now l.sources x c.read.new.source [] l.journals c.in-Err.unread l.invariant here (record { unread = none.unread; kept = refl })

pub loop-source-preserved : goal.loop-source-preserved
loop-source-preserved g c =
    let l = c.loop-source in
    let within : l.source-index < length l.sources = omega arith in
    let x = get_or l.sources l.source-index c.source-item.result in
    let here = slice_get-get_or l.sources l.source-index c.source-item.result within in
    at_next g.S.Source.reads g.S.Source.fails l.source-index c.args.sources.now l.sources x c.read.new.source [] l.journals c.read.new.self l.invariant here c.in-Ok.ensures

pub returns : goal.returns
returns g c =
    let l = c.loop-source in
    let all : l.source-index ≡ length l.sources = omega arith in
    at_end g.S.Source.reads g.S.Source.fails l.source-index c.args.sources.now l.sources [] l.journals l.invariant all
