use Rattle.std.proofs.Common.{◌∙◌, List, ap}
use Rattle.std.specs.List.{filter_map}
use Rattle.cg_types.proofs.MapLemmas.{walked_view, walked_valid}
use Rattle.cg_silence.specs.Windows.{arrival}
use Rattle.cg_silence.specs.Walking.{flat, walk_heard}
use Rattle.cg_silence.proofs.ChunkLemmas.{Rows}
use Rattle.cg_silence.proofs.HeardLemmas.{seen_in, arrivals_rise}
use Rattle.cg_silence.proofs.WalkLemmas.{walk_puts}
use Rattle.cg_silence.proofs.chunks.Chunks.heard.Goals as goal

pub invariant_of-result : goal.invariant_of-result
invariant_of-result c =
    let s = c.args.silence in
    let now = c.args.now in
    let os = c.args.outcomes.now in
    let m = c.args.self.now in
    let rows = flat c.self.inside.chunks.items in
    let w = seen_in s m in
    let made =
    c.in_ok-hear_all.ensures ∙ ap (λ (chunks : List Rows). walk_heard s now os (flat chunks)) c.deref.ensures.value
    ∙ walk_puts s now rows m os c.self.invariant c.self.view_is c.requires.judge c.requires.outcomes in
    rw made (walked_valid (filter_map (arrival w now) os) rows m c.self.invariant c.self.view_is (arrivals_rise w now os c.requires.outcomes))

pub returns : goal.returns
returns c =
    let s = c.args.silence in
    let now = c.args.now in
    let os = c.args.outcomes.now in
    let m = c.args.self.now in
    let rows = flat c.self.inside.chunks.items in
    let w = seen_in s m in
    let made =
    c.in_ok-hear_all.ensures ∙ ap (λ (chunks : List Rows). walk_heard s now os (flat chunks)) c.deref.ensures.value
    ∙ walk_puts s now rows m os c.self.invariant c.self.view_is c.requires.judge c.requires.outcomes in
    rw made (walked_view (filter_map (arrival w now) os) rows m c.self.invariant c.self.view_is (arrivals_rise w now os c.requires.outcomes))
