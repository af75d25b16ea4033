use Rattle.std.proofs.Common.{◌∙◌, List, ap, sym}
use Rattle.std.specs.Ordering.{nat_cmp}
use Rattle.std.specs.FinMap as map
use Rattle.std.specs.FinMap.Entries.{find}
use Rattle.cg_types.proofs.RisingLemmas.{get_rising}
use Rattle.cg_silence.specs.Values.{WindowValue}
use Rattle.cg_silence.specs.Walking.{flat}
use Rattle.cg_silence.proofs.ChunkLemmas.{Rows}
use Rattle.cg_silence.proofs.chunks.Chunks.get.Goals as goal

pub returns : goal.returns
returns c =
    let k = c.args.endpoint in
    c.find_in.ensures ∙ ap (λ (chunks : List Rows). find nat_cmp k (flat chunks)) c.deref.ensures.value ∙ sym (get_rising (flat c.self.inside.chunks.items) k c.self.invariant)
    ∙ ap (λ (m : map.FinMap nat_cmp WindowValue). map.get m k) c.self.view_is
