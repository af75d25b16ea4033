use Rattle.std.proofs.Common.{◌≡◌, true}
use Rattle.cg_messages.specs.Members.{is_member_list, endpoints_of_digests}
use Rattle.cg_frames.proofs.ReadIsSpelledParts.{digests_listed}
use Rattle.cg_frames.proofs.bodies.syn_of.Goals as goal

pub unreachable-requires : goal.unreachable-requires
unreachable-requires c =
    let ok : is_member_list (endpoints_of_digests c.in_ok-digests.digests.items) ≡ true = digests_listed c.args.layout.now c.byte.new.self c.in_ok-count.count c.count.new.self c.in_ok-digests.digests.items c.digests_of.new.reader c.requires.members c.in_ok-count.ensures c.in_ok-digests.ensures in
    let refused = c.in-None.ensures.when in cc
