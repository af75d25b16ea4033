use Rattle.std.proofs.Common.{◌≡◌, ◌++◌, ◌≤◌, length, None, Ok, sym, subst}
use Rattle.cg_frames.specs.Feeding.{Cut, IsPartial, Splits, SplitsFrom, HasAtMostOne, standing_of, wants_of}
use Rattle.cg_frames.specs.Feeding.{lack_of}
use Rattle.cg_frames.proofs.FeedingLemmas.{frames_partial, at_most_one}
use Rattle.cg_frames.proofs.FaultLemmas.{bad_standing}
use Rattle.cg_frames.proofs.SplittingLemmas.{frames_split}
use Rattle.cg_frames.proofs.LawLemmas.{layouts_are_read}
use Rattle.cg_frames.specs.declared.layout.TheConstants.{LAYOUTS}
use Rattle.cg_frames.proofs.feed.Feed.push.Goals as goal

pub invariant_of-self-2 : goal.invariant_of-self-2
invariant_of-self-2 c =
    subst (λ (k : Cut). IsPartial LAYOUTS k.rest) (c.in_ok-fed.ensures.ok) (frames_partial LAYOUTS (c.self.inside.held.items ++ c.args.piece.now))

pub returns-clause-spelled : goal.returns-clause-spelled
returns-clause-spelled c =
    let none : c.self.inside.fault ≡ None = c.in_default.is in
    let whole : Ok c.self.inside.held.items ≡ c.args.self.now =
    subst (λ f. standing_of c.self.inside.held.items f ≡ c.args.self.now) none c.self.view_is in
    let all = c.self.inside.held.items ++ c.args.piece.now in
    let cut : Cut = record { messages = c.in_ok-fed.fed.messages.items; rest = standing_of c.take.new.held.items c.in_ok-fed.fed.fault } in
    let split : Splits LAYOUTS all cut = subst (λ (k : Cut). Splits LAYOUTS all k) (c.in_ok-fed.ensures.ok) (frames_split LAYOUTS layouts_are_read all c.in_ok-fed.ensures.bytes) in
    subst (λ s. SplitsFrom LAYOUTS s c.args.piece.now cut) whole split

pub returns-clause-one : goal.returns-clause-one
returns-clause-one c fits =
    let none : c.self.inside.fault ≡ None = c.in_default.is in
    let held = c.self.inside.held.items in
    let partial : IsPartial LAYOUTS (Ok held) = subst (λ f. IsPartial LAYOUTS (standing_of held f)) none c.self.invariant in
    let whole : c.args.self.now ≡ Ok held = sym (subst (λ f. standing_of held f ≡ c.args.self.now) none c.self.view_is) in
    let short : length c.args.piece.now ≤ lack_of held = subst (λ s. length c.args.piece.now ≤ wants_of s) whole fits in
    subst (λ (k : Cut). HasAtMostOne k.messages k.rest) (c.in_ok-fed.ensures.ok) (at_most_one LAYOUTS held c.args.piece.now partial short)

pub returns-clause-bad : goal.returns-clause-bad
returns-clause-bad c =
    let partial = subst (λ (k : Cut). IsPartial LAYOUTS k.rest) (c.in_ok-fed.ensures.ok) (frames_partial LAYOUTS (c.self.inside.held.items ++ c.args.piece.now)) in
    bad_standing LAYOUTS c.take.new.held.items c.in_ok-fed.fed.fault partial
