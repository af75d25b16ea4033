use Rattle.std.proofs.Common.{◌≡◌, ℕ, min, List, ◌++◌, refl, ap, ◌∙◌}
use Rattle.std.specs.Arc.{arc_value}
use Rattle.circular_buffer.specs.Buffer.{keep_last}
use Rattle.cg_silence.specs.declared.tail.TheConstants.{RECENT_ROOM}
use Rattle.cg_silence.specs.Values.{SilenceValue, PastValue, long_gaps}
use Rattle.cg_silence.proofs.WindowLemmas.{recent_more, all_joined}
use Rattle.cg_silence.proofs.past.Past.with.Goals as goal

abbrev past_of : SilenceValue → List ℕ → PastValue
past_of s gaps = record { silence = s; gaps = gaps }

-- the gaps of shared ones with a tail behind them
abbrev with_tail : List ℕ → PastValue → PastValue
with_tail tail p = past_of p.silence (keep_last p.silence.window (p.gaps ++ tail))

pub returns-then-is_empty : goal.returns-then-is_empty
returns-then-is_empty c =
    let p = c.self.inside in
    let n = p.silence.window in
    let long = long_gaps p.long in
    let recent : c.in_ok-recent.recent.items ≡ keep_last (min n RECENT_ROOM) (p.recent.items ++ c.args.tail.now) = rw (c.in_ok-recent.ensures, c.min.ensures, c.window-window.ensures.value, c.deref.ensures.value) refl in
    let all : c.in_ok-joined.field-0.items ≡ keep_last n (long ++ keep_last (min n RECENT_ROOM) (p.recent.items ++ c.args.tail.now)) =
    rw (c.in_ok-joined.ensures, c.deref-then-is_empty.ensures.value, recent, c.gaps_of-long.ensures, c.window-window.ensures.value) refl in
    let gaps : keep_last n ((arc_value c.in_ok-new.field-0).items ++ c.new-then-is_empty.result.items) ≡ keep_last n (keep_last n (long ++ p.recent.items) ++ c.args.tail.now) =
    rw (c.in_ok-new.ensures.ok, c.new-then-is_empty.ensures.items, all) (all_joined n long p.recent.items c.args.tail.now c.self.invariant c.requires) in
    ap (past_of p.silence) gaps ∙ ap (with_tail c.args.tail.now) c.self.view_is

pub returns : goal.returns
returns c =
    let p = c.self.inside in
    let n = p.silence.window in
    let long = long_gaps p.long in
    let gaps : keep_last n (long_gaps c.in_ok-shared.field-0 ++ c.in_ok-recent.recent.items) ≡ keep_last n (keep_last n (long ++ p.recent.items) ++ c.args.tail.now) =
    rw (c.in_ok-shared.ensures, c.in_ok-recent.ensures, c.min.ensures, c.window-window.ensures.value, c.deref.ensures.value) (recent_more n long p.recent.items c.args.tail.now c.self.invariant c.requires) in
    ap (past_of p.silence) gaps ∙ ap (with_tail c.args.tail.now) c.self.view_is
