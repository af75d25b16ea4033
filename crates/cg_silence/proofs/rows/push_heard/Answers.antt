use Rattle.std.proofs.Common.{◌≡◌, ◌++◌, ◌∷◌, [], ℕ, ◌-◌, length, get_or, List, ap, ◌∙◌, arith, length-append}
use Rattle.std.proofs.Math.Seq.{get_or-append_seam}
use Rattle.cg_silence.specs.Values.{WindowValue}
use Rattle.cg_silence.proofs.WalkLemmas.{last_heard}
use Rattle.cg_silence.proofs.rows.push_heard.Goals as goal

pub returns : goal.returns
returns c =
    let rows = c.args.made.now.items in
    let row = c.index_mut.result.now in
    let held = c.behind-made.inside in
    let pushed : c.push.new.self.items ≡ rows ++ (c.args.endpoint, c.in_ok-window.window) ∷ [] = c.in_ok-push.ensures.items in
    let at : c.len-last.result - 1 ≡ length rows = omega (arith, c.len-last.ensures, ap (λ (xs : List (ℕ × WindowValue)). length xs) pushed, length-append rows ((c.args.endpoint, c.in_ok-window.window) ∷ [])) in
    let found = c.index_mut.ensures.value ∙ (λ i. get_or (pushed i) (at i) row) ∙ get_or-append_seam rows (c.args.endpoint, c.in_ok-window.window) [] row in
    last_heard c.arrived.result c.args.silence c.args.now rows c.push.new.self.items (c.len-last.result - 1) held.endpoint c.args.endpoint held.window c.in_ok-window.window _ c.arrived.new.self
    pushed at (c.behind-made.view_is ∙ found) c.arrived.ensures.step (c.in_ok-window.ensures c.args.now)
