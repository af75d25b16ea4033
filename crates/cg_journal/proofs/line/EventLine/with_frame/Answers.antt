use Rattle.std.proofs.Common.{◌≡◌, ◌++◌, List, map, string_bytes, sym, ap, ◌∙◌}
use Rattle.cg_journal.specs.Text.{joined}
use Rattle.cg_journal.proofs.LineLemmas.{joined_more, joined_three}
use Rattle.cg_journal.proofs.line.EventLine.with_frame.Goals as goal

pub returns : goal.returns
returns c =
    let begun : joined (map (λ s. string_bytes s) c.push.new.self.items) ≡ string_bytes c.args.begun =
    joined_more (λ s. string_bytes s) c.new-pieces.result.items c.push.new.self.items c.args.begun c.in_ok-push.ensures.items
    ∙ ap (λ ps. joined (map (λ s. string_bytes s) ps) ++ string_bytes c.args.begun) c.new-pieces.ensures.items in
    let ended = joined_more (λ s. string_bytes s) c.add_pieces.new.pieces.items c.push-2.new.self.items c.in_ok-line_feed.field-0 c.in_ok-push-2.ensures.items in
    joined_three _ _ _ _ _ _ begun c.in_ok-add_pieces.ensures (ended ∙ ap (λ t. joined (map (λ s. string_bytes s) c.add_pieces.new.pieces.items) ++ t) c.in_ok-line_feed.ensures)
