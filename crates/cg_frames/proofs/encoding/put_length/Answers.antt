use Rattle.std.proofs.Common.{◌≡◌, ◌-◌, ◌∙◌, ℕ, List, length, get_or, ap, arith}
use Rattle.std.proofs.Math.ListN.{set}
use Rattle.cg_entry.specs.Section.{four_bytes}
use Rattle.cg_frames.proofs.LengthLemmas.{put_at_front}
use Rattle.cg_frames.proofs.encoding.put_length.Goals as goal

pub returns : goal.returns
unfolding four_bytes
returns c =
    let xs : List ℕ = c.args.out.now.items in
    let n : length c.as_slice.result.now - 4 ≡ length xs - 4 = omega (arith, ap (λ (ys : List ℕ). length ys) c.as_slice.ensures.value) in
    let is : c.to_be_bytes-bytes.result ≡ four_bytes (length xs - 4) = c.to_be_bytes-bytes.ensures ∙ ap four_bytes n in
    ap (λ (bs : List ℕ). set (set (set (set xs 0 (get_or bs 0 0)) 1 (get_or bs 1 0)) 2 (get_or bs 2 0)) 3 (get_or bs 3 0)) is ∙ put_at_front (length xs - 4) xs c.requires.whole
