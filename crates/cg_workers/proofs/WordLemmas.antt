-- The words of ticks are those of the stream.
use Rattle.std.proofs.Common.{◌≡◌, ℕ, zero, suc, ◌*◌, ◌∷◌, refl, sym, ap, ◌∙◌, arith}
use Rattle.rand_core.specs.Stream.{Stream, next_u64}
use Rattle.cg_workers.specs.Words.{four_of, words_of_ticks, first_words}

four_more : (ticks : ℕ) → suc ticks * 4 ≡ suc (suc (suc (suc (ticks * 4))))
four_more ticks = omega arith

pub ticks_draw_first : (ticks : ℕ) (s : Stream) → words_of_ticks ticks s ≡ first_words (ticks * 4) s
unfolding words_of_ticks first_words four_of
ticks_draw_first zero s = refl
ticks_draw_first (suc ticks) s =
    let fourth = next_u64 (next_u64 (next_u64 s).1).1 in
    ap (λ ws. (next_u64 s).0 ∷ (next_u64 (next_u64 s).1).0 ∷ fourth.0 ∷ (next_u64 fourth.1).0 ∷ ws) (ticks_draw_first ticks (next_u64 fourth.1).1)
    ∙ ap (λ n. first_words n s) (sym (four_more ticks))
