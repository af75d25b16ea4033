-- The random words with which rounds are drawn.
use Rattle.std.specs.Prelude.{ℕ, zero, suc, ◌≡◌, ◌*◌, List, [], ◌∷◌, ◌++◌}
use Rattle.rand_core.specs.Stream.{Stream, next_u64}

-- the next four words of a stream, and the rest of it
unfoldable pub four_of : Stream → List ℕ × Stream
four_of s =
    let a = next_u64 s in let b = next_u64 a.1 in let c = next_u64 b.1 in let d = next_u64 c.1 in
    (a.0 ∷ b.0 ∷ c.0 ∷ d.0 ∷ [], d.1)

-- the words of this number of ticks, one tick after the other
unfoldable pub words_of_ticks : ℕ → Stream → List ℕ
words_of_ticks zero s = []
words_of_ticks (suc ticks) s = (four_of s).0 ++ words_of_ticks ticks (four_of s).1

-- the first words of a stream
unfoldable pub first_words : ℕ → Stream → List ℕ
first_words zero s = []
first_words (suc n) s = (next_u64 s).0 ∷ first_words n (next_u64 s).1

-- the words of ticks are the first of the stream, four by four
abbrev pub WordsAreTheGenerators : Type 0
WordsAreTheGenerators = (ticks : ℕ) (s : Stream) → words_of_ticks ticks s ≡ first_words (ticks * 4) s
