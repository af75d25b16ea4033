-- Numbers, and bytes between them, are UTF-8.
use Rattle.std.proofs.Common.{ℕ, ◌<◌, suc, zero, List, [], ◌∷◌, ◌++◌, decimal, arith}
use Rattle.std.specs.Prelude.{IsUtf8, IsAscii}
use Rattle.std.proofs.lemmas.Fmt.{IsAscii-decimal}
use Rattle.std.proofs.lemmas.Str.{IsAscii-append, IsUtf8-from_ascii}

none_ascii : IsAscii []
none_ascii i = omega arith

ending_ascii : (c : ℕ) (rest : List ℕ) → c < 128 → IsAscii rest → IsAscii (c ∷ rest)
ending_ascii c rest lt h zero = lt
ending_ascii c rest lt h (suc i) = h i

part_ascii : (n c : ℕ) (rest : List ℕ) → n < 4294967296 → c < 128 → IsAscii rest → IsAscii (decimal n ++ (c ∷ rest))
part_ascii n c rest small lt h = IsAscii-append (decimal n) (c ∷ rest) (IsAscii-decimal n (omega arith)) (ending_ascii c rest lt h)

pub numbers-utf8 : (m n : ℕ) → m < 4294967296 → n < 4294967296 → IsUtf8 (decimal m ++ (32 ∷ (decimal n ++ (10 ∷ []))))
numbers-utf8 m n h k =
    IsUtf8-from_ascii (decimal m ++ (32 ∷ (decimal n ++ (10 ∷ []))))
    (part_ascii m 32 (decimal n ++ (10 ∷ [])) h (omega arith) (part_ascii n 10 [] k (omega arith) none_ascii))
