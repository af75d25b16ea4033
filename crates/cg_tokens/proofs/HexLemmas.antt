-- Hexadecimal digits, as the formatter writes them in two halves.
use Rattle.std.proofs.Common.{◌≡◌, ℕ, zero, suc, ◌+◌, ◌-◌, ◌*◌, ◌/◌, ◌%◌, ◌^◌, ◌<◌, ◌≤◌, Bool, true, false, cond, ◌==◌, List, [], ◌∷◌, ◌++◌, length, replicate, refl, sym, ap, ◌∙◌, arith, append_assoc, eqb-true, eq-eqb, mul_assoc}
use Rattle.std.proofs.Math.Nat.{pow-suc}
use Rattle.std.proofs.lemmas.List.{append-nil}
use Rattle.std.specs.Char.{digit_char}
use Rattle.std.specs.Fmt.{digits, digits_onto, padded_integral, format_spec, char_count}
use Rattle.cg_tokens.specs.Tokens.{hexadecimal, token_text}

replicate-push : (k x : ℕ) → replicate k x ++ x ∷ [] ≡ replicate (suc k) x
replicate-push zero x = refl
replicate-push (suc k) x = ap (λ (xs : List ℕ). x ∷ xs) (replicate-push k x)

hexadecimal-zero : (k : ℕ) → hexadecimal k 0 ≡ replicate k 48
unfolding hexadecimal
hexadecimal-zero zero = refl
hexadecimal-zero (suc k) = ap (λ (xs : List ℕ). xs ++ 48 ∷ []) (hexadecimal-zero k) ∙ replicate-push k 48

-- a number with one more digit is one more digit of a longer text
abbrev pushed : List ℕ → ℕ → List ℕ
pushed text n = text ++ digit_char (n % 16) ∷ []

-- the digits of a number that is put together are those of its parts
hexadecimal-joined : (n k m high low : ℕ) → n ≡ k + m → low < 16 ^ m → hexadecimal n (high * 16 ^ m + low) ≡ hexadecimal k high ++ hexadecimal m low
unfolding hexadecimal
hexadecimal-joined n k zero high low e lt =
    let none : low ≡ 0 = omega arith in
    let same : n ≡ k = omega arith in
    let whole : high * 16 ^ 0 + low ≡ high = omega arith in
    rw (whole, same) (sym (append-nil (hexadecimal k high)))
hexadecimal-joined zero k (suc m) high low e lt = absurd (omega arith)
hexadecimal-joined (suc n) k (suc m) high low e lt =
    let power = pow-suc 16 m in
    let sixteens : high * (16 ^ m * 16) ≡ high * 16 ^ m * 16 = sym (mul_assoc high (16 ^ m) 16) in
    let rest : (high * 16 ^ suc m + low) / 16 ≡ high * 16 ^ m + low / 16 = rw (power, sixteens) (omega arith) in
    let last : (high * 16 ^ suc m + low) % 16 ≡ low % 16 = rw (power, sixteens) (omega arith) in
    let less : low / 16 < 16 ^ m = omega (arith, power) in
    rw (rest, last) (ap (λ (text : List ℕ). pushed text low) (hexadecimal-joined n k m high (low / 16) (omega arith) less) ∙ append_assoc (hexadecimal k high) (hexadecimal m (low / 16)) (digit_char (low % 16) ∷ []))

abbrev onto : ℕ → ℕ → List ℕ → List ℕ
onto i n acc = digits_onto i 16 false n acc

-- the digits, with zeros before them up to a width
abbrev filled : ℕ → List ℕ → List ℕ
filled width ds = replicate (width - length ds) 48 ++ ds

-- the last digit, before what follows
abbrev last_onto : ℕ → List ℕ → List ℕ
last_onto n acc = digit_char (n % 16) ∷ acc

one_digit : (k n : ℕ) (acc : List ℕ) → n / 16 ≡ 0 → hexadecimal (suc k) n ++ acc ≡ filled (suc k + length acc) (last_onto n acc)
unfolding hexadecimal
one_digit k n acc none =
    let missing : suc k + length acc - length (last_onto n acc) ≡ k = omega arith in
    rw (none, missing) (append_assoc (hexadecimal k 0) (digit_char (n % 16) ∷ []) acc ∙ ap (λ (zs : List ℕ). zs ++ last_onto n acc) (hexadecimal-zero k))

more_digits : (k n : ℕ) (acc ds : List ℕ) → hexadecimal k (n / 16) ++ last_onto n acc ≡ filled (k + length (last_onto n acc)) ds → hexadecimal (suc k) n ++ acc ≡ filled (suc k + length acc) ds
unfolding hexadecimal
more_digits k n acc ds e =
    append_assoc (hexadecimal k (n / 16)) (digit_char (n % 16) ∷ []) acc ∙ e ∙ ap (λ (width : ℕ). filled width ds) (omega arith)

padded_step : (b : Bool) (k n : ℕ) (acc ds : List ℕ) → (n / 16 == 0) ≡ b → hexadecimal k (n / 16) ++ last_onto n acc ≡ filled (k + length (last_onto n acc)) ds
    → hexadecimal (suc k) n ++ acc ≡ filled (suc k + length acc) (cond b (last_onto n acc) ds)
padded_step true k n acc ds e h = one_digit k n acc (eqb-true (n / 16) 0 e)
padded_step false k n acc ds e h = more_digits k n acc ds h

-- the digits with no zeros before them, after as many zeros as are missing
padded_onto : (k n i : ℕ) (acc : List ℕ) → n < 16 ^ suc k → k ≤ i → hexadecimal (suc k) n ++ acc ≡ filled (suc k + length acc) (onto (suc i) n acc)
padded_onto zero n i acc lt le =
    let none : n / 16 ≡ 0 = omega arith in
    rw (eq-eqb (n / 16) 0 none) (one_digit 0 n acc none)
padded_onto (suc k) n zero acc lt le = absurd (omega arith)
padded_onto (suc k) n (suc i) acc lt le =
    let power = pow-suc 16 (suc k) in
    let less : n / 16 < 16 ^ suc k = omega (arith, power) in
    padded_step (n / 16 == 0) (suc k) n acc (onto (suc i) (n / 16) (last_onto n acc)) refl (padded_onto k (n / 16) i (last_onto n acc) less (omega arith))

-- the text that `{:016x}` writes of digits
abbrev pub half_text : List ℕ → List ℕ
half_text ds = padded_integral (format_spec 32 0 4 16 (2 ^ 64 - 1)) false [] ds

half_text-filled : (ds : List ℕ) → half_text ds ≡ filled 16 ds
unfolding padded_integral char_count
half_text-filled ds =
    let missing : 16 - length ds - 0 - 0 ≡ 16 - length ds = omega arith in
    rw (missing, append-nil ds) refl

digits-onto : (n : ℕ) → onto 64 n [] ≡ digits 16 false n
unfolding digits
digits-onto n = refl

half_text-hexadecimal : (n : ℕ) → n < 2 ^ 64 → half_text (digits 16 false n) ≡ hexadecimal 16 n
half_text-hexadecimal n lt =
    half_text-filled (digits 16 false n) ∙ ap (filled 16) (sym (digits-onto n)) ∙ sym (padded_onto 15 n 63 [] (omega arith) (omega arith)) ∙ append-nil (hexadecimal 16 n)

-- the text of a token is that of its two halves
pub token_text-halves : (t : ℕ) → t < 2 ^ 128 → half_text (digits 16 false (t / 2 ^ 64)) ++ half_text (digits 16 false (t % 2 ^ 64)) ≡ token_text t
token_text-halves t lt =
    let whole : t / 2 ^ 64 * 16 ^ 16 + t % 2 ^ 64 ≡ t = omega arith in
    rw (half_text-hexadecimal (t / 2 ^ 64) (omega arith), half_text-hexadecimal (t % 2 ^ 64) (omega arith)) (sym (hexadecimal-joined 32 16 16 (t / 2 ^ 64) (t % 2 ^ 64) refl (omega arith)) ∙ ap token_text whole)
