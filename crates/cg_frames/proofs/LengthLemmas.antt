-- Lengths of spellings.
use Rattle.std.proofs.Common.{◌≡◌, ℕ, ◌+◌, ◌*◌, ◌<◌, ◌≤◌, List, [], ◌∷◌, ◌++◌, length, get_or, zero, suc, refl, sym, ap, ◌∙◌, take, drop, arith, length-append}
use Rattle.std.specs.FinMap.{entries}
use Rattle.std.proofs.lemmas.List.{take_all}
use Rattle.std.proofs.Math.ListN.{set}
use Rattle.cg_entry.specs.declared.state.State.{State}
use Rattle.cg_entry.specs.State.{pair, pairs}
use Rattle.std.specs.List.{flat_map}
use Rattle.std.proofs.lemmas.List.Concat.{flat_map-cons}
use Rattle.cg_entry.specs.declared.digest.Digest.{Digest}
use Rattle.cg_messages.specs.declared.owner_delta.OwnerDelta.{OwnerDelta}
use Rattle.cg_messages.specs.Values.{RequestValue}
use Rattle.cg_entry.specs.Section.{two_bytes, four_bytes, state}
use Rattle.cg_entry.proofs.SectionLemmas.{length-two_bytes, length-four_bytes}
use Rattle.cg_frames.specs.Spelling.{endpoint, digest, request, delta, members}

pub length-endpoint : (e : ℕ) → length (endpoint e) ≡ 6
unfolding two_bytes four_bytes
length-endpoint e = refl

pub length-digest : (d : Digest) → length (digest d) ≡ 14
unfolding two_bytes four_bytes
length-digest d = refl

pub length-digests : (ds : List Digest) → length (flat_map digest ds) ≡ 14 * length ds
length-digests [] = refl
length-digests (d ∷ ds) = rw (flat_map-cons digest d ds) (omega (arith, length-append (digest d) (flat_map digest ds), length-digest d, length-digests ds))

pub length-request : (r : RequestValue) → length (request r) ≡ 14
unfolding two_bytes four_bytes
length-request r = refl

pub length-requests : (rs : List RequestValue) → length (flat_map request rs) ≡ 14 * length rs
length-requests [] = refl
length-requests (r ∷ rs) = rw (flat_map-cons request r rs) (omega (arith, length-append (request r) (flat_map request rs), length-request r, length-requests rs))

pub length-delta : (d : OwnerDelta) → length (delta d) ≡ 19 + length (flat_map state (entries d.delta.states))
length-delta d =
    let es = entries d.delta.states in
    let counted : List ℕ = length es ∷ flat_map state es in
    let from_heartbeat = four_bytes d.delta.heartbeat ++ counted in
    let from_above = four_bytes d.delta.above ++ from_heartbeat in
    let from_generation = four_bytes d.delta.generation ++ from_above in
    omega (
      arith,
      length-append (endpoint d.endpoint) from_generation,
      length-append (four_bytes d.delta.generation) from_above,
      length-append (four_bytes d.delta.above) from_heartbeat,
      length-append (four_bytes d.delta.heartbeat) counted,
      length-endpoint d.endpoint,
      length-four_bytes d.delta.generation,
      length-four_bytes d.delta.above,
      length-four_bytes d.delta.heartbeat,
    )

-- ---- counted members

pub length-members : {X : Type 0} (spell : X → List ℕ) (xs : List X) → length (members spell xs) ≡ 2 + length (flat_map spell xs)
length-members spell xs = omega (arith, length-append (two_bytes (length xs)) (flat_map spell xs), length-two_bytes (length xs))

-- The spelling up to a member, and that member, is no longer than the spelling of all.
pub part_shorter : {X : Type 0} (spell : X → List ℕ) (xs : List X) (i : ℕ) (x : X) → i < length xs → x ≡ get_or xs i x
    → length (flat_map spell (take i xs)) + length (spell x) ≤ length (flat_map spell xs)
part_shorter spell [] i x lt at = absurd (omega arith)
part_shorter spell (y ∷ ys) zero x lt at =
    rw (flat_map-cons spell y ys) (omega (arith, length-append (spell y) (flat_map spell ys), ap (λ z. length (spell z)) at))
part_shorter spell (y ∷ ys) (suc i) x lt at =
    rw (flat_map-cons spell y ys, flat_map-cons spell y (take i ys))
    (omega (arith, length-append (spell y) (flat_map spell ys), length-append (spell y) (flat_map spell (take i ys)), part_shorter spell ys i x (omega arith) at))

-- ---- states

pub spelled_pairs : (ss : List State) → flat_map (λ (s : State). state (pair s)) ss ≡ flat_map state (pairs ss)
spelled_pairs [] = refl
spelled_pairs (s ∷ ss) = flat_map-cons (λ (t : State). state (pair t)) s ss ∙ ap (λ (ys : List ℕ). state (pair s) ++ ys) (spelled_pairs ss) ∙ sym (flat_map-cons state (pair s) (pairs ss))

pub all_spelled : (i : ℕ) (ss : List State) → length ss ≤ i → flat_map (λ (s : State). state (pair s)) (take i ss) ≡ flat_map state (pairs ss)
all_spelled i ss le = ap (flat_map (λ (s : State). state (pair s))) (take_all i ss le) ∙ spelled_pairs ss

-- ---- a length in the place of the first four bytes

pub put_at_front : (n : ℕ) (xs : List ℕ) → 4 ≤ length xs
    → set (set (set (set xs 0 (get_or (four_bytes n) 0 0)) 1 (get_or (four_bytes n) 1 0)) 2 (get_or (four_bytes n) 2 0)) 3 (get_or (four_bytes n) 3 0) ≡ four_bytes n ++ drop 4 xs
unfolding four_bytes
put_at_front n [] le = absurd (omega arith)
put_at_front n (a ∷ []) le = absurd (omega arith)
put_at_front n (a ∷ b ∷ []) le = absurd (omega arith)
put_at_front n (a ∷ b ∷ c ∷ []) le = absurd (omega arith)
put_at_front n (a ∷ b ∷ c ∷ d ∷ xs) le = refl
