-- Values that are spelled so are read, whatever follows.
use Rattle.std.proofs.Common.{◌≡◌, ℕ, suc, ◌^◌, ◌<◌, ◌≤◌, true, false, cond, List, [], ◌∷◌, ◌++◌, length, map, take, drop, Option, Some, None, Ok, Err, refl, ap, ◌∙◌, append_assoc, arith, length-append}
use Rattle.std.specs.Prelude.{nat_lt, ◌==◌, ◌||◌}
use Rattle.std.specs.Int.{w8, w16, w32, from_be_bytes, to_be_bytes}
use Rattle.std.specs.List.{flat_map, AllByRecursion}
use Rattle.std.proofs.lemmas.Bool.{le-ltb, lt-ltb, ne_eqb}
use Rattle.std.proofs.lemmas.List.{take_at, drop_at}
use Rattle.std.proofs.lemmas.List.Concat.{flat_map-cons}
use Rattle.std.proofs.lemmas.Nat.{from_be_bytes-to_be_bytes_2, from_be_bytes-to_be_bytes_4}
use Rattle.cg_types.specs.declared.fault.Cause.{Cause}
use Rattle.cg_types.specs.declared.fault.Cause.TheVariants as causes
use Rattle.cg_types.specs.declared.limits.TheConstants.{NUMBER_LIMIT, NAME_LIMIT}
use Rattle.cg_types.specs.Text.{IsClusterName}
use Rattle.cg_messages.specs.declared.message.Message.TheVariants.{Syn}
use Rattle.cg_messages.specs.Values.{SynValue}
use Rattle.cg_frames.specs.declared.layout.Layout.{Layout}
use Rattle.cg_types.specs.Numbers.{IsEndpoint, address_of, port_of, endpoint_of}
use Rattle.cg_types.specs.Rising.{is_past, rise_past}
use Rattle.cg_types.proofs.RisingLemmas.{first_of, second_of}
use Rattle.cg_entry.specs.declared.digest.Digest.{Digest}
use Rattle.cg_types.specs.ResultSteps.{◌>>=◌}
use Rattle.cg_frames.specs.Fields.{Field, bytes_at, number_at, endpoint_from, endpoint_at, ranged_at, count_at, plain_at, name_at}
use Rattle.cg_frames.specs.Lists.{digest_at, rising_at}
use Rattle.cg_frames.specs.Reading.{syn_at}
use Rattle.cg_entry.specs.Contents.{IsDigest}
use Rattle.cg_frames.proofs.FitsFields.{FitsSyn}
use Rattle.cg_frames.proofs.ReadIsSpelledParts.{syn_made, after_count, after_partitioner, after_name}
use Rattle.cg_entry.specs.Section.{two_bytes, four_bytes}
use Rattle.cg_frames.specs.Spelling.{endpoint, digest, members, body}

pub bytes_again : (n : ℕ) (front rest : List ℕ) → length front ≡ n → bytes_at n (front ++ rest) ≡ Ok (front, rest)
bytes_again n front rest len =
    let enough : nat_lt (length (front ++ rest)) n ≡ false = le-ltb (length (front ++ rest)) n (omega (arith, length-append front rest)) in
    rw (enough, take_at front rest n len, drop_at front rest n len) refl

pub four_again : (n : ℕ) (rest : List ℕ) → n < 2 ^ 32 → number_at w32 (four_bytes n ++ rest) ≡ Ok (n, rest)
unfolding four_bytes
four_again n rest lt = ap (λ (r : Field (List ℕ)). r >>= λ front. Ok (from_be_bytes w32 front.0, front.1)) (bytes_again 4 (to_be_bytes w32 n) rest refl) ∙ ap (λ m. Ok (m, rest)) (from_be_bytes-to_be_bytes_4 n lt)

pub byte_again : (b : ℕ) (rest : List ℕ) → number_at w8 (b ∷ rest) ≡ Ok (b, rest)
byte_again b rest =
    let one : from_be_bytes w8 (b ∷ []) ≡ b = omega arith in
    ap (λ (r : Field (List ℕ)). r >>= λ front. Ok (from_be_bytes w8 front.0, front.1)) (bytes_again 1 (b ∷ []) rest refl) ∙ ap (λ n. Ok (n, rest)) one

pub two_again : (n : ℕ) (rest : List ℕ) → n < 2 ^ 16 → number_at w16 (two_bytes n ++ rest) ≡ Ok (n, rest)
unfolding two_bytes
two_again n rest lt = ap (λ (r : Field (List ℕ)). r >>= λ front. Ok (from_be_bytes w16 front.0, front.1)) (bytes_again 2 (to_be_bytes w16 n) rest refl) ∙ ap (λ m. Ok (m, rest)) (from_be_bytes-to_be_bytes_2 n lt)

pub ranged_again : (cause : Cause) (n : ℕ) (rest : List ℕ) → 0 < n → n < NUMBER_LIMIT → ranged_at cause 1 (four_bytes n ++ rest) ≡ Ok (n, rest)
ranged_again cause n rest some lt =
    let low : nat_lt n 1 ≡ false = le-ltb n 1 (omega arith) in
    let high : nat_lt n NUMBER_LIMIT ≡ true = lt-ltb n NUMBER_LIMIT lt in
    rw (four_again n rest (omega arith), low, high) refl

pub endpoint_again : (last : Option ℕ) (e : ℕ) (rest : List ℕ) → IsEndpoint e → is_past last e ≡ true → endpoint_at last (endpoint e ++ rest) ≡ Ok (e, rest)
unfolding two_bytes four_bytes
endpoint_again last e rest valid past =
    let bytes = endpoint e ++ rest in
    let front = bytes_again 6 (endpoint e) rest refl in
    let a = from_be_bytes-to_be_bytes_4 (address_of e) (omega (arith, valid.0)) in
    let p = from_be_bytes-to_be_bytes_2 (port_of e) (omega arith) in
    let some : (port_of e == 0) ≡ false = ne_eqb (port_of e) 0 (omega (arith, valid.1)) in
    let whole : endpoint_of (address_of e) (port_of e) ≡ e = omega arith in
    ap (λ (r : Field (List ℕ)). r >>= λ front. endpoint_from last bytes (from_be_bytes w32 (take 4 front.0)) (from_be_bytes w16 (drop 4 front.0)) front.1) front
    ∙ ap (λ m. endpoint_from last bytes m (from_be_bytes w16 (to_be_bytes w16 (port_of e))) rest) a
    ∙ ap (λ m. endpoint_from last bytes (address_of e) m rest) p
    ∙ rw (some, whole, past) refl

pub digest_again : (last : Option ℕ) (d : Digest) (rest : List ℕ) → IsDigest d → is_past last d.endpoint ≡ true → digest_at last (digest d ++ rest) ≡ Ok (d, rest)
unfolding digest_at
digest_again last d rest fits past =
    let regrouped : digest d ++ rest ≡ endpoint d.endpoint ++ (four_bytes d.generation ++ (four_bytes d.newest ++ rest)) = simp append_assoc in
    ap (digest_at last) regrouped
    ∙ rw (endpoint_again last d.endpoint (four_bytes d.generation ++ (four_bytes d.newest ++ rest)) fits.endpoint past, ranged_again _ d.generation (four_bytes d.newest ++ rest) fits.generation.0 fits.generation.1, ranged_again _ d.newest rest fits.newest.0 fits.newest.1) refl

-- a list of members, if each member that fits is read again
pub rising_again : {X : Type 0} (key : X → ℕ) (spell : X → List ℕ) (one : Option ℕ → List ℕ → Field X) (Fits : X → Type 0)
    → ((last : Option ℕ) (x : X) (rest : List ℕ) → Fits x → is_past last (key x) ≡ true → one last (spell x ++ rest) ≡ Ok (x, rest))
    → (last : Option ℕ) (xs : List X) (rest : List ℕ) → AllByRecursion Fits xs → rise_past last (map key xs) ≡ true → rising_at key one (length xs) last (flat_map spell xs ++ rest) ≡ Ok (xs, rest)
unfolding rising_at
rising_again key spell one Fits again last [] rest fits rise = refl
rising_again key spell one Fits again last (x ∷ xs) rest fits rise =
    let here = first_of (is_past last (key x)) (rise_past (Some (key x)) (map key xs)) rise in
    let later = second_of (is_past last (key x)) (rise_past (Some (key x)) (map key xs)) rise in
    let regrouped : flat_map spell (x ∷ xs) ++ rest ≡ spell x ++ (flat_map spell xs ++ rest) = ap (λ (ys : List ℕ). ys ++ rest) (flat_map-cons spell x xs) ∙ append_assoc (spell x) (flat_map spell xs) rest in
    ap (rising_at key one (suc (length xs)) last) regrouped
    ∙ rw (again last x (flat_map spell xs ++ rest) fits.0 here, rising_again key spell one Fits again (Some (key x)) xs rest fits.1 later) refl

-- ---- lists with their count

count_again : (layout : Layout) (n : ℕ) (rest : List ℕ) → n ≤ layout.members → layout.members < 2 ^ 16 → count_at layout (two_bytes n ++ rest) ≡ Ok (n, rest)
count_again layout n rest le wide =
    let low : nat_lt layout.members n ≡ false = le-ltb layout.members n le in
    ap (λ (r : Field ℕ). r >>= λ count. cond (nat_lt layout.members count.0) (Err (record { cause = causes.Count; left = length (two_bytes n ++ rest) })) (Ok count)) (two_again n rest (omega arith)) ∙ rw low refl

pub counted_again : {X : Type 0} (key : X → ℕ) (spell : X → List ℕ) (one : Option ℕ → List ℕ → Field X) (Fits : X → Type 0)
    → ((last : Option ℕ) (x : X) (rest : List ℕ) → Fits x → is_past last (key x) ≡ true → one last (spell x ++ rest) ≡ Ok (x, rest))
    → (layout : Layout) (xs : List X) (rest : List ℕ) → layout.members < 2 ^ 16 → length xs ≤ layout.members → AllByRecursion Fits xs → rise_past None (map key xs) ≡ true
    → (count_at layout (members spell xs ++ rest) >>= λ count. rising_at key one count.0 None count.1) ≡ Ok (xs, rest)
counted_again {X = X} key spell one Fits again layout xs rest wide few fits rise =
    let regrouped : members spell xs ++ rest ≡ two_bytes (length xs) ++ (flat_map spell xs ++ rest) = append_assoc (two_bytes (length xs)) (flat_map spell xs) rest in
    ap (λ (bytes : List ℕ). count_at layout bytes >>= λ count. rising_at key one count.0 None count.1) regrouped
    ∙ ap (λ (r : Field ℕ). r >>= λ count. rising_at key one count.0 None count.1) (count_again layout (length xs) (flat_map spell xs ++ rest) few wide)
    ∙ rising_again key spell one Fits again None xs rest fits rise

pub length_keys : {X : Type 0} (key : X → ℕ) (xs : List X) → length (map key xs) ≡ length xs
length_keys key [] = refl
length_keys key (x ∷ xs) = ap (λ (n : ℕ). suc n) (length_keys key xs)

-- ---- a SYN

name_again : (name rest : List ℕ) → IsClusterName name → name_at (length name ∷ (name ++ rest)) ≡ Ok (name, rest)
unfolding name_at
name_again name rest is =
    let some : (length name == 0) ≡ false = ne_eqb (length name) 0 (omega (arith, is.some)) in
    let high : nat_lt NAME_LIMIT (length name) ≡ false = le-ltb NAME_LIMIT (length name) is.fits in
    let read : plain_at (length name) causes.Name (name ++ rest) ≡ Ok (name, rest) = rw (bytes_again (length name) name rest refl, is.is_plain) refl in
    ap (λ (r : Field ℕ). r >>= λ len. cond (len.0 == 0 || nat_lt NAME_LIMIT len.0) (Err (record { cause = causes.Name; left = length (length name ∷ (name ++ rest)) })) (plain_at len.0 causes.Name len.1)) (byte_again (length name) (name ++ rest))
    ∙ rw (some, high) read

pub syn_again : (layout : Layout) (m : SynValue) (rest : List ℕ) → layout.members < 2 ^ 16 → FitsSyn layout m → syn_at layout (body (Syn m) ++ rest) ≡ Ok (m, rest)
unfolding syn_at
syn_again layout m rest wide fits =
    let name = m.cluster.name in
    let partitioner = m.cluster.partitioner in
    let spelled = flat_map digest m.digests in
    let listed = members digest m.digests ++ rest in
    let few : length m.digests ≤ layout.members = omega (arith, fits.listed.few, length_keys (λ (d : Digest). d.endpoint) m.digests) in
    let regrouped : body (Syn m) ++ rest ≡ length name ∷ (name ++ (partitioner ∷ listed)) =
    ap (λ (ys : List ℕ). length name ∷ ys) (append_assoc (name ++ (partitioner ∷ [])) (members digest m.digests) rest ∙ append_assoc name (partitioner ∷ []) listed) in
    ap (syn_at layout) regrouped
    ∙ ap (λ (r : Field (List ℕ)). r >>= after_name layout) (name_again name (partitioner ∷ listed) fits.name)
    ∙ ap (λ (r : Field ℕ). r >>= after_partitioner layout name) (byte_again partitioner listed)
    ∙ ap (λ (bytes : List ℕ). count_at layout bytes >>= after_count name partitioner) (append_assoc (two_bytes (length m.digests)) spelled rest)
    ∙ ap (λ (r : Field ℕ). r >>= after_count name partitioner) (count_again layout (length m.digests) (spelled ++ rest) few wide)
    ∙ ap (λ (r : Field (List Digest)). r >>= syn_made name partitioner) (rising_again (λ (d : Digest). d.endpoint) digest digest_at IsDigest digest_again None m.digests rest fits.digests fits.listed.rise)
