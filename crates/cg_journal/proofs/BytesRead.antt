-- A frame is bytes, so its hexadecimal digits are read as it.
use Rattle.std.proofs.Common.{◌≡◌, ℕ, ◌<◌, zero, suc, Bool, true, false, List, [], ◌∷◌, ◌++◌, length, Option, Some, None, inl, inr, refl, subst, arith, nat_lt}
use Rattle.std.specs.List.{flat_map, AllByRecursion}
use Rattle.std.specs.FinMap.{entries, entries_sorted}
use Rattle.std.specs.Str.{is_utf8}
use Rattle.std.proofs.lemmas.Bool.{and_parts, ltb-true}
use Rattle.std.proofs.lemmas.Str.{IsUtf8-from_is_utf8}
use lib.Utf8.{scalar, scalars, encode, encodes, scalar_cases}
use Rattle.hex.specs.Hex.{IsBytes}
use Rattle.cg_types.specs.Text.{plain, printable}
use Rattle.cg_types.proofs.RisingLemmas.{rise_sorted}
use Rattle.cg_entry.specs.Versioned.{Versioned}
use Rattle.cg_entry.specs.declared.digest.Digest.{Digest}
use Rattle.cg_messages.specs.declared.owner_delta.OwnerDelta.{OwnerDelta}
use Rattle.cg_messages.specs.declared.message.Message.{Message}
use Rattle.cg_messages.specs.declared.message.Message.TheVariants.{Syn, Ack, Ack2}
use Rattle.cg_entry.specs.Contents.{IsDigest}
use Rattle.cg_messages.specs.Contents.{IsRequest}
use Rattle.cg_messages.specs.Values.{RequestValue}
use Rattle.cg_frames.specs.declared.layout.Layout.{Layout}
use Rattle.cg_entry.specs.declared.spelled.TheConstants.{TOMBSTONE}
use Rattle.cg_entry.specs.Section.{two_bytes, four_bytes, text, value, state}
use Rattle.cg_frames.specs.Spelling.{endpoint, digest, request, delta, members, cluster, kind, body, inside, frame}
use Rattle.cg_frames.specs.Fits.{Fits}
use Rattle.cg_frames.proofs.FitsFields.{FitsValue, FitsState, FitsDelta, FitsFields}
use Rattle.cg_frames.proofs.FitsLemmas.{fields_of}
use Rattle.cg_entry.proofs.FewLemmas.{states_few}

-- each is the value of a byte
abbrev pub AreSmall : List ℕ → Type 0
AreSmall bytes = AllByRecursion (λ b. b < 256) bytes

pub bytes_of_small : (bytes : List ℕ) → AreSmall bytes → IsBytes bytes
bytes_of_small [] all i = omega arith
bytes_of_small (b ∷ bytes) all zero = all.0
bytes_of_small (b ∷ bytes) all (suc i) = bytes_of_small bytes all.1 i

both_small : (xs ys : List ℕ) → AreSmall xs → AreSmall ys → AreSmall (xs ++ ys)
both_small [] ys few more = more
both_small (x ∷ xs) ys few more = (few.0, both_small xs ys few.1 more)

each_small : {X : Type 0} (spell : X → List ℕ) (P : X → Type 0) → ((x : X) → P x → AreSmall (spell x)) → (xs : List X) → AllByRecursion P xs → AreSmall (flat_map spell xs)
each_small spell P small [] all = tt
each_small spell P small (x ∷ xs) all = both_small (spell x) (flat_map spell xs) (small x all.0) (each_small spell P small xs all.1)

-- ---- numbers

two_small : (n : ℕ) → AreSmall (two_bytes n)
unfolding two_bytes
two_small n = (omega arith, (omega arith, tt))

four_small : (n : ℕ) → AreSmall (four_bytes n)
unfolding four_bytes
four_small n = (omega arith, (omega arith, (omega arith, (omega arith, tt))))

-- ---- texts

char_small_by : (one two three : Bool) (c : ℕ) → nat_lt c 128 ≡ one → nat_lt c 2048 ≡ two → nat_lt c 65536 ≡ three → c < 1114112 → AreSmall (encode c)
unfolding encode
char_small_by true two three c a b d lt = let low : c < 128 = ltb-true c 128 a in rw a (omega arith, tt)
char_small_by false true three c a b d lt = let low : c < 2048 = ltb-true c 2048 b in rw (a, b) (omega arith, (omega arith, tt))
char_small_by false false true c a b d lt = let low : c < 65536 = ltb-true c 65536 d in rw (a, b, d) (omega arith, (omega arith, (omega arith, tt)))
char_small_by false false false c a b d lt = rw (a, b, d) (omega arith, (omega arith, (omega arith, (omega arith, tt))))

char_small : (c : ℕ) → scalar c ≡ true → AreSmall (encode c)
char_small c is =
    let lt : c < 1114112 = elim (scalar_cases c is) [ inl low ↦ omega (arith, low) | inr high ↦ high.1 ] in
    char_small_by (nat_lt c 128) (nat_lt c 2048) (nat_lt c 65536) c refl refl refl lt

chars_small : (cs : List ℕ) → scalars cs ≡ true → AreSmall (encodes cs)
chars_small [] h = tt
chars_small (c ∷ cs) h =
    let parts = and_parts (scalar c) (scalars cs) h in
    both_small (encode c) (encodes cs) (char_small c parts.0) (chars_small cs parts.1)

pub plain_small : (bytes : List ℕ) → plain bytes ≡ true → AreSmall bytes
plain_small bytes h =
    let utf8 = IsUtf8-from_is_utf8 bytes (and_parts (is_utf8 bytes) (printable bytes) h).0 in
    subst AreSmall utf8.1.1 (chars_small utf8.0 utf8.1.0)

text_small : (bytes : List ℕ) → plain bytes ≡ true → AreSmall (text bytes)
text_small bytes h = both_small (two_bytes (length bytes)) bytes (two_small (length bytes)) (plain_small bytes h)

-- ---- members

endpoint_small : (e : ℕ) → AreSmall (endpoint e)
endpoint_small e = both_small (four_bytes _) (two_bytes _) (four_small _) (two_small _)

digest_small : (d : Digest) → IsDigest d → AreSmall (digest d)
digest_small d is =
    both_small (endpoint d.endpoint ++ four_bytes d.generation) (four_bytes d.newest)
    (both_small (endpoint d.endpoint) (four_bytes d.generation) (endpoint_small d.endpoint) (four_small d.generation)) (four_small d.newest)

request_small : (r : RequestValue) → IsRequest r → AreSmall (request r)
request_small r is =
    both_small (endpoint r.endpoint ++ four_bytes r.generation) (four_bytes r.version)
    (both_small (endpoint r.endpoint) (four_bytes r.generation) (endpoint_small r.endpoint) (four_small r.generation)) (four_small r.version)

value_small : (layout : Layout) (o : Option (List ℕ)) → FitsValue layout o → AreSmall (value o)
value_small layout (Some t) fits = text_small t fits.0
value_small layout None fits = two_small TOMBSTONE

state_small : (layout : Layout) (above : ℕ) (s : ℕ × Versioned) → FitsState layout above s → AreSmall (state s)
state_small layout above s fits =
    (omega (arith, fits.key.1), both_small (four_bytes s.1.version) (value s.1.text) (four_small s.1.version) (value_small layout s.1.text fits.value))

delta_small : (layout : Layout) (d : OwnerDelta) → FitsDelta layout d → AreSmall (delta d)
delta_small layout d fits =
    let es = entries d.delta.states in
    let few = states_few (FitsState layout d.delta.above) (λ e is. is.key) es fits.states (rise_sorted es (entries_sorted d.delta.states)) in
    let states : AreSmall (flat_map state es) = each_small state (FitsState layout d.delta.above) (state_small layout d.delta.above) es fits.states in
    both_small (endpoint d.endpoint) _ (endpoint_small d.endpoint)
    (both_small (four_bytes d.delta.generation) _ (four_small d.delta.generation)
    (both_small (four_bytes d.delta.above) _ (four_small d.delta.above)
    (both_small (four_bytes d.delta.heartbeat) (length es ∷ flat_map state es) (four_small d.delta.heartbeat) (omega (arith, few), states))))

members_small : {X : Type 0} (spell : X → List ℕ) (P : X → Type 0) → ((x : X) → P x → AreSmall (spell x)) → (xs : List X) → AllByRecursion P xs → AreSmall (members spell xs)
members_small spell P small xs all =
    both_small (two_bytes (length xs)) (flat_map spell xs) (two_small (length xs)) (each_small spell P small xs all)

-- ---- messages

body_small : (layout : Layout) (m : Message) → FitsFields layout m → AreSmall (body m)
body_small layout (Syn m) fits =
    let name = m.cluster.name in
    let named : AreSmall name = plain_small name fits.name.is_plain in
    let last : AreSmall (m.cluster.partitioner ∷ []) = (omega (arith, fits.partitioner), tt) in
    both_small (cluster m.cluster) (members digest m.digests)
    (omega (arith, fits.name.fits), both_small name (m.cluster.partitioner ∷ []) named last)
    (members_small digest IsDigest digest_small m.digests fits.digests)
body_small layout (Ack m) fits =
    both_small (members request m.requests) (members delta m.deltas)
    (members_small request IsRequest request_small m.requests fits.requests)
    (members_small delta (FitsDelta layout) (delta_small layout) m.deltas fits.deltas)
body_small layout (Ack2 m) fits = members_small delta (FitsDelta layout) (delta_small layout) m.deltas fits.deltas

kind_small : (m : Message) → kind m < 256
kind_small (Syn m) = omega arith
kind_small (Ack m) = omega arith
kind_small (Ack2 m) = omega arith

-- the bytes of a frame in a layout whose number is that of a byte
pub frame_bytes : (layout : Layout) → layout.byte < 256 → (m : Message) → Fits layout m → IsBytes (frame layout m)
frame_bytes layout small m fits =
    let spelled = inside layout m in
    let all : AreSmall spelled = (small, (kind_small m, body_small layout m (fields_of layout m fits))) in
    bytes_of_small (frame layout m) (both_small (four_bytes (length spelled)) spelled (four_small (length spelled)) all)
