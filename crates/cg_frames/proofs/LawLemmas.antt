-- Laws of whole messages: one that is spelled so is read, is short, and has no other message's spelling.
use Rattle.std.proofs.Common.{◌≡◌, ℕ, ◌+◌, ◌*◌, ◌^◌, ◌<◌, ◌≤◌, Bool, true, cond, List, [], ◌∷◌, ◌++◌, length, take, drop, Option, Some, None, Result, Ok, Err, refl, sym, ap, subst, ◌∙◌, append_assoc, arith, length-append}
use Rattle.std.specs.Prelude.{◌==◌, max}
use Rattle.std.proofs.Math.Nat.{le_trans}
use Rattle.std.specs.Int.{w32, from_be_bytes, to_be_bytes}
use Rattle.std.specs.List.{flat_map, AllByRecursion}
use Rattle.std.specs.FinMap.{entries, entries_sorted}
use Rattle.std.proofs.lemmas.Bool.{eq-eqb}
use Rattle.std.proofs.lemmas.List.{take_at, drop_at, append-nil}
use Rattle.std.proofs.lemmas.List.Concat.{flat_map-cons}
use Rattle.std.proofs.lemmas.Nat.{from_be_bytes-to_be_bytes_4, mul-le}
use Rattle.cg_types.specs.declared.limits.TheConstants.{STATE_LIMIT}
use Rattle.cg_types.specs.declared.fault.Cause.TheVariants as causes
use Rattle.cg_types.specs.Answer.{Answers}
use Rattle.cg_types.specs.declared.fault.Fault.{Fault}
use Rattle.cg_types.proofs.RisingLemmas.{rise_sorted}
use Rattle.cg_entry.specs.Versioned.{Versioned}
use Rattle.cg_entry.specs.declared.digest.Digest.{Digest}
use Rattle.cg_messages.specs.declared.owner_delta.OwnerDelta.{OwnerDelta}
use Rattle.cg_messages.specs.declared.message.Message.{Message}
use Rattle.cg_messages.specs.declared.message.Message.TheVariants.{Syn, Ack, Ack2}
use Rattle.cg_messages.specs.declared.kind.Kind.{Kind}
use Rattle.cg_messages.specs.Kind.{kind_of}
use Rattle.cg_messages.specs.Members.{endpoints_of_requests, endpoints_of_deltas}
use Rattle.cg_messages.specs.Values.{RequestValue, SynValue}
use Rattle.cg_frames.specs.declared.layout.Layout.{Layout}
use Rattle.cg_frames.specs.declared.layout.TheConstants.{LAYOUT_1, LAYOUT_2, LAYOUT_3, LAYOUTS}
use Rattle.cg_entry.specs.declared.spelled.TheConstants.{TOMBSTONE}
use Rattle.cg_frames.specs.declared.misread.Misread.{Misread}
use Rattle.cg_types.specs.ResultSteps.{◌>>=◌}
use Rattle.cg_frames.specs.Fields.{Field}
use Rattle.cg_frames.specs.Reading.{whole_field, as_message, layout_at, kind_from, kind_at, of_kind, syn_at, inside_at, frame_at, ack_at, ack2_at}
use Rattle.cg_entry.specs.Section.{two_bytes, four_bytes, state}
use Rattle.cg_frames.specs.Spelling.{digest, request, delta, members, cluster, kind, body, message, inside, frame}
use Rattle.cg_frames.specs.Fits.{Fits}
use Rattle.cg_frames.proofs.FitsFields.{FitsValue, FitsState, FitsDelta, FitsMembers, FitsSyn, FitsFields}
use Rattle.cg_frames.proofs.FitsLemmas.{fields_of}
use Rattle.cg_frames.specs.Lengths.{state_most, delta_most, deltas_most, digests_most, syn_most, ack_most, greatest_length}
use Rattle.cg_frames.specs.Layouts.{IsLayout}
use Rattle.cg_frames.specs.Choosing.{layout_with_byte, frame_among, IsOneOf, AreLayouts, AreRead}
use Rattle.cg_frames.specs.Laws.{GivesEachSpelled, NoSpellingBeginsAnother, EachIsShort}
use Rattle.cg_frames.proofs.ChoosingLemmas.{named_all, due_of_frame}
use Rattle.cg_frames.proofs.SpelledIsReadLemmas.{byte_again, length_keys, syn_again}
use Rattle.cg_entry.specs.Entry.{text_size}
use Rattle.cg_entry.proofs.FewLemmas.{states_few}
use Rattle.cg_frames.proofs.SpelledIsReadLists.{ack_again, ack2_again}
use Rattle.cg_entry.proofs.SectionLemmas.{length-two_bytes, length-four_bytes, length-state}
use Rattle.cg_frames.proofs.LengthLemmas.{length-delta, length-digests, length-requests}
use Rattle.cg_frames.proofs.FrameLemmas.{frame_again}
use Rattle.cg_frames.proofs.ReadIsSpelledParts.{ok_is}

-- ---- lengths

value_size : (layout : Layout) (o : Option (List ℕ)) → FitsValue layout o → text_size o ≤ layout.text
value_size layout None fits = omega arith
value_size layout (Some t) fits = fits.1

state_short : (layout : Layout) (above : ℕ) (s : ℕ × Versioned) → FitsState layout above s → length (state s) ≤ state_most layout
state_short layout above s fits = omega (arith, length-state s, value_size layout s.1.text fits.value)

-- members of which each is short
each_short : {X : Type 0} (spell : X → List ℕ) (Fits : X → Type 0) (most : ℕ) → ((x : X) → Fits x → length (spell x) ≤ most) → (xs : List X) → AllByRecursion Fits xs → length (flat_map spell xs) ≤ length xs * most
each_short spell Fits most short [] all = omega arith
each_short spell Fits most short (x ∷ xs) all =
    rw (flat_map-cons spell x xs) (omega (arith, length-append (spell x) (flat_map spell xs), short x all.0, each_short spell Fits most short xs all.1))

-- few members of which each is short
pub short_members : {X : Type 0} (spell : X → List ℕ) (Fits : X → Type 0) (most : ℕ) → ((x : X) → Fits x → length (spell x) ≤ most) → (count : ℕ) (xs : List X) → AllByRecursion Fits xs → length xs ≤ count → length (flat_map spell xs) ≤ count * most
short_members spell Fits most short count xs all few = le_trans (each_short spell Fits most short xs all) (mul-le (length xs) most count most few (omega arith))

delta_short : (layout : Layout) (d : OwnerDelta) → FitsDelta layout d → length (delta d) ≤ delta_most layout
delta_short layout d fits =
    let es = entries d.delta.states in
    let few = states_few (FitsState layout d.delta.above) (λ e is. is.key) es fits.states (rise_sorted es (entries_sorted d.delta.states)) in
    let states = short_members state (FitsState layout d.delta.above) (state_most layout) (state_short layout d.delta.above) STATE_LIMIT es fits.states few in
    omega (arith, states, length-delta d)

-- sums of lengths, of which one may be a product
counted_short : (n most whole : ℕ) → n ≤ most → whole ≡ 2 + n → whole ≤ 2 + most
counted_short n most whole le is = omega arith

both_short : (a b whole most_a most_b : ℕ) → whole ≡ a + b → a ≤ most_a → b ≤ most_b → whole ≤ most_a + most_b
both_short a b whole most_a most_b is le few = omega arith

behind_short : (n before most : ℕ) → n ≤ most → n ≤ before + most
behind_short n before most le = omega arith

longer : (n syn ack whole : ℕ) → whole ≡ 2 + n → n ≤ ack → whole ≤ 2 + max syn ack
longer n syn ack whole is le = omega arith

deltas_short : (layout : Layout) (ds : List OwnerDelta) → FitsMembers layout (endpoints_of_deltas ds) → AllByRecursion (FitsDelta layout) ds → length (members delta ds) ≤ deltas_most layout
deltas_short layout ds listed all =
    let few : length ds ≤ layout.members = omega (arith, listed.few, length_keys (λ (d : OwnerDelta). d.endpoint) ds) in
    let deltas = short_members delta (FitsDelta layout) (delta_most layout) (delta_short layout) layout.members ds all few in
    counted_short (length (flat_map delta ds)) (layout.members * delta_most layout) (length (members delta ds)) deltas (omega (arith, length-append (two_bytes (length ds)) (flat_map delta ds), length-two_bytes (length ds)))

syn_short : (layout : Layout) (m : SynValue) → FitsSyn layout m → length (body (Syn m)) ≤ syn_most layout
syn_short layout m fits =
    let few : length m.digests ≤ layout.members = omega (arith, fits.listed.few, length_keys (λ (d : Digest). d.endpoint) m.digests) in
    omega (
      arith,
      few,
      fits.name.fits,
      length-append (cluster m.cluster) (members digest m.digests),
      length-append m.cluster.name (m.cluster.partitioner ∷ []),
      length-append (two_bytes (length m.digests)) (flat_map digest m.digests),
      length-two_bytes (length m.digests),
      length-digests m.digests,
    )

requests_short : (layout : Layout) (rs : List RequestValue) → FitsMembers layout (endpoints_of_requests rs) → length (members request rs) ≤ digests_most layout
requests_short layout rs listed =
    omega (arith, listed.few, length_keys (λ (r : RequestValue). r.endpoint) rs, length-append (two_bytes (length rs)) (flat_map request rs), length-two_bytes (length rs), length-requests rs)

fields_short : (layout : Layout) (m : Message) → FitsFields layout m → length (inside layout m) ≤ greatest_length layout
fields_short layout (Syn m) fits = omega (arith, syn_short layout m fits)
fields_short layout (Ack m) fits =
    longer (length (body (Ack m))) (syn_most layout) (ack_most layout) (length (inside layout (Ack m))) (omega arith) (both_short (length (members request m.requests)) (length (members delta m.deltas)) (length (body (Ack m))) (digests_most layout) (deltas_most layout)
    (length-append (members request m.requests) (members delta m.deltas)) (requests_short layout m.requests fits.asked) (deltas_short layout m.deltas fits.listed fits.deltas))
fields_short layout (Ack2 m) fits =
    longer (length (body (Ack2 m))) (syn_most layout) (ack_most layout) (length (inside layout (Ack2 m))) (omega arith) (behind_short (length (body (Ack2 m))) (digests_most layout) (deltas_most layout) (deltas_short layout m.deltas fits.listed fits.deltas))

pub inside_short : (layout : Layout) → EachIsShort layout
inside_short layout m fits = fields_short layout m (fields_of layout m fits)

-- ---- messages that are spelled so are read

-- a body that is read, whatever follows, is read to its end
ended_again : {A : Type 0} (tag : A → Message) (at : List ℕ → Field A) (x : A) (bytes : List ℕ) → at (bytes ++ []) ≡ Ok (x, []) → as_message tag (whole_field (at bytes)) ≡ Ok (tag x)
ended_again {A = A} tag at x bytes read = ap (λ (r : Field A). as_message tag (whole_field r)) (ap at (sym (append-nil bytes)) ∙ read)

body_again : (layout : Layout) (m : Message) → layout.text < TOMBSTONE → layout.members < 2 ^ 16 → FitsFields layout m → of_kind layout (kind_of m) (body m) ≡ Ok m
body_again layout (Syn m) text wide fits = ended_again Syn (syn_at layout) m (body (Syn m)) (syn_again layout m [] wide fits)
body_again layout (Ack m) text wide fits = ended_again Ack (ack_at layout) m (body (Ack m)) (ack_again layout m [] text wide fits)
body_again layout (Ack2 m) text wide fits = ended_again Ack2 (ack2_at layout) m (body (Ack2 m)) (ack2_again layout m [] text wide fits)

layout_again : (layout : Layout) (rest : List ℕ) → layout_at layout (layout.byte ∷ rest) ≡ Ok (layout.byte, rest)
layout_again layout rest =
    let fault : Misread = record { cause = causes.Layout; left = length (layout.byte ∷ rest) } in
    let same : (layout.byte == layout.byte) ≡ true = eq-eqb layout.byte layout.byte refl in
    ap (λ (r : Field ℕ). r >>= λ byte. cond (byte.0 == layout.byte) (Ok byte) (Err fault)) (byte_again layout.byte rest)
    ∙ ap (λ (b : Bool). cond b (Ok (layout.byte, rest)) (Err fault)) same

kind_from_again : (m : Message) (bytes rest : List ℕ) → kind_from bytes (kind m) rest ≡ Ok (kind_of m, rest)
kind_from_again (Syn m) bytes rest = refl
kind_from_again (Ack m) bytes rest = refl
kind_from_again (Ack2 m) bytes rest = refl

kind_again : (m : Message) (rest : List ℕ) → kind_at (kind m ∷ rest) ≡ Ok (kind_of m, rest)
kind_again m rest =
    ap (λ (r : Field ℕ). r >>= λ number. kind_from (kind m ∷ rest) number.0 number.1) (byte_again (kind m) rest) ∙ kind_from_again m (kind m ∷ rest) rest

pub inside_again : (layout : Layout) (m : Message) → layout.text < TOMBSTONE → layout.members < 2 ^ 16 → Fits layout m → inside_at layout (inside layout m) ≡ Ok m
unfolding inside_at
inside_again layout m text wide fits =
    ap (λ (r : Field ℕ). r >>= λ byte. kind_at byte.1 >>= λ kind. of_kind layout kind.0 kind.1) (layout_again layout (message m))
    ∙ ap (λ (r : Field Kind). r >>= λ kind. of_kind layout kind.0 kind.1) (kind_again m (body m))
    ∙ body_again layout m text wide (fields_of layout m fits)

frame_is_read : (layout : Layout) → IsLayout layout → (m : Message) (rest : List ℕ) → Fits layout m → frame_at layout (frame layout m ++ rest) ≡ Ok (Some (m, length (frame layout m)))
frame_is_read layout is m rest fits =
    let spelled = inside layout m in
    let short : length spelled ≤ layout.length = le_trans (inside_short layout m fits) is.room in
    let long : 4 + length spelled ≡ length (frame layout m) = omega (arith, length-append (four_bytes (length spelled)) spelled, length-four_bytes (length spelled)) in
    frame_again layout spelled rest m short is.length (inside_again layout m is.text is.members fits)
    ∙ ap (λ (n : ℕ). Ok (Some (m, n))) long

-- A frame in any layout of a list is read: that layout is the expected one.
pub frame_is_read_among : (layouts : List Layout) → AllByRecursion IsLayout layouts → (layout : Layout) → IsOneOf layouts layout → (m : Message) (rest : List ℕ) → Fits layout m → frame_among layouts (frame layout m ++ rest) ≡ Ok (Some (m, length (frame layout m)))
frame_is_read_among layouts each layout one m rest fits =
    ap (λ (l : Layout). frame_at l (frame layout m ++ rest)) (due_of_frame layouts layout m rest one)
    ∙ frame_is_read layout (named_all IsLayout layouts layout each one) m rest fits

pub each_spelled_is_read : (layouts : List Layout) → AllByRecursion IsLayout layouts → (bytes : List ℕ) (result : Result (Option (Message × ℕ)) Fault) → Answers (λ (x : Option (Message × ℕ)). x) (frame_among layouts bytes) result → GivesEachSpelled layouts bytes result
each_spelled_is_read layouts each bytes result answers layout m rest one fits spelled =
    subst (λ (read : Result (Option (Message × ℕ)) Fault). Answers (λ (x : Option (Message × ℕ)). x) read result) (ap (frame_among layouts) spelled ∙ frame_is_read_among layouts each layout one m rest fits) answers

-- ---- no two messages have one spelling

no_more : (rest : List ℕ) → length rest ≡ 0 → rest ≡ []
no_more [] e = refl
no_more (b ∷ rest) e = absurd (omega arith)

-- Bytes with their length before them begin with no others.
same_inside : (a b rest : List ℕ) → length a < 2 ^ 32 → length b < 2 ^ 32 → (four_bytes (length a) ++ a) ++ rest ≡ four_bytes (length b) ++ b → (a ≡ b) × (rest ≡ [])
unfolding four_bytes
same_inside a b rest short few e =
    let front = to_be_bytes w32 (length a) in
    let other = to_be_bytes w32 (length b) in
    let grouped : front ++ (a ++ rest) ≡ other ++ b = sym (append_assoc front a rest) ∙ e in
    let fronts : front ≡ other = sym (take_at front (a ++ rest) 4 refl) ∙ ap (take 4) grouped ∙ take_at other b 4 refl in
    let behind : a ++ rest ≡ b = sym (drop_at front (a ++ rest) 4 refl) ∙ ap (drop 4) grouped ∙ drop_at other b 4 refl in
    let sizes : length a ≡ length b = sym (from_be_bytes-to_be_bytes_4 (length a) short) ∙ ap (from_be_bytes w32) fronts ∙ from_be_bytes-to_be_bytes_4 (length b) few in
    let none : rest ≡ [] = no_more rest (omega (arith, ap length behind, length-append a rest, sizes)) in
    (sym (append-nil a) ∙ ap (λ (ys : List ℕ). a ++ ys) (sym none) ∙ behind, none)

-- The bytes after a length fit into its bytes.
pub inside_fits : (layout : Layout) → IsLayout layout → (m : Message) → Fits layout m → length (inside layout m) < 2 ^ 32
inside_fits layout is m fits =
    let short : length (inside layout m) ≤ layout.length = le_trans (inside_short layout m fits) is.room in
    omega (arith, short, is.length)

-- A byte names one layout of a list.
one_layout : (layouts : List Layout) (k l : Layout) → IsOneOf layouts k → IsOneOf layouts l → k.byte ≡ l.byte → k ≡ l
one_layout layouts k l one other byte =
    let both : ◌≡◌ {A = Option Layout} (Some k) (Some l) = sym one ∙ ap (layout_with_byte layouts) byte ∙ other in
    cc both

pub no_spelling_begins_another : (layouts : List Layout) → AreLayouts layouts → NoSpellingBeginsAnother layouts
no_spelling_begins_another layouts are k l m n rest one other fits also e =
    let is = named_all IsLayout layouts k are.each one in
    let was = named_all IsLayout layouts l are.each other in
    let same = same_inside (inside k m) (inside l n) rest (inside_fits k is m fits) (inside_fits l was n also) e in
    let byte : k.byte ≡ l.byte = cc (same.0) in
    let layout : k ≡ l = one_layout layouts k l one other byte in
    let read : ◌≡◌ {A = Result Message Misread} (Ok m) (Ok n) =
    sym (inside_again k m is.text is.members fits)
    ∙ ap (inside_at k) same.0
    ∙ ap (λ (j : Layout). inside_at j (inside l n)) layout
    ∙ inside_again l n was.text was.members also in
    (layout, ok_is m n read, same.1)

-- ---- each layout of this version

pub first_is_layout : IsLayout LAYOUT_1
first_is_layout = record { members = omega arith; text = omega arith; length = omega arith; room = omega arith }

pub second_is_layout : IsLayout LAYOUT_2
second_is_layout = record { members = omega arith; text = omega arith; length = omega arith; room = omega arith }

pub third_is_layout : IsLayout LAYOUT_3
third_is_layout = record { members = omega arith; text = omega arith; length = omega arith; room = omega arith }

-- ---- the layouts of this version

pub layouts_are : AreLayouts LAYOUTS
layouts_are = record { some = omega arith; found = (refl, (refl, (refl, tt))); each = (first_is_layout, (second_is_layout, (third_is_layout, tt))) }

pub layouts_are_read : AreRead LAYOUTS
layouts_are_read = record {
  some = omega arith;
  each = (
    record { members = omega arith; text = omega arith; length = omega arith },
    (record { members = omega arith; text = omega arith; length = omega arith }, (record { members = omega arith; text = omega arith; length = omega arith }, tt)),
  );
}
