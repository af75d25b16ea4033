-- Messages and frames that are read are spelled so, and fit.
use Rattle.std.proofs.Common.{◌≡◌, ℕ, ◌≤◌, true, false, cond, List, [], ◌∷◌, ◌++◌, length, take, drop, Option, Some, None, Result, Ok, Err, refl, sym, ap, subst, ◌∙◌, append_assoc, arith, length-append, length-take, length-drop}
use Rattle.std.specs.Prelude.{◌==◌, slice_get}
use Rattle.std.specs.Int.{w8, w32, from_be_bytes, to_be_bytes}
use Rattle.std.proofs.lemmas.Bool.{eqb-true}
use Rattle.std.proofs.lemmas.List.{take-append-drop, take_at, append-nil}
use Rattle.std.proofs.lemmas.Nat.{be_bytes_4}
use Rattle.cg_types.specs.declared.fault.Cause.TheVariants as causes
use Rattle.cg_types.specs.declared.fault.Fault.{Fault}
use Rattle.cg_types.specs.Answer.{Answers}
use Rattle.cg_entry.specs.declared.digest.Digest.{Digest}
use Rattle.cg_messages.specs.declared.owner_delta.OwnerDelta.{OwnerDelta}
use Rattle.cg_messages.specs.declared.message.Message.{Message}
use Rattle.cg_messages.specs.declared.message.Message.TheVariants.{Syn, Ack, Ack2}
use Rattle.cg_messages.specs.Values.{RequestValue, SynValue, AckValue, Ack2Value}
use Rattle.cg_frames.specs.declared.layout.Layout.{Layout}
use Rattle.cg_frames.specs.declared.misread.Misread.{Misread}
use Rattle.cg_messages.specs.declared.kind.Kind.{Kind}
use Rattle.cg_messages.specs.declared.kind.Kind.TheVariants as kinds
use Rattle.cg_types.specs.ResultSteps.{◌>>=◌}
use Rattle.cg_frames.specs.Fields.{Field, number_at}
use Rattle.cg_frames.specs.Lists.{digest_at, request_at, delta_at, listed_requests_at, listed_deltas_at}
use Rattle.cg_frames.specs.Reading.{syn_at, ack_at, ack2_at, whole_field, as_message, layout_at, kind_from, kind_at, of_kind, inside_at, frame_at}
use Rattle.cg_frames.specs.Choosing.{expected_layout, frame_among, IsOneOf, AreRead}
use Rattle.cg_entry.specs.Section.{four_bytes}
use Rattle.cg_frames.specs.Spelling.{digest, request, delta, cluster, members, number_of_kind, kind, body, inside, frame}
use Rattle.cg_entry.specs.Contents.{IsDigest}
use Rattle.cg_messages.specs.Contents.{IsRequest}
use Rattle.cg_frames.specs.Layouts.{IsRead}
use Rattle.cg_frames.proofs.FitsFields.{FitsFields, FitsDelta, FitsSyn, FitsAck, FitsAck2}
use Rattle.cg_frames.proofs.FitsLemmas.{fits_of}
use Rattle.cg_frames.specs.Laws.{AreBytes, IsSpelledIn, TakesOnlySpelled}
use Rattle.cg_frames.proofs.ReadIsSpelledParts.{bind_ok, ok_is, goes_on_by, digest_past, request_past, delta_past, syn_parts}
use Rattle.cg_frames.proofs.ChoosingLemmas.{due_is_one, due_all, byte_of_frame}
use Rattle.cg_frames.proofs.FrameLemmas.{frame_parts}
use Rattle.cg_frames.proofs.ReadIsSpelledLemmas.{Stands, then, front_bytes, later_bytes, byte_found, digest_found, name_found, MembersFound, members_found, listed_found}
use Rattle.cg_frames.proofs.ReadIsSpelledMembers.{request_found, delta_found}

-- ---- bodies

syn_found : (layout : Layout) (bytes : List ℕ) (m : SynValue) (rest : List ℕ) → AreBytes bytes → syn_at layout bytes ≡ Ok (m, rest) → Stands (body (Syn m)) bytes rest × FitsSyn layout m
syn_found layout bytes m rest small h =
    let p = syn_parts layout bytes m rest h in
    let name = name_found bytes m.cluster.name p.from_partitioner small p.name in
    let part = byte_found p.from_partitioner m.cluster.partitioner p.from_count name.0.bytes_behind p.partitioner in
    let listed = members_found (λ (d : Digest). d.endpoint) digest digest_at IsDigest digest_found digest_past layout p.from_count p.count p.from_digests m.digests rest part.0.bytes_behind p.counted p.digests in (
      then (cluster m.cluster) (members digest m.digests) bytes p.from_count rest
          (then (length m.cluster.name ∷ m.cluster.name) (m.cluster.partitioner ∷ []) bytes p.from_partitioner p.from_count name.0 part.0)
          listed.stands,
      record { name = name.1; partitioner = part.1; listed = listed.listed; digests = listed.fit },
    )

requests_found : (layout : Layout) (bytes : List ℕ) (rs : List RequestValue) (rest : List ℕ) → AreBytes bytes → listed_requests_at layout bytes ≡ Ok (rs, rest) → MembersFound (λ (r : RequestValue). r.endpoint) request IsRequest layout bytes rs rest
requests_found = listed_found (λ (r : RequestValue). r.endpoint) request request_at IsRequest request_found request_past

deltas_found : (layout : Layout) (bytes : List ℕ) (ds : List OwnerDelta) (rest : List ℕ) → AreBytes bytes → listed_deltas_at layout bytes ≡ Ok (ds, rest) → MembersFound (λ (d : OwnerDelta). d.endpoint) delta (FitsDelta layout) layout bytes ds rest
deltas_found layout = listed_found (λ (d : OwnerDelta). d.endpoint) delta (delta_at layout) (FitsDelta layout) (delta_found layout) (delta_past layout) layout

abbrev ack_of : List RequestValue → List OwnerDelta × List ℕ → Field AckValue
ack_of requests deltas = Ok (record { requests = requests; deltas = deltas.0 }, deltas.1)

ack_found : (layout : Layout) (bytes : List ℕ) (m : AckValue) (rest : List ℕ) → AreBytes bytes → ack_at layout bytes ≡ Ok (m, rest) → Stands (body (Ack m)) bytes rest × FitsAck layout m
unfolding ack_at
ack_found layout bytes m rest small h =
    let r = bind_ok (listed_requests_at layout bytes) (λ requests. listed_deltas_at layout requests.1 >>= ack_of requests.0) (m, rest) h in
    let d = bind_ok (listed_deltas_at layout r.0.1) (ack_of r.0.0) (m, rest) r.2 in
    let asked = requests_found layout bytes r.0.0 r.0.1 small r.1 in
    let sent = deltas_found layout r.0.1 d.0.0 d.0.1 asked.stands.bytes_behind d.1 in
    let made : AckValue = record { requests = r.0.0; deltas = d.0.0 } in
    subst (λ (p : AckValue × List ℕ). Stands (body (Ack p.0)) bytes p.1 × FitsAck layout p.0) {x = (made, d.0.1)} (ok_is (made, d.0.1) (m, rest) d.2) (
      then (members request r.0.0) (members delta d.0.0) bytes r.0.1 d.0.1 asked.stands sent.stands,
      record { asked = asked.listed; requests = asked.fit; listed = sent.listed; deltas = sent.fit },
    )

abbrev ack2_of : List OwnerDelta × List ℕ → Field Ack2Value
ack2_of deltas = Ok (record { deltas = deltas.0 }, deltas.1)

ack2_found : (layout : Layout) (bytes : List ℕ) (m : Ack2Value) (rest : List ℕ) → AreBytes bytes → ack2_at layout bytes ≡ Ok (m, rest) → Stands (body (Ack2 m)) bytes rest × FitsAck2 layout m
unfolding ack2_at
ack2_found layout bytes m rest small h =
    let d = bind_ok (listed_deltas_at layout bytes) ack2_of (m, rest) h in
    let sent = deltas_found layout bytes d.0.0 d.0.1 small d.1 in
    let made : Ack2Value = record { deltas = d.0.0 } in
    subst (λ (p : Ack2Value × List ℕ). Stands (body (Ack2 p.0)) bytes p.1 × FitsAck2 layout p.0) {x = (made, d.0.1)} (ok_is (made, d.0.1) (m, rest) d.2) (sent.stands, record { listed = sent.listed; deltas = sent.fit })

-- ---- a message

ended_well : {A : Type 0} (r : Field A) (x : A) → whole_field r ≡ Ok x → (rest : List ℕ) × (r ≡ Ok (x, rest)) × (length rest ≡ 0)
ended_well {A = A} (Ok y) x e =
    let g = goes_on_by (length y.1 == 0) (record { cause = causes.Rest; left = length y.1 }) (Ok y.0) x e in
    let same : y.0 ≡ x = ok_is y.0 x g.1 in
    (y.1, ap (λ (z : A). Ok (z, y.1)) same, eqb-true (length y.1) 0 g.0)
ended_well (Err m) x e = absurd cc

told_well : {A : Type 0} (tag : A → Message) (r : Result A Misread) (m : Message) → as_message tag r ≡ Ok m → (x : A) × (r ≡ Ok x) × (tag x ≡ m)
told_well tag (Ok x) m e = (x, refl, ok_is (tag x) m e)
told_well tag (Err f) m e = absurd cc

pub record InsideFound (layout : Layout) (bytes : List ℕ) (m : Message) : Type 0 where
  pub spelled : bytes ≡ inside layout m
  pub fits : FitsFields layout m

pub record KindFound (layout : Layout) (number : ℕ) (behind : List ℕ) (m : Message) : Type 0 where
  pub is : number ≡ kind m
  pub whole : behind ≡ body m
  pub fits : FitsFields layout m

-- ---- the bytes before a body

layout_read : (layout : Layout) (bytes : List ℕ) (p : ℕ × List ℕ) → layout_at layout bytes ≡ Ok p → (p.0 ≡ layout.byte) × (number_at w8 bytes ≡ Ok p)
layout_read layout bytes p h =
    let fault : Misread = record { cause = causes.Layout; left = length bytes } in
    let a = bind_ok (number_at w8 bytes) (λ byte. cond (byte.0 == layout.byte) (Ok byte) (Err fault)) p h in
    let g = goes_on_by (a.0.0 == layout.byte) fault (Ok a.0) p a.2 in
    subst (λ (q : ℕ × List ℕ). (q.0 ≡ layout.byte) × (number_at w8 bytes ≡ Ok q)) (ok_is a.0 p g.1) (eqb-true a.0.0 layout.byte g.0, a.1)

kind_was : (n : ℕ) (of : Kind) (rest : List ℕ) (p : Kind × List ℕ) → n ≡ number_of_kind of → ◌≡◌ {A = Field Kind} (Ok (of, rest)) (Ok p) → (n ≡ number_of_kind p.0) × (rest ≡ p.1)
kind_was n of rest p is e = subst (λ (q : Kind × List ℕ). (n ≡ number_of_kind q.0) × (rest ≡ q.1)) (ok_is (of, rest) p e) (is, refl)

kind_is : (bytes : List ℕ) (n : ℕ) (rest : List ℕ) (p : Kind × List ℕ) → kind_from bytes n rest ≡ Ok p → (n ≡ number_of_kind p.0) × (rest ≡ p.1)
kind_is bytes n rest p h =
    let syn : Field Kind = Ok (kinds.Syn, rest) in
    let ack : Field Kind = Ok (kinds.Ack, rest) in
    let ack2 : Field Kind = Ok (kinds.Ack2, rest) in
    let none : Field Kind = Err (record { cause = causes.Kind; left = length bytes }) in
    elim (n == 1) as (λ b. (n == 1) ≡ b → cond b syn (cond (n == 2) ack (cond (n == 3) ack2 none)) ≡ Ok p → (n ≡ number_of_kind p.0) × (rest ≡ p.1)) [
      | true ↦ λ one h. kind_was n kinds.Syn rest p (eqb-true n 1 one) h
      | false ↦ λ other h. elim (n == 2) as (λ b. (n == 2) ≡ b → cond b ack (cond (n == 3) ack2 none) ≡ Ok p → (n ≡ number_of_kind p.0) × (rest ≡ p.1)) [
        | true ↦ λ two h. kind_was n kinds.Ack rest p (eqb-true n 2 two) h
        | false ↦ λ other h. elim (n == 3) as (λ b. (n == 3) ≡ b → cond b ack2 none ≡ Ok p → (n ≡ number_of_kind p.0) × (rest ≡ p.1)) [
          | true ↦ λ three h. kind_was n kinds.Ack2 rest p (eqb-true n 3 three) h
          | false ↦ λ other h. absurd cc
        ] refl h
      ] refl h
    ] refl h

kind_read : (bytes : List ℕ) (k : Kind) (rest : List ℕ) → kind_at bytes ≡ Ok (k, rest) → number_at w8 bytes ≡ Ok (number_of_kind k, rest)
kind_read bytes k rest h =
    let a = bind_ok (number_at w8 bytes) (λ n. kind_from bytes n.0 n.1) (k, rest) h in
    let is = kind_is bytes a.0.0 a.0.1 (k, rest) a.2 in
    a.1 ∙ (λ i. Ok (is.0 i, is.1 i))

no_bytes : (rest : List ℕ) → length rest ≡ 0 → rest ≡ []
no_bytes [] e = refl
no_bytes (b ∷ rest) e = absurd (omega arith)

-- a body that was read to its end, by the reading of its kind
body_found : {A : Type 0} (tag : A → Message) (layout : Layout) (at : List ℕ → Field A) → ((bytes : List ℕ) (x : A) (rest : List ℕ) → AreBytes bytes → at bytes ≡ Ok (x, rest) → Stands (body (tag x)) bytes rest × FitsFields layout (tag x))
    → (number : ℕ) (behind : List ℕ) (m : Message) → ((x : A) → number ≡ kind (tag x)) → AreBytes behind → as_message tag (whole_field (at behind)) ≡ Ok m → KindFound layout number behind m
body_found tag layout at found number behind m is small h =
    let t = told_well tag (whole_field (at behind)) m h in
    let e = ended_well (at behind) t.0 t.1 in
    let f = found behind t.0 e.0 small e.1 in
    subst (λ (m : Message). KindFound layout number behind m) t.2
    (record { is = is t.0; whole = f.0.whole ∙ ap (λ (ys : List ℕ). body (tag t.0) ++ ys) (no_bytes e.0 e.2) ∙ append-nil (body (tag t.0)); fits = f.1 })

kind_found : (layout : Layout) (k : Kind) (behind : List ℕ) (m : Message) → AreBytes behind → of_kind layout k behind ≡ Ok m → KindFound layout (number_of_kind k) behind m
kind_found layout kinds.Syn behind m small h = body_found Syn layout (syn_at layout) (syn_found layout) 1 behind m (λ x. refl) small h
kind_found layout kinds.Ack behind m small h = body_found Ack layout (ack_at layout) (ack_found layout) 2 behind m (λ x. refl) small h
kind_found layout kinds.Ack2 behind m small h = body_found Ack2 layout (ack2_at layout) (ack2_found layout) 3 behind m (λ x. refl) small h

two_before : (bytes from_second behind body : List ℕ) (first byte second kind : ℕ) → bytes ≡ first ∷ from_second → from_second ≡ second ∷ behind → first ≡ byte → second ≡ kind → behind ≡ body → bytes ≡ byte ∷ (kind ∷ body)
two_before bytes from_second behind body first byte second kind e f b k r = e ∙ ap (λ (ys : List ℕ). first ∷ ys) f ∙ (λ i. b i ∷ (k i ∷ r i))

pub inside_found : (layout : Layout) (bytes : List ℕ) (m : Message) → AreBytes bytes → inside_at layout bytes ≡ Ok m → InsideFound layout bytes m
unfolding inside_at
inside_found layout bytes m small h =
    let a = bind_ok (layout_at layout bytes) (λ byte. kind_at byte.1 >>= λ kind. of_kind layout kind.0 kind.1) m h in
    let b = bind_ok (kind_at a.0.1) (λ kind. of_kind layout kind.0 kind.1) m a.2 in
    let l = layout_read layout bytes a.0 a.1 in
    let first = byte_found bytes a.0.0 a.0.1 small l.1 in
    let second = byte_found a.0.1 (number_of_kind b.0.0) b.0.1 first.0.bytes_behind (kind_read a.0.1 b.0.0 b.0.1 b.1) in
    let k = kind_found layout b.0.0 b.0.1 m second.0.bytes_behind b.2 in
    record { spelled = two_before bytes a.0.1 b.0.1 (body m) a.0.0 layout.byte (number_of_kind b.0.0) (kind m) first.0.whole second.0.whole l.0 k.is k.whole; fits = k.fits }

-- ---- a frame

inside_stands : (size : ℕ) (bytes front : List ℕ) → size ≤ length bytes → AreBytes bytes → take size bytes ≡ front → length front ≡ size
inside_stands size bytes front le small e = omega (arith, length-take size bytes, ap length e)

pub frame_found : (layout : Layout) → IsRead layout → (bytes : List ℕ) (m : Message) (n : ℕ) → AreBytes bytes → frame_at layout bytes ≡ Ok (Some (m, n)) → IsSpelledIn layout bytes m n
unfolding four_bytes
frame_found layout read bytes m n small h =
    let p = frame_parts layout bytes m n h in
    let front = take 4 bytes in
    let behind = drop 4 bytes in
    let size = from_be_bytes w32 front in
    let f = inside_found layout (take size behind) m (front_bytes size behind (later_bytes 4 bytes small)) p.inside in
    let few : size ≤ length behind = omega (arith, p.size, p.within, length-drop 4 bytes) in
    let count : length (inside layout m) ≡ size = inside_stands size behind (inside layout m) few (later_bytes 4 bytes small) f.spelled in
    let four : length front ≡ 4 = omega (arith, length-take 4 bytes, p.size, p.within) in
    let sized : to_be_bytes w32 (length (inside layout m)) ≡ front = be_bytes_4 front (length (inside layout m)) four (front_bytes 4 bytes small) count in
    let unsized = sym sized in
    let long : length (frame layout m) ≡ n = omega (arith, length-append (four_bytes (length (inside layout m))) (inside layout m), count, p.size, ap length sized, four) in
    let whole : bytes ≡ frame layout m ++ drop size behind =
    sym (take-append-drop 4 bytes)
    ∙ ap (λ (ys : List ℕ). front ++ ys) (sym (take-append-drop size behind))
    ∙ (λ i. unsized i ++ (f.spelled i ++ drop size behind))
    ∙ sym (append_assoc (four_bytes (length (inside layout m))) (inside layout m) (drop size behind)) in
    record { within = p.within; spelled = ap (take n) whole ∙ take_at (frame layout m) (drop size behind) n long; fits = fits_of layout read m f.fits }

-- A message that is read in the expected layout is spelled so in a layout of the list: it is that one.
pub found_among : (layouts : List Layout) → AreRead layouts → (bytes : List ℕ) (m : Message) (n : ℕ) → AreBytes bytes → frame_among layouts bytes ≡ Ok (Some (m, n)) → (layout : Layout) × IsOneOf layouts layout × IsSpelledIn layout bytes m n
found_among layouts are bytes m n small h =
    let layout = expected_layout layouts bytes in
    let f = frame_found layout (due_all IsRead layouts bytes are.some are.each) bytes m n small h in
    let whole : bytes ≡ frame layout m ++ drop n bytes = sym (take-append-drop n bytes) ∙ ap (λ (ys : List ℕ). ys ++ drop n bytes) f.spelled in
    let at : slice_get bytes 4 ≡ Some layout.byte = ap (λ (ys : List ℕ). slice_get ys 4) whole ∙ byte_of_frame layout m (drop n bytes) in
    (layout, due_is_one layouts bytes are.some at, f)

pub all_found : (layouts : List Layout) → AreRead layouts → (bytes : List ℕ) (result : Result (Option (Message × ℕ)) Fault) → AreBytes bytes → Answers (λ (x : Option (Message × ℕ)). x) (frame_among layouts bytes) result → TakesOnlySpelled layouts bytes result
all_found layouts are bytes (Ok (Some f)) small answers = found_among layouts are bytes f.0 f.1 small answers
all_found layouts are bytes (Ok None) small answers = tt
all_found layouts are bytes (Err fault) small answers = tt
