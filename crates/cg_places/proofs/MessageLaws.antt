-- The laws of messages, from those of their parts.
use Rattle.std.proofs.Common.{◌≡◌, ◌≤◌, ℕ, Bool, true, false, cond, List, length, Option, Some, None, Ok, Err, refl, subst, nat_lt}
use Rattle.std.specs.Option.{option_and_then}
use Rattle.cg_types.specs.declared.fault.Fault.TheVariants.{TableFull}
use Rattle.cg_types.specs.declared.limits.TheConstants.{MEMBER_LIMIT}
use Rattle.cg_types.specs.Rising.{Rises}
use Rattle.cg_entry.specs.Values.{EntryValue}
use Rattle.cg_entry.specs.History.{IsHistory}
use Rattle.cg_entry.specs.Place.{Span, IsSpan}
use Rattle.cg_table.specs.Values.{TableValue}
use Rattle.cg_table.specs.Spelling.{SpellsPlaces}
use Rattle.cg_messages.specs.declared.owner_delta.OwnerDelta.{OwnerDelta}
use Rattle.cg_messages.specs.declared.outcome.Outcome.{Outcome}
use Rattle.cg_messages.specs.Values.{Ack2Value}
use Rattle.cg_messages.specs.Members.{endpoints_of_deltas}
use Rattle.cg_exchange.specs.Answering.{requests_for, deltas_for}
use Rattle.cg_exchange.specs.Taking.{table_after, outcomes_of, deltas_granted, held_after}
use Rattle.cg_places.specs.Places.{Ask, IsAsk, span_asked}
use Rattle.cg_places.specs.PlaceMessages.{Stand, AreAsks, AreSpans, places_after, grants_at}
use Rattle.cg_places.specs.MessageSpelling.{SpellsSpans}
use Rattle.cg_places.specs.MessageLaws.{IsMoved, SynSaysPlaces, SynIsAnswered, AckMoves, AckIsTaken, Ack2IsTaken}
use Rattle.cg_exchange.proofs.AnswerLemmas.{digests_rise, requests_rise, deltas_rise, grants_rise}
use Rattle.cg_places.proofs.AnswerLaws.{digests_spell_places, requests_spell_asks, deltas_spell_spans, grants_spell_spans}
use Rattle.cg_places.proofs.TakingLaws.{own_kept, places_taken, outcomes_taken}
use Rattle.cg_places.proofs.PlaceRules.{rules_stand}

pub syn_says_places : SynSaysPlaces
syn_says_places hs t cluster places at = record {
  spells = record { rise = digests_rise t.entries; digests = digests_spell_places hs t.entries places at };
  stands = at.stand;
}

pub syn_is_answered : SynIsAnswered
syn_is_answered hs are t cluster syn mine theirs at says same =
    let spelled = says.spells in
    record {
      ack = record { requests = requests_for t.entries syn.digests; deltas = deltas_for t.entries syn.digests };
      answer = rw same refl;
      says = record {
        spells = record {
          requests_rise = requests_rise t.entries syn.digests spelled.rise;
          deltas_rise = deltas_rise t.entries syn.digests;
          requests = requests_spell_asks hs are t.entries syn.digests mine theirs says.stands at spelled.digests spelled.rise;
          deltas = deltas_spell_spans hs are t.entries syn.digests mine theirs says.stands at spelled.digests;
        };
        stands = (λ owner ask e. (rules_stand (hs owner) (mine owner) (at.stand owner)).asks (theirs owner) ask e, λ owner span e. (rules_stand (hs owner) (mine owner) (at.stand owner)).spans (theirs owner) span e);
      };
    }

-- ---- the spans granted

granted_span : (h : List EntryValue) (p : ℕ) → p ≤ length h → (o : Option Ask) → ((ask : Ask) → o ≡ Some ask → IsAsk h ask) → (span : Span) → option_and_then (span_asked h p) o ≡ Some span → IsSpan h span
granted_span h p l None are span e = absurd cc
granted_span h p l (Some ask) are span e = (rules_stand h p l).granted ask (are ask refl) span e

grants_stand : (hs : ℕ → List EntryValue) (mine : ℕ → ℕ) (asks : ℕ → Option Ask) → Stand hs mine → AreAsks hs asks → AreSpans hs (grants_at hs mine asks)
grants_stand hs mine asks l are owner span e = granted_span (hs owner) (mine owner) (l owner) (asks owner) (are owner) span e

-- ---- the deltas taken

-- the answer if there is enough room
answered : {A : Type 0} (full : Bool) (x y : A) → cond full (Err TableFull) (Ok x) ≡ Ok y → x ≡ y
answered true x y e = absurd cc
answered false x y e = cc

module _ (hs : ℕ → List EntryValue) (are : (owner : ℕ) → IsHistory (hs owner)) (t : TableValue) (deltas : List OwnerDelta) (mine : ℕ → ℕ) (spans : ℕ → Option Span) where
  moved : SpellsPlaces hs t.entries mine → Rises (endpoints_of_deltas deltas) → SpellsSpans hs deltas spans → AreSpans hs spans → IsMoved hs t mine spans (table_after t deltas) (outcomes_of t deltas)
  moved at rise spelled stand = record {
    own = own_kept hs are t deltas mine spans rise at spelled stand;
    places = places_taken hs are t deltas mine spans rise at spelled stand;
    outcomes_about = outcomes_taken hs are t deltas mine spans rise at spelled stand;
  }

pub ack_is_taken : AckIsTaken
ack_is_taken hs are t ack mine asks spans at says after ack2 outcomes taken =
    let spelled = says.spells in
    let left = moved hs are t ack.deltas mine spans at spelled.deltas_rise spelled.deltas says.stands.1 in
    let is = answered (nat_lt MEMBER_LIMIT (held_after t ack.deltas)) (table_after t ack.deltas, record { deltas = deltas_granted (table_after t ack.deltas).entries ack.requests }, outcomes_of t ack.deltas) (after, ack2, outcomes) taken in
    subst (λ (x : TableValue × Ack2Value × List Outcome). AckMoves hs t mine asks spans x.0 x.1 x.2) is (record {
      moved = left;
      says = record {
        spells = record {
          rise = grants_rise (table_after t ack.deltas).entries ack.requests spelled.requests_rise;
          deltas = grants_spell_spans hs are (table_after t ack.deltas).entries ack.requests (places_after t.own mine spans) asks spelled.requests_rise left.places spelled.requests says.stands.0;
        };
        stands = grants_stand hs (places_after t.own mine spans) asks left.places.stand says.stands.0;
      };
    })

pub ack2_is_taken : Ack2IsTaken
ack2_is_taken hs are t ack2 mine spans at says after outcomes taken =
    let spelled = says.spells in
    let is = answered (nat_lt MEMBER_LIMIT (held_after t ack2.deltas)) (table_after t ack2.deltas, outcomes_of t ack2.deltas) (after, outcomes) taken in
    subst (λ (x : TableValue × List Outcome). IsMoved hs t mine spans x.0 x.1) is (moved hs are t ack2.deltas mine spans at spelled.rise spelled.deltas says.stands)
