-- Codes of events and replies, by which `==` and models tell them apart.
use Rattle.std.specs.Prelude.{◌≡◌, ◌⊎◌, ℕ, List, refl}
use Rattle.std.proofs.Common.{inl, inr}
use Rattle.std.specs.Coded.{Coded, code_by, coded×, coded⊎, coded_ℕ, coded_list}
use Rattle.cg_messages.specs.declared.message.Message.{Message}
use Rattle.cg_messages.specs.declared.outcome.Outcome.{Outcome}
use Rattle.cg_messages.specs.Values.{SynValue, AckValue, Ack2Value, syn_code, ack_code, ack2_code}
use Rattle.cg_messages.specs.MessageCode.{message_code}
use Rattle.cg_core.specs.declared.event.Event.{Event}
use Rattle.cg_core.specs.declared.event.Event.TheVariants as event
use Rattle.cg_core.specs.declared.reply.Reply.{Reply}
use Rattle.cg_core.specs.declared.reply.Reply.TheVariants as reply
use Rattle.cg_core.specs.PeerCodes.{peers_code}
use Rattle.cg_core.specs.OutcomeCodes.{outcomes_code}

-- ---- events

abbrev EventContent : Type 0
EventContent = ℕ ⊎ ((ℕ × List ℕ) ⊎ ((ℕ × List ℕ) ⊎ (ℕ ⊎ (SynValue ⊎ ((ℕ × AckValue) ⊎ ((ℕ × Ack2Value) ⊎ ℕ))))))

abbrev content_of_event : Event → EventContent
content_of_event event.Beat = inl 0
content_of_event (event.Set key text) = inr (inl (key, text))
content_of_event (event.Remove key) = inr (inr (inr (inr (inr (inr (inr key))))))
content_of_event (event.Tick now words) = inr (inr (inl (now, words)))
content_of_event event.Opening = inr (inr (inr (inl 0)))
content_of_event (event.Syn m) = inr (inr (inr (inr (inl m))))
content_of_event (event.Ack now m) = inr (inr (inr (inr (inr (inl (now, m))))))
content_of_event (event.Ack2 now m) = inr (inr (inr (inr (inr (inr (inl (now, m)))))))

abbrev event_of : EventContent → Event
event_of (inl _) = event.Beat
event_of (inr (inl p)) = event.Set p.0 p.1
event_of (inr (inr (inl p))) = event.Tick p.0 p.1
event_of (inr (inr (inr (inl _)))) = event.Opening
event_of (inr (inr (inr (inr (inl m))))) = event.Syn m
event_of (inr (inr (inr (inr (inr (inl p)))))) = event.Ack p.0 p.1
event_of (inr (inr (inr (inr (inr (inr (inl p))))))) = event.Ack2 p.0 p.1
event_of (inr (inr (inr (inr (inr (inr (inr key))))))) = event.Remove key

pub event_of_its_content : (e : Event) → event_of (content_of_event e) ≡ e
event_of_its_content event.Beat = refl
event_of_its_content (event.Set key text) = refl
event_of_its_content (event.Remove key) = refl
event_of_its_content (event.Tick now words) = refl
event_of_its_content event.Opening = refl
event_of_its_content (event.Syn m) = refl
event_of_its_content (event.Ack now m) = refl
event_of_its_content (event.Ack2 now m) = refl

abbrev event_content_code : Coded EventContent
event_content_code =
    coded⊎ coded_ℕ
    (coded⊎ (coded× coded_ℕ (coded_list coded_ℕ))
    (coded⊎ (coded× coded_ℕ (coded_list coded_ℕ))
    (coded⊎ coded_ℕ
    (coded⊎ syn_code (coded⊎ (coded× coded_ℕ ack_code) (coded⊎ (coded× coded_ℕ ack2_code) coded_ℕ))))))

abbrev pub event_code : Coded Event
event_code = code_by EventContent event_content_code content_of_event event_of event_of_its_content

-- ---- replies

abbrev ReplyContent : Type 0
ReplyContent = ℕ ⊎ ((List ℕ × SynValue) ⊎ (Message ⊎ ((List Outcome × Ack2Value) ⊎ List Outcome)))

abbrev content_of_reply : Reply → ReplyContent
content_of_reply (reply.Done version) = inl version
content_of_reply (reply.Round peers syn) = inr (inl (peers, syn))
content_of_reply (reply.Sent m) = inr (inr (inl m))
content_of_reply (reply.Both outcomes ack2) = inr (inr (inr (inl (outcomes, ack2))))
content_of_reply (reply.Took outcomes) = inr (inr (inr (inr outcomes)))

abbrev reply_of : ReplyContent → Reply
reply_of (inl version) = reply.Done version
reply_of (inr (inl p)) = reply.Round p.0 p.1
reply_of (inr (inr (inl m))) = reply.Sent m
reply_of (inr (inr (inr (inl p)))) = reply.Both p.0 p.1
reply_of (inr (inr (inr (inr outcomes)))) = reply.Took outcomes

pub reply_of_its_content : (r : Reply) → reply_of (content_of_reply r) ≡ r
reply_of_its_content (reply.Done version) = refl
reply_of_its_content (reply.Round peers syn) = refl
reply_of_its_content (reply.Sent m) = refl
reply_of_its_content (reply.Both outcomes ack2) = refl
reply_of_its_content (reply.Took outcomes) = refl

abbrev reply_content_code : Coded ReplyContent
reply_content_code =
    coded⊎ coded_ℕ
    (coded⊎ (coded× peers_code syn_code)
    (coded⊎ message_code (coded⊎ (coded× outcomes_code ack2_code) outcomes_code)))

abbrev pub reply_code : Coded Reply
reply_code = code_by ReplyContent reply_content_code content_of_reply reply_of reply_of_its_content
