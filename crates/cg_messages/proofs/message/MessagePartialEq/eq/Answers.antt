use Rattle.std.proofs.Common.{◌≡◌, ◌∙◌, sym, ap}
use Rattle.cg_messages.specs.declared.message.Message.TheVariants.{Syn, Ack, Ack2}
use Rattle.cg_messages.specs.Values.{SynValue, AckValue, Ack2Value, syn_code, ack_code, ack2_code}
use Rattle.cg_types.specs.Equality.{same_by-Decides}
use Rattle.cg_messages.proofs.message.MessagePartialEq.eq.Goals as goal

same_syn : (x y : SynValue) → Syn x ≡ Syn y → x ≡ y
same_syn x y e = cc

same_ack : (x y : AckValue) → Ack x ≡ Ack y → x ≡ y
same_ack x y e = cc

same_ack2 : (x y : Ack2Value) → Ack2 x ≡ Ack2 y → x ≡ y
same_ack2 x y e = cc

pub returns-in-Syn-Syn : goal.returns-in-Syn-Syn
returns-in-Syn-Syn c =
    let it = c.in-Syn-Syn in
    let same = same_by-Decides syn_code it.ours it.theirs in (
      λ t. it.is-0 ∙ ap Syn (same.0 (sym c.eq.ensures ∙ t)) ∙ sym it.is-1,
      λ e. c.eq.ensures ∙ same.1 (same_syn it.ours it.theirs (sym it.is-0 ∙ e ∙ it.is-1)),
    )

pub returns-in-Ack-Ack : goal.returns-in-Ack-Ack
returns-in-Ack-Ack c =
    let it = c.in-Ack-Ack in
    let same = same_by-Decides ack_code it.ours it.theirs in (
      λ t. it.is-0 ∙ ap Ack (same.0 (sym c.eq-in-Ack-Ack.ensures ∙ t)) ∙ sym it.is-1,
      λ e. c.eq-in-Ack-Ack.ensures ∙ same.1 (same_ack it.ours it.theirs (sym it.is-0 ∙ e ∙ it.is-1)),
    )

pub returns-in-Ack2-Ack2 : goal.returns-in-Ack2-Ack2
returns-in-Ack2-Ack2 c =
    let it = c.in-Ack2-Ack2 in
    let same = same_by-Decides ack2_code it.ours it.theirs in (
      λ t. it.is-0 ∙ ap Ack2 (same.0 (sym c.eq-in-Ack2-Ack2.ensures ∙ t)) ∙ sym it.is-1,
      λ e. c.eq-in-Ack2-Ack2.ensures ∙ same.1 (same_ack2 it.ours it.theirs (sym it.is-0 ∙ e ∙ it.is-1)),
    )
