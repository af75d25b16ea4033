-- A step answers each kind of event by its kind of reply, and is refused by few faults.
use Rattle.std.proofs.Common.{◌≡◌, ℕ, ◌+◌, Bool, true, false, Result, Ok, Err, refl, ap, subst}
use Rattle.std.specs.Prelude.{nat_lt, if◌then◌else◌}
use Rattle.cg_types.specs.ResultSteps.{then}
use Rattle.cg_types.specs.Answer.{IsRefusal}
use Rattle.cg_types.specs.declared.fault.Fault.{Fault}
use Rattle.cg_types.specs.declared.fault.Fault.TheVariants as fault
use Rattle.cg_types.specs.declared.limits.TheConstants.{NUMBER_LIMIT, MEMBER_LIMIT}
use Rattle.cg_entry.specs.Entry.{newest, has_text, removal_of}
use Rattle.cg_table.specs.Own.{own_entry}
use Rattle.cg_messages.specs.declared.message.Message.TheVariants as message
use Rattle.cg_exchange.specs.Answering.{same_cluster, answer_to_syn}
use Rattle.cg_exchange.specs.Taking.{held_after, taking_ack, taking_ack2}
use Rattle.cg_core.specs.declared.event.Event.{Event}
use Rattle.cg_core.specs.declared.event.Event.TheVariants as event
use Rattle.cg_core.specs.declared.reply.Reply.{Reply}
use Rattle.cg_core.specs.declared.reply.Reply.TheVariants as reply
use Rattle.cg_core.specs.Values.{NodeValue}
use Rattle.cg_core.specs.Step.{node_step, next_of, beating, setting, removing, opening, round_peers, after_taking}
use Rattle.cg_core.specs.Replies.{IsReplyTo, IsDone, IsRound, SendsSyn, SendsAck, IsBoth, IsTook}
use Rattle.cg_engine.specs.Events.{IsGateFault}

kind_kept : {A : Type 0} (P : Reply → Type 0) (due : Result A Fault) (node : A → NodeValue) (said : A → Reply) (m : NodeValue) (r : Reply) → ((a : A) → P (said a))
    → (then) {B = NodeValue × Reply} due (λ a. (node a, said a)) ≡ Ok (m, r) → P r
kind_kept P (Ok a) node said m r each is =
    let both : ◌≡◌ {A = NodeValue × Reply} (node a, said a) (m, r) = cc in
    subst P (ap (λ (p : NodeValue × Reply). p.1) both) (each a)
kind_kept P (Err f) node said m r each is = absurd cc

pub reply_kind : (n : NodeValue) (e : Event) (m : NodeValue) (r : Reply) → node_step n e ≡ Ok (m, r) → IsReplyTo e r
reply_kind n event.Beat m r is = kind_kept IsDone (next_of n) (λ v. beating n) (λ v. reply.Done v) m r (λ v. tt) is
reply_kind n (event.Set key text) m r is = kind_kept IsDone (next_of n) (λ v. setting key text n) (λ v. reply.Done v) m r (λ v. tt) is
reply_kind n (event.Remove key) m r is = kind_kept IsDone (removal_of key (own_entry n.table)) (λ v. removing key n) (λ v. reply.Done v) m r (λ v. tt) is
reply_kind n (event.Tick now words) m r is =
    kind_kept IsRound (next_of n) (λ v. beating n) (λ v. reply.Round (round_peers (beating n) now words) (opening (beating n))) m r (λ v. tt) is
reply_kind n event.Opening m r is =
    let both : ◌≡◌ {A = NodeValue × Reply} (n, reply.Sent (message.Syn (opening n))) (m, r) = cc in
    subst SendsSyn (ap (λ (p : NodeValue × Reply). p.1) both) tt
reply_kind n (event.Syn syn) m r is =
    kind_kept SendsAck (answer_to_syn n.table n.settings.cluster syn) (λ ack. n) (λ ack. reply.Sent (message.Ack ack)) m r (λ ack. tt) is
reply_kind n (event.Ack now ack) m r is =
    kind_kept IsBoth (taking_ack n.table ack) (λ x. after_taking n now x.0 x.2) (λ x. reply.Both x.2 x.1) m r (λ x. tt) is
reply_kind n (event.Ack2 now ack2) m r is =
    kind_kept IsTook (taking_ack2 n.table ack2) (λ x. after_taking n now x.0 x.1) (λ x. reply.Took x.1) m r (λ x. tt) is

-- ---- a step is refused by few faults

module _ (e : Event) where
  chosen : {A : Type 0} (b : Bool) (x : A) (g f : Fault) → IsGateFault e g → (if b then Ok x else Err g) ≡ Err f → IsGateFault e f
  chosen true x g f known is = absurd cc
  chosen false x g f known is =
      let same : g ≡ f = cc in
      subst (IsGateFault e) same known

  refused : {A : Type 0} (b : Bool) (x : A) (g f : Fault) → IsGateFault e g → (if b then Err g else Ok x) ≡ Err f → IsGateFault e f
  refused true x g f known is =
      let same : g ≡ f = cc in
      subst (IsGateFault e) same known
  refused false x g f known is = absurd cc

  fault_kept : {A : Type 0} (due : Result A Fault) (go : A → NodeValue × Reply) (f : Fault) → ((g : Fault) → due ≡ Err g → IsGateFault e g) → (then) due go ≡ Err f → IsGateFault e f
  fault_kept (Ok a) go f each is = absurd cc
  fault_kept (Err g) go f each is =
      let same : g ≡ f = cc in
      subst (IsGateFault e) same (each g refl)

  next_fault : (n : NodeValue) (f : Fault) → next_of n ≡ Err f → IsGateFault e f
  next_fault n f is = chosen (nat_lt (newest (own_entry n.table) + 1) NUMBER_LIMIT) (newest (own_entry n.table) + 1) fault.VersionsSpent f tt is

removal_fault : (n : NodeValue) (key : ℕ) (f : Fault) → removal_of key (own_entry n.table) ≡ Err f → IsGateFault (event.Remove key) f
removal_fault n key f is = go (has_text key (own_entry n.table)) is
  where
    go : (b : Bool) → (if b then next_of n else Err fault.NoSuchKey) ≡ Err f → IsGateFault (event.Remove key) f
    go true spent = next_fault (event.Remove key) n f spent
    go false none =
        let same : fault.NoSuchKey ≡ f = cc in
        subst (IsGateFault (event.Remove key)) same tt

pub step_fault : (n : NodeValue) (e : Event) (f : Fault) → node_step n e ≡ Err f → IsGateFault e f
step_fault n event.Beat f is = fault_kept event.Beat (next_of n) _ f (next_fault event.Beat n) is
step_fault n (event.Set key text) f is = fault_kept (event.Set key text) (next_of n) _ f (next_fault (event.Set key text) n) is
step_fault n (event.Remove key) f is = fault_kept (event.Remove key) (removal_of key (own_entry n.table)) _ f (removal_fault n key) is
step_fault n (event.Tick now words) f is = fault_kept (event.Tick now words) (next_of n) _ f (next_fault (event.Tick now words) n) is
step_fault n event.Opening f is = absurd cc
step_fault n (event.Syn syn) f is =
    fault_kept (event.Syn syn) (answer_to_syn n.table n.settings.cluster syn) _ f (λ g. chosen (event.Syn syn) (same_cluster n.settings.cluster syn.cluster) _ fault.OtherCluster g tt) is
step_fault n (event.Ack now ack) f is =
    fault_kept (event.Ack now ack) (taking_ack n.table ack) _ f (λ g. refused (event.Ack now ack) (nat_lt MEMBER_LIMIT (held_after n.table ack.deltas)) _ fault.TableFull g tt) is
step_fault n (event.Ack2 now ack2) f is =
    fault_kept (event.Ack2 now ack2) (taking_ack2 n.table ack2) _ f (λ g. refused (event.Ack2 now ack2) (nat_lt MEMBER_LIMIT (held_after n.table ack2.deltas)) _ fault.TableFull g tt) is

pub refusal_is_known : (n : NodeValue) (e : Event) (f : Fault) → IsRefusal f (node_step n e) → IsGateFault e f
refusal_is_known n e fault.OutOfMemory refused = tt
refusal_is_known n e f refused = step_fault n e f refused
