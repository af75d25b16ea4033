-- Puts of records, and the nodes that the records lead to.
use Rattle.std.proofs.Common.{◌≡◌, ℕ, zero, suc, ◌+◌, ◌<◌, ◌≤◌, true, List, [], ◌∷◌, ◌++◌, length, take, refl, sym, ap, ◌∙◌, subst, append_assoc, arith, Ok}
use Rattle.std.specs.Prelude.{slice_index_or}
use Rattle.std.specs.FinMap as map
use Rattle.std.proofs.lemmas.List.{append-nil}
use Rattle.cg_types.specs.declared.limits.TheConstants.{MEMBER_LIMIT}
use Rattle.cg_table.specs.Values.{TableValue}
use Rattle.cg_table.specs.Puts.{Put, puts, with_puts, keep_order}
use Rattle.cg_table.proofs.PutsLemmas.{with_puts-append, keep_order-append}
use Rattle.cg_core.specs.declared.event.Event.{Event}
use Rattle.cg_core.specs.declared.reply.Reply.{Reply}
use Rattle.cg_core.specs.Values.{NodeValue, IsSmall}
use Rattle.cg_core.specs.Step.{node_step, replay, on_step, with_reply}
use Rattle.cg_core.specs.Laws.{ArePuts}
use Rattle.cg_core.proofs.NodeLaws.{puts_keep_their_order, nodes_stay_small}
use Rattle.cg_history.specs.declared.item.Item.{Item}
use Rattle.cg_history.specs.Items.{puts_of, events_of, replies_of}
use Rattle.cg_history.specs.History.{HistoryValue, Replays, IsReplayed}
use Rattle.cg_history.proofs.Replaying.{start_small}
use Rattle.cg_history.specs.Laws.{RecordsReplay, PutsLead, PutsOfRecordsLead}

-- ---- the events of records

replayed : (b : NodeValue) (e : Event) (answer : Reply) (es : List Event) (answers : List Reply) (n : NodeValue) (x : NodeValue × Reply) → node_step b e ≡ Ok x → answer ≡ x.1 → replay x.0 es ≡ Ok (n, answers)
    → replay b (e ∷ es) ≡ Ok (n, answer ∷ answers)
replayed b e answer es answers n x step told rest = ap (λ s. on_step s (λ m. replay m es)) step ∙ ap (with_reply x.1) rest ∙ ap (λ a. Ok (n, a ∷ answers)) (sym told)

pub records_replay : RecordsReplay
records_replay b [] n h = ap (λ m. Ok (m, [])) h
records_replay b (r ∷ rs) n h = replayed b r.event r.reply (events_of rs) (replies_of rs) n h.0 h.1 (ap (λ i. i.reply) h.2) (records_replay h.0.0 rs n h.3)

-- ---- the puts of records

-- the puts of records joined
pub puts_of-append : (rs qs : List Item) → puts_of (rs ++ qs) ≡ puts_of rs ++ puts_of qs
puts_of-append [] qs = refl
puts_of-append (r ∷ rs) qs = ap (λ ps. r.puts ++ ps) (puts_of-append rs qs) ∙ sym (append_assoc r.puts (puts_of rs) (puts_of qs))

-- the puts of one record, and of the records that follow it from the node to which it leads
lead_on : (b m n : NodeValue) (ps : List Put) (rs : List Item) → ps ≡ puts b.table m.table → ArePuts b.table m.table → PutsLead m rs n → (with_puts b.table (ps ++ puts_of rs) ≡ n.table) × (keep_order b.table (ps ++ puts_of rs) ≡ true)
lead_on b m n ps rs is are rest =
    let at : with_puts b.table ps ≡ m.table = ap (with_puts b.table) is ∙ are.lead in (
      with_puts-append b.table ps (puts_of rs) ∙ ap (λ t. with_puts t (puts_of rs)) at ∙ rest.lead,
      keep_order-append b.table ps (puts_of rs) (ap (keep_order b.table) is ∙ are.order) (ap (λ t. keep_order t (puts_of rs)) at ∙ rest.order),
    )

pub puts_of_records_lead : PutsOfRecordsLead
puts_of_records_lead b [] n small h = record { lead = ap (λ m. m.table) h; order = refl; small = subst IsSmall h small }
puts_of_records_lead b (r ∷ rs) n small h =
    let x = h.0 in
    let next = nodes_stay_small.steps b r.event x.0 x.1 small h.1 in
    let rest = puts_of_records_lead x.0 rs n next h.3 in
    let on = lead_on b x.0 n r.puts rs (ap (λ i. i.puts) h.2) (puts_keep_their_order b r.event x.0 x.1 small h.1) rest in
    record { lead = on.0; order = on.1; small = rest.small }

-- the base is a node that a member may be
pub base_small : (h : HistoryValue) → IsReplayed h → IsSmall h.base
base_small h i = (puts_of_records_lead h.start i.front h.base (start_small h.start i.begun) i.came).small

-- ---- prefixes of the records

-- a prefix of the records leads to a node
pub replays_front : (k : ℕ) (b : NodeValue) (rs : List Item) (n : NodeValue) → Replays b rs n → (m : NodeValue) × Replays b (take k rs) m
replays_front zero b rs n h = (b, refl)
replays_front (suc k) b [] n h = (b, refl)
replays_front (suc k) b (r ∷ rs) n h = let t = replays_front k h.0.0 rs n h.3 in (t.0, (h.0, h.1, h.2, t.1))

puts_front : (k : ℕ) (rs : List Item) (r : Item) → k < length rs → r ≡ slice_index_or rs k r → puts_of (take (suc k) rs) ≡ puts_of (take k rs) ++ r.puts
puts_front k [] r less is = absurd (omega arith)
puts_front zero (x ∷ xs) r less is = append-nil x.puts ∙ ap (λ (y : Item). y.puts) (sym is)
puts_front (suc k) (x ∷ xs) r less is = ap (λ ps. x.puts ++ ps) (puts_front k xs r (omega arith) is) ∙ sym (append_assoc x.puts (puts_of (take k xs)) r.puts)

-- the puts of one record more
pub puts_next : (k : ℕ) (rs : List Item) (r : Item) → k < length rs → r ≡ slice_index_or rs k r → puts_of (take (k + 1) rs) ≡ puts_of (take k rs) ++ r.puts
puts_next k rs r less is = let one : k + 1 ≡ suc k = omega arith in ap (λ (n : ℕ). puts_of (take n rs)) one ∙ puts_front k rs r less is

-- the puts of a prefix keep their order, and the table to which they lead has room
pub record Fits (t : TableValue) (ps : List Put) : Type 0 where
  pub order : keep_order t ps ≡ true
  pub room : map.len (with_puts t ps).entries ≤ MEMBER_LIMIT

pub front_fits : (k : ℕ) (h : HistoryValue) → IsReplayed h → Fits h.base.table (puts_of (take k h.records))
front_fits k h i =
    let front = replays_front k h.base h.records h.node i.replays in
    let led = puts_of_records_lead h.base (take k h.records) front.0 (base_small h i) front.1 in
    record { order = led.order; room = subst (λ (t : TableValue). map.len t.entries ≤ MEMBER_LIMIT) (sym led.lead) led.small.few }

-- the node has the own endpoint that the history began with
pub own_stays : (h : HistoryValue) → IsReplayed h → h.node.table.own ≡ h.base.table.own
own_stays h i = sym (ap (λ (t : TableValue). t.own) (puts_of_records_lead h.base h.records h.node (base_small h i) i.replays).lead)

-- the node is one that a member may be
pub node_small : (h : HistoryValue) → IsReplayed h → IsSmall h.node
node_small h i = (puts_of_records_lead h.base h.records h.node (base_small h i) i.replays).small
