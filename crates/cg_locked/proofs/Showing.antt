-- The puts that are appended to the views, and those that are published.
use Rattle.std.proofs.Common.{arith, length-append, ◌≤◌, ◌≡◌, ℕ, ◌+◌, List, [], ◌∷◌, ◌++◌, length, take, refl, sym, ap, ◌∙◌, subst}
use Rattle.std.specs.Prelude.{Result, Ok, Err, IfOk, IfSome, Option, Some, None}
use mathlib.Core.List.{IsPrefix}
use Rattle.std.specs.FinMap as map
use Rattle.std.proofs.lemmas.List.{append-nil, take-append-le}
use Rattle.cg_types.specs.declared.fault.Fault.{Fault}
use Rattle.cg_types.specs.Answer.{IsRefusal}
use Rattle.cg_types.specs.declared.limits.TheConstants.{MEMBER_LIMIT}
use Rattle.cg_table.specs.Values.{TableValue}
use Rattle.cg_table.specs.Puts.{Put, puts, with_puts, keep_order}
use Rattle.cg_table.proofs.PutsLemmas.{with_puts-append, keep_order-rest}
use Rattle.cg_core.specs.declared.event.Event.{Event}
use Rattle.cg_core.specs.declared.event.Event.TheVariants as event
use Rattle.cg_core.specs.declared.reply.Reply.{Reply}
use Rattle.cg_core.specs.declared.reply.Reply.TheVariants as reply
use Rattle.cg_core.specs.Values.{NodeValue, IsSmall}
use Rattle.cg_core.specs.Step.{node_step}
use Rattle.cg_core.specs.Laws.{PutsIts}
use Rattle.cg_core.proofs.NodeLaws.{sets_put_their_text, removals_put_their_tombstone}
use Rattle.cg_history.specs.declared.item.Item.{Item}
use Rattle.cg_history.specs.declared.item.Receipt.{Receipt}
use Rattle.cg_history.specs.Items.{puts_of}
use Rattle.cg_history.specs.History.{HistoryValue, Replays, IsReplayed, IsFoldOf, count_of, apply, unfolded}
use Rattle.cg_history.proofs.Folding.{all_counted}
use Rattle.cg_history.proofs.Replaying.{replays_more}
use Rattle.cg_history.proofs.OneMore.{each_event_makes_one_record}
use Rattle.cg_history.proofs.PutsOfRecords.{puts_of-append, front_fits, own_stays, node_small}
use Rattle.cg_views.specs.Lists.{MayFollow}
use Rattle.cg_views.specs.Reading.{Has, HasState}
use Rattle.cg_views.proofs.Reading.{told_sets_are_read}
use Rattle.cg_locked.specs.Seat.{SeatState}
use Rattle.cg_locked.specs.Entry.{Answer, ShowsChange, ShownChangesAreRead, IsEntered}

-- ---- puts that may be appended

-- the puts of the next record may follow those of the records before it
pub next_may_follow : (h : HistoryValue) (k : ℕ) (all ps : List Put) → IsReplayed h → all ≡ puts_of (take k h.records) → puts_of (take (k + 1) h.records) ≡ puts_of (take k h.records) ++ ps → MayFollow (with_puts h.base.table all) ps
next_may_follow h k all ps i is next =
    let fits = front_fits (k + 1) h i in
    let both : puts_of (take (k + 1) h.records) ≡ all ++ ps = next ∙ ap (λ qs. qs ++ ps) (sym is) in
    record {
      order = keep_order-rest h.base.table all ps (ap (keep_order h.base.table) (sym both) ∙ fits.order);
      room = subst (λ (t : TableValue). map.len t.entries ≤ MEMBER_LIMIT) (ap (with_puts h.base.table) both ∙ with_puts-append h.base.table all ps) fits.room;
    }

-- ---- properties that one more record keeps

-- the start, the prefix of all records that was appended, and where all lead; there is one record more
pub record IsKept (begun : NodeValue) (all more : List Item) (h after : HistoryValue) (appended : ℕ) : Type 0 where
  pub start : after.start ≡ h.start
  pub folded : after.folded ≡ h.folded
  pub count : count_of after ≡ count_of h + 1
  pub long : length after.records ≡ length h.records + 1
  pub front : take (after.folded + appended) more ≡ take (h.folded + appended) all
  pub led : Replays begun more after.node

module _ (start : NodeValue) (all more : List Item) (h : HistoryValue) (caller : ℕ) (e : Event) (after : HistoryValue) (q : Receipt) (fold : IsFoldOf all h) (led : Replays start all h.node)
    (is : apply h caller e ≡ Ok (after, q)) (whole : apply (unfolded all h) caller e ≡ Ok (unfolded more after, q)) where
  pub kept : (appended : ℕ) → appended ≤ length h.records → IsKept start all more h after appended
  kept appended few =
      let one = each_event_makes_one_record h caller e after q is in
      let all_one = each_event_makes_one_record (unfolded all h) caller e (unfolded more after) q whole in
      let r : Item = record { caller = caller; event = e; reply = all_one.answer; puts = puts h.node.table all_one.node.table } in
      let folded = one.folded in
      let count = all_counted all h fold in
      let long : length after.records ≡ length h.records + 1 =
      ap length one.records ∙ length-append h.records (record { caller = caller; event = e; reply = one.answer; puts = puts h.node.table one.node.table } ∷ []) in
      let on : Replays start (all ++ r ∷ []) all_one.node = replays_more start all h.node caller e (all_one.node, all_one.answer) led all_one.step in record {
        start = one.start;
        folded = folded;
        count = omega (arith, folded, long);
        long = long;
        front = ap (λ (n : ℕ). take (n + appended) more) folded ∙ ap (take (h.folded + appended)) all_one.records ∙ take-append-le (h.folded + appended) all (r ∷ []) (omega (arith, count, few));
        led = subst (λ (n : NodeValue). Replays start more n) (sym all_one.led) (subst (λ (l : List Item). Replays start l all_one.node) (sym all_one.records) on);
      }

-- ---- the puts that are published of a Set or a Remove

-- the puts of the last record are among those of all
last_stands : (rs : List Item) (r : Item) (p : Put) → r.puts ≡ p ∷ [] → Has (puts_of (rs ++ r ∷ [])) p
last_stands rs r p is = (puts_of rs, [], puts_of-append rs (r ∷ []) ∙ ap (λ ps. puts_of rs ++ ps) (append-nil r.puts ∙ is))

-- if the last record is of a Set or a Remove, all puts show it
change_shown : (n : NodeValue) (e : Event) (x : NodeValue × Reply) (rs : List Item) (r : Item) → IsSmall n → node_step n e ≡ Ok x → r.puts ≡ puts n.table x.0.table → ShowsChange (puts_of (rs ++ r ∷ [])) n.table.own e x.1
change_shown n (event.Set key text) x rs r small step is =
    let its : PutsIts key (Some text) n x.0 x.1 = sets_put_their_text n key text x.0 x.1 small step in
    (its.version, its.told, record { entry = _; stands = last_stands rs r _ (is ∙ its.only); given = its.given })
change_shown n (event.Remove key) x rs r small step is =
    let its : PutsIts key None n x.0 x.1 = removals_put_their_tombstone n key x.0 x.1 small step in
    (its.version, its.told, record { entry = _; stands = last_stands rs r _ (is ∙ its.only); given = its.given })
change_shown n event.Beat x rs r small step is = tt
change_shown n (event.Tick now words) x rs r small step is = tt
change_shown n event.Opening x rs r small step is = tt
change_shown n (event.Syn m) x rs r small step is = tt
change_shown n (event.Ack now m) x rs r small step is = tt
change_shown n (event.Ack2 now m) x rs r small step is = tt

-- the puts of all records show the change of the last one
puts_show : (h : HistoryValue) (caller : ℕ) (e : Event) (after : HistoryValue) (q : Receipt) → IsReplayed h → apply h caller e ≡ Ok (after, q) → ShowsChange (puts_of after.records) h.base.table.own e q.reply
puts_show h caller e after q i is =
    let one = each_event_makes_one_record h caller e after q is in
    let r : Item = record { caller = caller; event = e; reply = one.answer; puts = puts h.node.table one.node.table } in
    let shown = change_shown h.node e (one.node, one.answer) h.records r (node_small h i) one.step refl in
    let at_base : ShowsChange (puts_of (h.records ++ r ∷ [])) h.base.table.own e one.answer = subst (λ own. ShowsChange (puts_of (h.records ++ r ∷ [])) own e one.answer) (own_stays h i) shown in
    let replied : one.answer ≡ q.reply = sym (ap (λ (p : Receipt). p.reply) one.receipt) in
    subst (λ a. ShowsChange (puts_of after.records) h.base.table.own e a) replied (subst (λ rs. ShowsChange (puts_of rs) h.base.table.own e one.answer) (sym one.records) at_base)

same_done : (v w : ℕ) → reply.Done v ≡ reply.Done w → v ≡ w
same_done v w e = cc

-- a change that was told is read
pub shown_changes_are_read : ShownChangesAreRead
shown_changes_are_read opening told read key version text shows begins order =
    let same : shows.0 ≡ version = sym (same_done version shows.0 shows.1) in
    let has : HasState told opening.own key text version = subst (λ (v : ℕ). HasState told opening.own key text v) same shows.2 in
    told_sets_are_read opening told read key text version order begins has

-- ---- entries

module _ (start : NodeValue) (seat : SeatState) (e : Event) (seen : List Item) (h : HistoryValue) (whole : h.folded ≡ 0) (starts : h.base ≡ start) (replayed : IsReplayed h) (begins : IsPrefix seat.seen h.records) (long : seat.amount ≤ length h.records) where
  -- an event that was entered, with the puts that were published
  pub entry_done : (after : HistoryValue) (q : Receipt) (told : Option (List Put)) → apply h seat.caller e ≡ Ok (after, q) → seen ≡ after.records → IfSome told (λ t. t ≡ puts_of after.records) → IsEntered start seat e seen (Ok (q, told))
  entry_done after q told is are all = record { before = h; after = after; whole = whole; starts = starts; replayed = replayed; begins = begins; long = long; entered = is; seen_are = are; told = all }

  -- an event that was refused
  pub entry_refused : (fault : Fault) → IsRefusal fault (apply h seat.caller e) → seen ≡ h.records → IsEntered start seat e seen (Err fault)
  entry_refused fault is are = record { before = h; after = h; whole = whole; starts = starts; replayed = replayed; begins = begins; long = long; entered = is; seen_are = are; told = tt }

-- the puts published with an entry show its change
pub entry_shows : (start : NodeValue) (seat : SeatState) (e : Event) (seen : List Item) (result : Result Answer Fault) → IsEntered start seat e seen result → (opening : TableValue) → start.table ≡ opening → IfOk result (λ r. IfSome r.1 (λ t. ShowsChange t opening.own e r.0.reply))
entry_shows start seat e seen (Err fault) entry opening at = tt
entry_shows start seat e seen (Ok (q, None)) entry opening at = tt
entry_shows start seat e seen (Ok (q, Some t)) entry opening at =
    let shown = puts_show entry.before seat.caller e entry.after q entry.replayed entry.entered in
    let at_start : ShowsChange (puts_of entry.after.records) start.table.own e q.reply = subst (λ (n : NodeValue). ShowsChange (puts_of entry.after.records) n.table.own e q.reply) entry.starts shown in
    subst (λ ps. ShowsChange ps opening.own e q.reply) (sym entry.told) (subst (λ (x : TableValue). ShowsChange (puts_of entry.after.records) x.own e q.reply) at at_start)
