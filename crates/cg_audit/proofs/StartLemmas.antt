-- A history is a life of its base's endpoint.
use Rattle.std.proofs.Common.{◌≡◌, ℕ, List, [], ◌∷◌, sym, ap, ◌∙◌}
use Rattle.cg_core.specs.Values.{NodeValue}
use Rattle.cg_core.proofs.NodeLaws.{only_own_events_change_the_own_entry}
use Rattle.cg_history.specs.declared.item.Item.{Item}
use Rattle.cg_history.specs.History.{HistoryValue, Replays, IsReplayed}
use Rattle.cg_audit.specs.Items.{IsLife}

-- records lead to a node of the same endpoint
own_stays : (b : NodeValue) (rs : List Item) (n : NodeValue) → Replays b rs n → n.table.own ≡ b.table.own
own_stays b [] n h = ap (λ (m : NodeValue). m.table.own) (sym h)
own_stays b (r ∷ rs) n h = own_stays h.0.0 rs n h.3 ∙ (only_own_events_change_the_own_entry b r.event h.0.0 h.0.1 h.1).0

pub life_of_base : (e : ℕ) (h : HistoryValue) → IsReplayed h → h.base.table.own ≡ e → IsLife e h
life_of_base e h is own = record { own = sym (own_stays h.start is.front h.base is.came) ∙ own; replayed = is }
