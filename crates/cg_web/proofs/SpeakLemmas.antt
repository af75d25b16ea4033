-- A connection that was served from its beginning.
use Rattle.std.proofs.Common.{◌≡◌, ℕ, List, ◌++◌, Option, Result, OnOk, sym, ◌∙◌, ap, subst}
use Rattle.std.specs.Io.KnownBytes.{Appends, Consumes}
use Rattle.http_server.specs.declared.connection.Connection.{Connection}
use Rattle.http_server.specs.declared.state.Config.{Config}
use Rattle.http_server.specs.Connection.{config_of, history}
use Rattle.http_server.specs.Exchange.{Calls, Chain}
use Rattle.http_server.specs.Exchange as exchange
use Rattle.http_server.specs.History.{History, IsServed, IsDone, new_history}
use Rattle.http_server.proofs.Theorems.{always_served}
use Rattle.cg_table.specs.Values.{TableValue}
use Rattle.cg_core.specs.Values.{NodeValue}
use Rattle.cg_web.specs.declared.limits.TheConstants.{LIMITS}
use Rattle.cg_web.specs.Serving.{WebValue, Answers}
use Rattle.cg_web.specs.Requests.{Speaks}

module _ (start : NodeValue) (opening : TableValue) {T E : Type 0} (result : Result T E)
    (unread left written more : Option (List ℕ)) (w v : WebValue) (a b : Connection) where
  pub spoken : history a ≡ new_history → config_of a ≡ LIMITS → config_of b ≡ config_of a
      → ((bytes : List ℕ) × Consumes unread left bytes × ((history b).received ≡ (history a).received ++ bytes))
      → ((bytes : List ℕ) × Appends written more bytes × ((history b).sent ≡ (history a).sent ++ bytes))
      → Calls (Answers start opening) w v (history a).calls (history b).calls
      → OnOk result (IsDone (history b)) → Speaks start opening result unread left written more w v
  spoken fresh limits kept read sent calls done =
      let received : (history b).received ≡ read.0 = read.2 ∙ ap (λ (h : History). h.received ++ read.0) fresh in
      let handed : (history b).sent ≡ sent.0 = sent.2 ∙ ap (λ (h : History). h.sent ++ sent.0) fresh in
      let called : (history b).calls ≡ calls.0 = calls.1 ∙ ap (λ (h : History). h.calls ++ calls.0) fresh in
      record {
        history = history b;
        read = subst (λ (x : List ℕ). Consumes unread left x) (sym received) read.1;
        sent = subst (λ (x : List ℕ). Appends written more x) (sym handed) sent.1;
        served = subst (λ (x : Config). ∥ IsServed x (history b) ∥₁) (kept ∙ limits) (always_served b);
        calls = subst (λ (x : List exchange.Call). Chain (Answers start opening) w x v) (sym called) calls.2;
        done = done;
      }
