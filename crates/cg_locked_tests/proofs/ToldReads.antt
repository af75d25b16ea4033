-- A Set or a Remove that was told is read.
use Rattle.std.proofs.Common.{◌≡◌, ℕ, true, Option, List, ◌++◌, ◌∙◌, sym, ap, subst, append_assoc}
use Rattle.cg_table.specs.Values.{TableValue}
use Rattle.cg_table.specs.Puts.{Put, with_puts, keep_order}
use Rattle.cg_core.specs.declared.reply.Reply.{Reply}
use Rattle.cg_core.specs.declared.reply.Reply.TheVariants as reply
use Rattle.cg_views.specs.Lists.{StartsWith}
use Rattle.cg_views.specs.Reading.{OwnHasFrom}
use Rattle.cg_locked.specs.Entry.{ShowsState}
use Rattle.cg_locked.proofs.Showing.{shown_changes_are_read}

pub starts_on : (xs ys zs : List Put) → StartsWith xs ys → StartsWith ys zs → StartsWith xs zs
starts_on xs ys zs p q = (q.0 ++ p.0, p.1 ∙ ap (λ l. l ++ p.0) q.1 ∙ append_assoc zs q.0 p.0)

pub read_has : (opening : TableValue) (told seen : List Put) (key : ℕ) (text : Option (List ℕ)) (answer : Reply) (version : ℕ) (s : TableValue) → ShowsState told opening.own key text answer → answer ≡ reply.Done version
    → StartsWith seen told → keep_order opening seen ≡ true → s ≡ with_puts opening seen → OwnHasFrom s key version
read_has opening told seen key text answer version s shows is begins order read =
    let its : ShowsState told opening.own key text (reply.Done version) = subst (λ (a : Reply). ShowsState told opening.own key text a) is shows in
    subst (λ (t : TableValue). OwnHasFrom t key version) (sym read) (shown_changes_are_read opening told seen key version text its begins order)
