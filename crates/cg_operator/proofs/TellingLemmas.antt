-- The answer to a change of a key, also where no memory is found for it.
use Rattle.std.proofs.Common.{◌≡◌, ℕ, List, Option, Some, None, Result, Ok, Err, OnErr, refl, sym, subst}
use Rattle.cg_table.specs.Puts.{Put}
use Rattle.cg_core.specs.declared.reply.Reply.{Reply}
use Rattle.cg_core.specs.declared.reply.Reply.TheVariants as reply
use Rattle.cg_core.specs.Replies.{IsDone}
use Rattle.cg_views.specs.Lists.{StartsWith}
use Rattle.cg_text.specs.Printed.{version_line}
use Rattle.cg_operator.specs.Shown.{unpublished_line}
use Rattle.cg_operator.specs.Doing.{TellsChange}

-- some text tells of the change
abbrev pub Told : ℕ → Option (List Put) → List Put → List Put → Type 0
Told version told p q = (text : List ℕ) × TellsChange version told p q text

on_err : {T E : Type 0} (r : Result T E) (P : Type 0) → P → OnErr r P
on_err (Ok x) P p = tt
on_err (Err e) P p = p

pub told_some : {T E : Type 0} (r : Result T E) (version : ℕ) (told : Option (List Put)) (t p q : List Put)
    → told ≡ Some t → StartsWith q t → OnErr r (Told version told p q)
told_some r version told t p q is later =
    on_err r (Told version told p q)
    (subst (λ (o : Option (List Put)). Told version o p q) (sym is) (version_line version, (later, refl)))

pub told_none : {T E : Type 0} (r : Result T E) (version : ℕ) (told : Option (List Put)) (p q : List Put)
    → told ≡ None → q ≡ p → OnErr r (Told version told p q)
told_none r version told p q is same =
    on_err r (Told version told p q)
    (subst (λ (o : Option (List Put)). Told version o p q) (sym is) (unpublished_line version, (same, refl)))

-- the version of a reply that has one
pub has_version : (last : Option Reply) (answer : Reply) → last ≡ Some answer → IsDone answer → (version : ℕ) × (last ≡ Some (reply.Done version))
has_version last (reply.Done version) is done = (version, is)
has_version last (reply.Round peers syn) is done = absurd done
has_version last (reply.Sent m) is done = absurd done
has_version last (reply.Both outcomes ack2) is done = absurd done
has_version last (reply.Took outcomes) is done = absurd done
