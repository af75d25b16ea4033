-- The messages that items sent, in a world by places.
use Rattle.std.proofs.Common.{◌≡◌, ◌⊎◌, inl, inr, ℕ, List, [], ◌∷◌, ◌++◌, refl, ◌∙◌, ap, subst, arith, Option, Some, None}
use Rattle.std.specs.List.{Contains}
use Rattle.std.specs.Option.{option_to_list}
use Rattle.std.proofs.lemmas.List.Elements.{Contains-append_cases, Contains-push_cases}
use Rattle.cg_types.specs.Text.{ClusterValue}
use Rattle.cg_messages.specs.declared.message.Message.{Message}
use Rattle.cg_places.specs.PlaceWorld.{PlaceWorld}
use Rattle.cg_places.proofs.OnwardLemmas.{Keeps}
use Rattle.cg_places.specs.Step.{SaysSent, IsSentBefore}
use Rattle.cg_world.proofs.SpellingLemmas.{says_on}
use Rattle.cg_audit.specs.Items.{RunItem}
use Rattle.cg_audit.specs.OneRun.{messages_of, WasSent}
use Rattle.cg_audit.proofs.ItemLemmas.{messages_both}

-- The world has each message that these items sent.
abbrev pub AllSaid : PlaceWorld → List RunItem → Type 0
AllSaid w gone = (m : Message) → Contains (messages_of gone) m → (number : ℕ) × SaysSent w number m

-- the number of the message that an item handles
pub sent_before : (w : PlaceWorld) (gone : List RunItem) → AllSaid w gone → (o : Option Message) → WasSent gone o → (number : ℕ) × IsSentBefore w number o
sent_before w gone said None was = (0, tt)
sent_before w gone said (Some m) was = said m was

some_cluster : ClusterValue
some_cluster = record { name = []; partitioner = 0 }

said_stays : (w v : PlaceWorld) → Keeps w v → (number : ℕ) (m : Message) → SaysSent w number m → SaysSent v number m
said_stays w v keeps number m s = record {
  said = s.said;
  is_said = keeps.sent number s.said s.is_said;
  says = says_on some_cluster w.histories v.histories keeps.histories m s.said s.says;
}

nothing : (m : Message) → Contains [] m → ⊥
nothing m c = let none = c.1 in absurd (omega (arith, none))

alone : (i : RunItem) (o : Option Message) → i.sent ≡ o → messages_of (i ∷ []) ≡ option_to_list o
alone i None is = rw is refl
alone i (Some m) is = rw is refl

-- one more item
pub said_more : (w v : PlaceWorld) → Keeps w v → (gone : List RunItem) (i : RunItem) → AllSaid w gone → ((m : Message) → i.sent ≡ Some m → (number : ℕ) × SaysSent v number m) → AllSaid v (gone ++ i ∷ [])
said_more w v keeps gone i all last m c = go (Contains-append_cases (messages_of gone) (messages_of (i ∷ [])) m (subst (λ (ms : List Message). Contains ms m) (messages_both gone (i ∷ [])) c))
  where
    one : (o : Option Message) → i.sent ≡ o → Contains (option_to_list o) m → (number : ℕ) × SaysSent v number m
    one None is c = absurd (nothing m c)
    one (Some x) is c = elim (Contains-push_cases [] x m c) [ inl none ↦ absurd (nothing m none) | inr same ↦ last m (is ∙ ap Some same) ]

    go : Contains (messages_of gone) m ⊎ Contains (messages_of (i ∷ [])) m → (number : ℕ) × SaysSent v number m
    go (inl c) = let s = all m c in (s.0, said_stays w v keeps s.0 m s.1)
    go (inr c) = one i.sent refl (subst (λ (ms : List Message). Contains ms m) (alone i i.sent refl) c)
