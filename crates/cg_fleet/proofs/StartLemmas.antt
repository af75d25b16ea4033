-- Lemmas on nodes that start, and on what one node does.
use Rattle.std.proofs.Common.{ℕ, ◌+◌, ◌≡◌, ◌<◌, List, [], ◌∷◌, ◌++◌, Ok, refl, sym, subst, length, get_or, set, add-one}
use Rattle.std.proofs.lemmas.Option.{slice_get_read}
use Rattle.cg_table.specs.Own.{own_entry}
use Rattle.cg_testing.specs.Nearest.{nearest_number}
use Rattle.cg_core.specs.declared.event.Event.{Event}
use Rattle.cg_core.specs.declared.reply.Reply.{Reply}
use Rattle.cg_core.specs.SettingsValues.{SettingsValue}
use Rattle.cg_core.specs.Values.{NodeValue}
use Rattle.cg_core.specs.Step.{node_step}
use Rattle.cg_fleet.specs.Starting.{HasStarted, HaveJoined, Joins, Restarts, SetsKey, SetsKeys, Steps}

-- one more key is set
pub keys_on : (key : ℕ) (n m o : NodeValue) → SetsKeys key n m → SetsKey (key + 1) m o → SetsKeys (key + 1) n o
keys_on key n m o were is =
    (let P : ℕ → Type 0 = λ k. SetsKeys k n o
    in let Q : ℕ → Type 0 = λ k. SetsKey k m o
    in subst P (sym (add-one key)) (record { mid = m; first = were; second = subst Q (add-one key) is }))

-- one more node joins
pub joined_on : (settings held : SettingsValue) (count : ℕ) (ns ms : List NodeValue)
    → HaveJoined count settings ns → held ≡ settings → Joins held ns ms → HaveJoined (count + 1) settings ms
joined_on settings held count ns ms were same is =
    (let P : ℕ → Type 0 = λ k. HaveJoined k settings ms
    in let Q : SettingsValue → Type 0 = λ s. Joins s ns ms
    in subst P (sym (add-one count)) (record { before = ns; were = were; joins = subst Q same is }))

pub joins_by : (settings : SettingsValue) (ns ms : List NodeValue) (n : NodeValue) (place generation : ℕ)
    → HasStarted settings place generation n → generation ≡ 1 → place ≡ length ns → ms ≡ ns ++ n ∷ [] → Joins settings ns ms
joins_by settings ns ms n place generation started first is are = record {
  node = n;
  has_started =
      (let P : ℕ → Type 0 = λ k. HasStarted settings k 1 n
      in let Q : ℕ → Type 0 = λ k. HasStarted settings place k n
      in subst P is (subst Q first started));
  are = are;
}

pub steps_by : (place : ℕ) (e : Event) (ns : List NodeValue) (n m : NodeValue) (r : Reply)
    → place < length ns → n ≡ get_or ns place n → node_step n e ≡ Ok (m, r) → Steps place e ns r (set ns place m)
steps_by place e ns n m r within is step = record {
  before = n;
  was = slice_get_read ns (length ns) place n refl within is;
  after = m;
  step = step;
  are = refl;
}

pub restarts_by : (settings : SettingsValue) (place at generation : ℕ) (ns : List NodeValue) (n m : NodeValue)
    → place < length ns → at ≡ place → n ≡ get_or ns at n → HasStarted settings place generation m
    → generation ≡ nearest_number ((own_entry n.table).generation + 1) → Restarts settings place ns (set ns at m)
restarts_by settings place at generation ns n m within there is started next =
    (let P : ℕ → Type 0 = λ k. n ≡ get_or ns k n → Restarts settings place ns (set ns k m)
    in let Q : ℕ → Type 0 = λ k. HasStarted settings place k m
    in subst P (sym there) (λ (was : n ≡ get_or ns place n). record {
      before = n;
      was = slice_get_read ns (length ns) place n refl within was;
      node = m;
      has_started = subst Q next started;
      are = refl;
    }) is)
