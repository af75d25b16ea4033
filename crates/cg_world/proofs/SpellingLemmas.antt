-- The nodes that run spell the places of the actions, step by step.
use Rattle.std.proofs.Common.{◌≡◌, ◌≢◌, ◌+◌, ℕ, zero, suc, List, [], ◌∷◌, ◌++◌, length, refl, sym, ◌∙◌, ap, subst, Bool, true, false, Option, Some, None}
use Rattle.std.specs.Prelude.{⊤, cond, is_some, nat_eq, slice_get}
use Rattle.std.specs.Option.{option_map}
use Rattle.std.specs.Ordering.{nat_cmp}
use Rattle.std.specs.Cmp.{nat_cmp_total}
use Rattle.std.specs.FinMap as map
use Rattle.std.specs.FinMap.{get-insert, len-insert, get-empty, len-empty, same_map, nat_cmp-IsAntisymmetric}
use Rattle.cg_types.specs.Text.{ClusterValue}
use Rattle.cg_entry.specs.Values.{EntryValue}
use Rattle.cg_entry.specs.History.{at_place}
use Rattle.cg_table.specs.Values.{Entries}
use Rattle.cg_messages.specs.declared.message.Message.{Message}
use Rattle.cg_messages.specs.declared.message.Message.TheVariants as message
use Rattle.cg_places.specs.PlaceMessages.{PlaceMessage, Syn, Ack, Ack2}
use Rattle.cg_places.specs.MessageSpelling.{SpellsMessage}
use Rattle.cg_places.specs.MessageLaws.{Says}
use Rattle.cg_core.specs.SettingsValues.{SettingsValue}
use Rattle.cg_core.specs.Values.{NodeValue}
use Rattle.cg_places.specs.Step.{IsSent}
use Rattle.cg_places.specs.PlaceWorld.{PlaceWorld, nobody}
use Rattle.cg_places.specs.Spelling.{SpellsNodes, StaySpelled, IsReplaced}
use Rattle.cg_places.specs.Laws.{IsWorld, IsWithinLimits}
use Rattle.cg_world.specs.World.{WorldValue, new_world, tables_of, with_node}
use Rattle.cg_world.specs.WorldLaws.{AllSent, IsNodeAt, SpellsWorld}
use Rattle.cg_places.proofs.PutLemmas.{same_number, test_same, test_other}
use Rattle.cg_places.proofs.GrowthLemmas.{AllContinue, message_stays}
use Rattle.cg_places.proofs.WorldLemmas.{IsSound, nobody_sound}
use Rattle.cg_places.proofs.OwnerLemmas.{KnowsOwners, nobody_knows, same_test}
use Rattle.cg_places.proofs.PlaceLaws.{world_is}
use Rattle.cg_places.proofs.LimitLemmas.{nobody_limited}
use Rattle.cg_places.proofs.FollowLemmas.{spelling_stays}

-- ---- a node that is replaced

abbrev NodeMap : Type 0
NodeMap = map.FinMap nat_cmp NodeValue

pub nodes_with : (m : NodeMap) (k : ℕ) (n : NodeValue) (q : ℕ) → map.get (map.insert m k n) q ≡ cond (nat_eq q k) (Some n) (map.get m q)
nodes_with m k n q = get-insert nat_cmp_total m k n q ∙ ap (λ b. cond b (Some n) (map.get m q)) (same_test q k)

pub node_here : (m : NodeMap) (k : ℕ) (n : NodeValue) → map.get (map.insert m k n) k ≡ Some n
node_here m k n = nodes_with m k n k ∙ ap (λ b. cond b (Some n) (map.get m k)) (test_same k)

pub node_elsewhere : (m : NodeMap) (k : ℕ) (n : NodeValue) (q : ℕ) → q ≢ k → map.get (map.insert m k n) q ≡ map.get m q
node_elsewhere m k n q apart = nodes_with m k n q ∙ ap (λ b. cond b (Some n) (map.get m q)) (test_other q k apart)

-- a node that is put where it is
put_itself : (m : NodeMap) (k : ℕ) (n : NodeValue) → map.get m k ≡ Some n → map.insert m k n ≡ m
put_itself m k n e = same_map nat_cmp_total nat_cmp-IsAntisymmetric (map.insert m k n) m (λ q. nodes_with m k n q ∙ go q (nat_eq q k) refl)
  where
    go : (q : ℕ) (b : Bool) → nat_eq q k ≡ b → cond b (Some n) (map.get m q) ≡ map.get m q
    go q true t = sym (ap (map.get m) (same_number q k t) ∙ e)
    go q false t = refl

pub node_itself : (c : WorldValue) (node : ℕ) (n : NodeValue) → map.get c.nodes node ≡ Some n → with_node c node n ≡ c
node_itself c node n e = ap (λ (m : NodeMap). record { settings = c.settings; nodes = m; sent = c.sent }) (put_itself c.nodes node n e)

abbrev pub entries_in : NodeValue → Entries
entries_in n = n.table.entries

pub replaced : (c : WorldValue) (node : ℕ) (n : NodeValue) → IsReplaced (tables_of c) (tables_of (with_node c node n)) node n.table.entries
replaced c node n = record {
  here = ap (option_map entries_in) (node_here c.nodes node n);
  elsewhere = λ other apart. ap (option_map entries_in) (node_elsewhere c.nodes node n other apart);
}

pub len_with : (c : WorldValue) (node : ℕ) (n : NodeValue) (b : Bool) → is_some (map.get c.nodes node) ≡ b → map.len (map.insert c.nodes node n) ≡ cond b (map.len c.nodes) (map.len c.nodes + 1)
len_with c node n b e = len-insert nat_cmp_total c.nodes node n ∙ ap (λ (b : Bool). cond b (map.len c.nodes) (map.len c.nodes + 1)) e

-- ---- messages

module _ (cluster : ClusterValue) (old new : ℕ → List EntryValue) (on : AllContinue old new) where
  spells_on : (m : Message) (said : PlaceMessage) → Says old m said → SpellsMessage new said m
  spells_on (message.Syn syn) (Syn places) s = let st : StaySpelled old new = spelling_stays old new on in record { rise = s.spells.rise; digests = st.digests syn.digests places s.stands s.spells.digests }
  spells_on (message.Ack ack) (Ack asks spans) s =
      let st : StaySpelled old new = spelling_stays old new on in
      record {
        requests_rise = s.spells.requests_rise;
        deltas_rise = s.spells.deltas_rise;
        requests = st.asks ack.requests asks s.stands.0 s.spells.requests;
        deltas = st.spans ack.deltas spans s.stands.1 s.spells.deltas;
      }
  spells_on (message.Ack2 ack2) (Ack2 spans) s = let st : StaySpelled old new = spelling_stays old new on in record { rise = s.spells.rise; deltas = st.spans ack2.deltas spans s.stands s.spells.deltas }
  spells_on (message.Syn syn) (Ack asks spans) s = absurd s.spells
  spells_on (message.Syn syn) (Ack2 spans) s = absurd s.spells
  spells_on (message.Ack ack) (Syn places) s = absurd s.spells
  spells_on (message.Ack ack) (Ack2 spans) s = absurd s.spells
  spells_on (message.Ack2 ack2) (Syn places) s = absurd s.spells
  spells_on (message.Ack2 ack2) (Ack asks spans) s = absurd s.spells

  pub says_on : (m : Message) (said : PlaceMessage) → Says old m said → Says new m said
  says_on m said s = record { spells = spells_on m said s; stands = message_stays old new on said s.stands }

  -- messages that were sent go on to be what they say
  pub all_stay : (ms : List Message) (more : List PlaceMessage) → AllSent cluster old ms more → AllSent cluster new ms more
  all_stay [] [] a = tt
  all_stay [] (said ∷ more) a = a
  all_stay (m ∷ ms) [] a = a
  all_stay (m ∷ ms) (said ∷ more) a = (record { says = says_on m said a.0.says; names = a.0.names }, all_stay ms more a.1)

module _ (cluster : ClusterValue) (histories : ℕ → List EntryValue) where
  pub all_push : (ms : List Message) (more : List PlaceMessage) (m : Message) (said : PlaceMessage) → AllSent cluster histories ms more → IsSent cluster histories m said → AllSent cluster histories (ms ++ m ∷ []) (more ++ said ∷ [])
  all_push [] [] m said a s = (s, tt)
  all_push [] (x ∷ more) m said a s = absurd a
  all_push (y ∷ ms) [] m said a s = absurd a
  all_push (y ∷ ms) (x ∷ more) m said a s = (a.0, all_push ms more m said a.1 s)

  -- both or none
  abbrev pub BothSent : Option Message → Option PlaceMessage → Type 0
  BothSent None None = ⊤
  BothSent None (Some said) = ⊥
  BothSent (Some m) None = ⊥
  BothSent (Some m) (Some said) = IsSent cluster histories m said

  got_both : (ms : List Message) (more : List PlaceMessage) → AllSent cluster histories ms more → (k : ℕ) → BothSent (slice_get ms k) (slice_get more k)
  got_both [] [] a k = tt
  got_both [] (x ∷ more) a k = absurd a
  got_both (y ∷ ms) [] a k = absurd a
  got_both (y ∷ ms) (x ∷ more) a zero = a.0
  got_both (y ∷ ms) (x ∷ more) a (suc k) = got_both ms more a.1 k

  pub both_at : (ms : List Message) (more : List PlaceMessage) → AllSent cluster histories ms more → (number : ℕ) → BothSent (at_place ms number) (at_place more number)
  both_at ms more a zero = tt
  both_at ms more a (suc k) = got_both ms more a k

-- ---- properties that are kept

-- the nodes go on so, with one of them replaced
pub node_spells : (c : WorldValue) (w v : PlaceWorld) (node : ℕ) (n : NodeValue) → SpellsWorld c w → SpellsNodes (tables_of (with_node c node n)) v → AllContinue w.histories v.histories → v.sent ≡ w.sent
    → IsNodeAt c.settings node n → map.len (map.insert c.nodes node n) ≡ length v.owners → SpellsWorld (with_node c node n) v
node_spells c w v node n p tables on same at many = record {
  tables = tables;
  messages = subst (AllSent c.settings.cluster v.histories c.sent) (sym same) (all_stay c.settings.cluster w.histories v.histories on c.sent w.sent p.messages);
  each = λ q m e. go q m (nat_eq q node) refl (sym (nodes_with c.nodes node n q) ∙ e);
  as_many = many;
}
  where
    go : (q : ℕ) (m : NodeValue) (b : Bool) → nat_eq q node ≡ b → cond b (Some n) (map.get c.nodes q) ≡ Some m → IsNodeAt c.settings q m
    go q m true t e = let same : n ≡ m = cc in subst (λ k. IsNodeAt c.settings k m) (sym (same_number q node t)) (subst (IsNodeAt c.settings node) same at)
    go q m false t e = p.each q m e

-- the tie of the nodes to the places of the same actions
pub record Tied (c : WorldValue) (w : PlaceWorld) : Type 0 where
  pub sound : IsSound w
  pub is_world : IsWorld w
  pub is : SpellsWorld c w

-- the bounds of the owners of places
pub record Bounded (w : PlaceWorld) : Type 0 where
  pub knows : KnowsOwners w
  pub limits : IsWithinLimits w

pub nobody_bounded : Bounded nobody
nobody_bounded = record { knows = nobody_knows; limits = nobody_limited }

pub new_world_tied : (settings : SettingsValue) → Tied (new_world settings) nobody
unfolding nobody
new_world_tied settings = record {
  sound = nobody_sound;
  is_world = world_is nobody nobody_sound nobody_knows;
  is = record {
    tables = record {
      running = λ node. ap (λ (o : Option NodeValue). is_some (option_map entries_in o)) (get-empty nat_cmp node);
      spelled = λ node entries e. absurd (let none : map.get {X = NodeValue} map.empty node ≡ None = get-empty nat_cmp node in nothing (map.get map.empty node) none entries e);
    };
    messages = tt;
    each = λ node n e. absurd (let none : map.get {X = NodeValue} map.empty node ≡ None = get-empty nat_cmp node in let some = e in cc);
    as_many = len-empty nat_cmp NodeValue;
  };
}
  where
    nothing : (o : Option NodeValue) → o ≡ None → (entries : Entries) → option_map entries_in o ≡ Some entries → ⊥
    nothing None is entries e = cc
    nothing (Some n) is entries e = cc
