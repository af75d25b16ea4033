-- The exchanges, connections and rounds of a node's workers over links.
use Rattle.std.specs.Prelude.{◌≡◌, ℕ, ◌<◌, ◌⊎◌, List, [], ◌∷◌, ◌++◌, length, map, Option, None, Some, Result, Ok, Err}
use Rattle.cg_types.specs.declared.fault.Fault.{Fault}
use Rattle.cg_types.specs.declared.fault.Fault.TheVariants as fault
use Rattle.cg_messages.specs.declared.kind.Kind.{Kind}
use Rattle.cg_messages.specs.declared.kind.Kind.TheVariants as kind
use Rattle.cg_messages.specs.declared.message.Message.TheVariants as messages
use Rattle.cg_messages.specs.Values.{SynValue}
use Rattle.cg_frames.specs.declared.layout.TheConstants.{WRITTEN}
use Rattle.cg_frames.specs.Spelling.{frame}
use Rattle.cg_core.specs.declared.event.Event.{Event}
use Rattle.cg_core.specs.declared.reply.Reply.{Reply}
use Rattle.cg_links.specs.declared.counted.Counted.{Counted}
use Rattle.cg_links.specs.Counted.{link_of, IsNew}
use Rattle.cg_engine.specs.declared.exchange.Ended.{Ended}
use Rattle.cg_engine.specs.declared.exchange.Broken.{Broken}
use Rattle.cg_engine.specs.Exchanged.{Exchanges}
use Rattle.cg_workers.specs.declared.round.Round.{Round}
use Rattle.cg_workers.specs.declared.ends.Taking.{Taking}
use Rattle.cg_workers.specs.Ends.{taken_by}
use Rattle.cg_workers.specs.Each.{Each}

-- the faults of accepting a connection, and of dialing a peer
abbrev pub IsLinkFault : Fault → Type 0
IsLinkFault f = (f ≡ fault.OutOfMemory) ⊎ (f ≡ fault.ReadFault)

-- no connection came
abbrev pub IsNoLink : {X : Type 0} → Result (Option X) Fault → Type 0
IsNoLink (Ok (Some link)) = ⊥
IsNoLink r = Unit {0}

-- the fault that broke an exchange off, if one did
abbrev pub fault_in : Result Ended Broken → Option Fault
fault_in (Ok end) = None
fault_in (Err broken) = Some broken.fault

-- the numbers of rounds
abbrev pub numbers_of : List Round → List ℕ
numbers_of rounds = map (λ (r : Round). r.number) rounds

-- Parameters: a gate's steps, its refusals and the states that these leave, a reader's rest, a writer's contents, and
-- the times of a clock.
module _ {S R W : Type 0} (does : S → Event → Reply → S → Type 0) (refuses : S → Event → Fault → Type 0)
    (stays : S → S → Type 0) (remaining : R → Option (List ℕ)) (contents : W → Option (List ℕ))
    (shows : ℕ → Type 0) where
  -- one exchange over a link that was not used before, at one time of the clock
  pub record Exchanged (kinds : List Kind) (opening : List ℕ) (link : R × W) (s t : S) : Type 0 where
    pub now : ℕ
    pub shown : shows now
    pub r0 : Counted R
    pub r1 : Counted R
    pub w0 : Counted W
    pub w1 : Counted W
    pub read : link_of r0 ≡ link.0
    pub written : link_of w0 ≡ link.1
    pub fresh : IsNew r0 × IsNew w0
    pub ended : Result Ended Broken
    pub done : Exchanges does refuses stays kinds now opening (remaining (link_of r0)) (remaining (link_of r1))
        (contents (link_of w0)) (contents (link_of w1)) r0 r1 w0 w1 s t ended

  -- an exchange was answered
  abbrev pub Answered : R × W → S → S → Type 0
  Answered link s t = Exchanged (kind.Syn ∷ (kind.Ack2 ∷ [])) [] link s t

  -- an exchange was begun, with this SYN
  abbrev pub Begun : SynValue → R × W → S → S → Type 0
  Begun syn link s t = Exchanged (kind.Ack ∷ []) (frame WRITTEN (messages.Syn syn)) link s t

  -- The exchange was broken off by this fault, if by any.
  abbrev pub AnsweredTo : Option Fault → R × W → S → S → Type 0
  AnsweredTo broken link s t = (x : Answered link s t) × (broken ≡ fault_in x.ended)

  abbrev pub BegunTo : Option Fault → SynValue → R × W → S → S → Type 0
  BegunTo broken syn link s t = (x : Begun syn link s t) × (broken ≡ fault_in x.ended)

  -- the outcome of dialing a peer: an exchange was begun, or nothing was done
  abbrev pub BegunWith : SynValue → Result (R × W) Fault → S → S → Type 0
  BegunWith syn (Ok link) s t = Begun syn link s t
  BegunWith syn (Err fault) s t = t ≡ s

  -- The exchange that was begun, if one was, was broken off by this fault, if by any.
  abbrev pub BegunWithTo : Option Fault → SynValue → Result (R × W) Fault → S → S → Type 0
  BegunWithTo broken syn (Ok link) s t = BegunTo broken syn link s t
  BegunWithTo broken syn (Err fault) s t = (t ≡ s) × (broken ≡ None)

-- Parameters: the same, and a listener's answers.
module _ {S R W L : Type 0} (does : S → Event → Reply → S → Type 0) (refuses : S → Event → Fault → Type 0)
    (stays : S → S → Type 0) (remaining : R → Option (List ℕ)) (contents : W → Option (List ℕ))
    (accepts : L → Result (Option (R × W)) Fault → L → Type 0) (shows : ℕ → Type 0) where
  -- a connection came, and an exchange was answered over it
  pub record Came (link : R × W) (s t : L × S) : Type 0 where
    pub accepted : accepts s.0 (Ok (Some link)) t.0
    pub answered : Answered does refuses stays remaining contents shows link s.1 t.1

  -- `count` connections came, one after the other
  pub record AllCame (count : ℕ) (s t : L × S) : Type 0 where
    pub links : List (R × W)
    pub counted : length links ≡ count
    pub came : Each Came links s t

  -- no further connection came
  pub record NoneCame (s t : L) : Type 0 where
    pub answer : Result (Option (R × W)) Fault
    pub accepted : accepts s answer t
    pub none : IsNoLink answer

  -- a connection came, and the exchange over it was answered, and broken off by this fault, if by any
  pub record CameTo (broken : Option Fault) (s t : L × S) : Type 0 where
    pub link : R × W
    pub accepted : accepts s.0 (Ok (Some link)) t.0
    pub answered : AnsweredTo does refuses stays remaining contents shows broken link s.1 t.1

  -- the outcome of waiting for a connection: it was answered, or none came
  abbrev pub NextCame : Option (Option Fault) → L × S → L × S → Type 0
  NextCame (Some broken) s t = CameTo broken s t
  NextCame None s t = NoneCame s.0 t.0 × (t.1 ≡ s.1)

  -- `count` connections came, each was answered, and there were as many as were wanted, or no further one came.
  pub record Received (wanted count : ℕ) (s t : L × S) : Type 0 where
    pub here : L
    pub all : AllCame count s (here, t.1)
    pub ended : ((count ≡ wanted) × (t.0 ≡ here)) ⊎ ((count < wanted) × NoneCame here t.0)

-- Parameters: the same, and a dialer's answers.
module _ {S R W D : Type 0} (does : S → Event → Reply → S → Type 0) (refuses : S → Event → Fault → Type 0)
    (stays : S → S → Type 0) (remaining : R → Option (List ℕ)) (contents : W → Option (List ℕ))
    (dials : D → ℕ → Result (R × W) Fault → D → Type 0) (shows : ℕ → Type 0) where
  -- a peer was dialed, and an exchange was begun with this SYN if it was reached
  pub record Reached (syn : SynValue) (peer : ℕ) (s t : D × S) : Type 0 where
    pub answer : Result (R × W) Fault
    pub dialed : dials s.0 peer answer t.0
    pub begun : BegunWith does refuses stays remaining contents shows syn answer s.1 t.1

  -- the same, and the exchange was broken off by this fault, if by any
  pub record ReachedTo (broken : Option Fault) (syn : SynValue) (peer : ℕ) (s t : D × S) : Type 0 where
    pub answer : Result (R × W) Fault
    pub dialed : dials s.0 peer answer t.0
    pub begun : BegunWithTo does refuses stays remaining contents shows broken syn answer s.1 t.1

  -- each peer of a round was dialed, in their order
  abbrev pub SentRound : Round → D × S → D × S → Type 0
  SentRound round s t = Each (Reached round.syn) round.peers s t

  -- Rounds were taken, each was sent, and these are their numbers.
  pub record SentRounds (before after : Taking) (numbers : List ℕ) (s t : D × S) : Type 0 where
    pub rounds : List Round
    pub taken : taken_by after ≡ taken_by before ++ rounds
    pub numbered : numbers ≡ numbers_of rounds
    pub sent : Each SentRound rounds s t
