-- Connections one after the other: the input of each, and its reply.
use Rattle.std.specs.Prelude.{◌≡◌, ◌⊎◌, ⊤, ℕ, List, [], ◌∷◌, ◌++◌, Option, Some, None, IfSome}

-- how many reads on a connection failed, and how many writes failed or took no byte
pub record StreamFaults : Type 0 where
  pub reads : ℕ
  pub writes : ℕ

abbrev pub faults_of : (reads writes : ℕ) → StreamFaults
faults_of reads writes = record { reads = reads; writes = writes }

abbrev pub no_faults : StreamFaults
no_faults = faults_of 0 0

-- a connection that was answered
pub record Exchange : Type 0 where
  -- when, in Unix seconds
  pub at : ℕ
  -- what the client sends
  pub given : Option (List ℕ)
  -- what had been sent to it before
  pub had : Option (List ℕ)
  -- what has been sent to it
  pub has : Option (List ℕ)
  -- what failed on it
  pub faults : StreamFaults

-- an exchange of these parts
abbrev pub exchange_of : ℕ → (given had has : Option (List ℕ)) → StreamFaults → Exchange
exchange_of at given had has faults =
    record { at = at; given = given; had = had; has = has; faults = faults }

-- the inputs of connections, in order, if they are known
abbrev pub KnownList : Type 0
KnownList = Option (List (List ℕ))

-- what was sent on a connection that was closed, and what failed on it
pub record SentReply : Type 0 where
  pub bytes : List ℕ
  pub faults : StreamFaults

-- the replies on connections, in order, if they are known
abbrev pub KnownReplies : Type 0
KnownReplies = Option (List SentReply)

abbrev pub unknown : KnownList
unknown = None

abbrev pub unknown_replies : KnownReplies
unknown_replies = None

-- the first of the connections to come was taken, whose client sends `given`
abbrev pub ClientTaken : (coming later : KnownList) → Option (List ℕ) → Type 0
ClientTaken None later given = ⊤
ClientTaken (Some inputs) later given =
    (input : List ℕ) × (more : List (List ℕ)) × (inputs ≡ input ∷ more)
    × (given ≡ Some input) × (later ≡ Some more)

-- one more connection was closed, to which `has` was sent, with these faults
abbrev pub AddsReply : (replies later : KnownReplies) → Option (List ℕ) → StreamFaults → Type 0
AddsReply None later has faults = ⊤
AddsReply (Some replies) later has faults =
    (bytes : List ℕ) × (has ≡ Some bytes)
    × (later ≡ Some (replies ++ record { bytes = bytes; faults = faults } ∷ []))

-- nothing was sent yet, if it is known what was; it is, if the replies are
abbrev pub IsUnsent : KnownReplies → Option (List ℕ) → Type 0
IsUnsent None had = IfSome had (λ sent. sent ≡ [])
IsUnsent (Some replies) had = had ≡ Some []

-- the first of the connections to come was closed at once, without a reply
abbrev pub Loses : (coming coming' : KnownList) → (replies replies' : KnownReplies) → Type 0
Loses coming coming' replies replies' = (given : Option (List ℕ))
    × ClientTaken coming coming' given × AddsReply replies replies' (Some []) no_faults

-- exchanges, newest first, that came of the connections to come; `later` are still to come
abbrev pub Came : (coming later : KnownList) → List Exchange → Type 0
Came coming later [] = later ≡ coming
Came coming later (exchange ∷ earlier) =
    (between : KnownList) × Came coming between earlier
    × ClientTaken between later exchange.given

-- exchanges, newest first, that were closed
abbrev pub Closed : (replies later : KnownReplies) → List Exchange → Type 0
Closed replies later [] = later ≡ replies
Closed replies later (exchange ∷ earlier) =
    (between : KnownReplies) × Closed replies between earlier × IsUnsent between exchange.had
    × AddsReply between later exchange.has exchange.faults

-- no other connection was taken, or one that got no reply
abbrev pub IsRest : (later now : KnownList) → Type 0
IsRest later now = (now ≡ later) ⊎ ((given : Option (List ℕ)) × ClientTaken later now given)

-- Exchanges, newest first, with the first of the connections to come. Their replies and faults are
-- those meanwhile.
pub record AreOn {C : Type 0} (coming : C → KnownList) (replies : C → KnownReplies) (old new : C)
    (exchanges : List Exchange) : Type 0 where
  pub later : KnownList
  pub came : Came (coming old) later exchanges
  pub rest : IsRest later (coming new)
  pub closed : Closed (replies old) (replies new) exchanges
