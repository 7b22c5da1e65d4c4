-- Exchanges over connections in memory, by the messages and replies that are known of them.
use Rattle.std.specs.Prelude.{◌≡◌, ℕ, List, [], ◌∷◌, ◌++◌, map, Option, Some}
use Rattle.std.specs.List.{AllByRecursion}
use Rattle.index_cli.specs.Connections.{Exchange, SentReply, StreamFaults}

-- the inputs of exchanges, which are listed newest first, in the order in which they came
abbrev pub messages_in : List Exchange → List (Option (List ℕ))
messages_in [] = []
messages_in (exchange ∷ earlier) = messages_in earlier ++ exchange.given ∷ []

-- the replies of exchanges, which are listed newest first, in the order in which they were sent,
-- and what failed
abbrev pub replies_in : List Exchange → List (Option (List ℕ) × StreamFaults)
replies_in [] = []
replies_in (exchange ∷ earlier) = replies_in earlier ++ (exchange.has, exchange.faults) ∷ []

-- the clients sent the first of these messages, and each was sent its own reply, from the start
pub record AreNamed (messages : List (List ℕ)) (replies : List SentReply)
    (exchanges : List Exchange) : Type 0 where
  pub rest : List (List ℕ)
  pub given : messages_in exchanges ++ map (λ it. Some it) rest ≡ map (λ it. Some it) messages
  pub has : replies_in exchanges ≡ map (λ reply. (Some reply.bytes, reply.faults)) replies
  pub had : AllByRecursion (λ exchange. exchange.had ≡ Some []) exchanges
