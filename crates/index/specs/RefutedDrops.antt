-- Replies that were dropped, which the contracts exclude.
use Rattle.std.specs.Prelude.{Ok, Option, Some, [], ℕ, ◌∷◌, ◌≡◌}
use Rattle.std.specs.Io.KnownBytes.{Appends, Keeps}
use Rattle.index_io.specs.Counts.{HasFailed}
use Rattle.index_desk.specs.Rules.{Rules, by_history, by_tables}
use Rattle.index_http.specs.Exchanges.{InputGetsText}
use Rattle.index_http.specs.Shows.{GivesMessage, asks_page}
use Rattle.index_cli.specs.Connections.{Exchange, SentReply, no_faults}
use Rattle.index_cli.specs.Serving.{ExchangeIsAnswered}
use Rattle.index_rules.specs.Maps.{Bytes}
use Rattle.index_rules.specs.Tables.{Tables}
use Rattle.index.specs.Tasks.{AnswerConnections, Does}

-- no whole reply was sent to the message of an exchange
abbrev pub IsUnreplied : {S : Type 0} → Rules S → Exchange → S → S → Type 0
IsUnreplied rules exchange s s' = (before after : ℕ) (text : Bytes)
    → InputGetsText rules (HasFailed before after) exchange.at s exchange.given text s'
    → ¬ Appends exchange.had exchange.has text

-- No exchange on which no read and no write failed lacks its whole reply, if its message asks for
-- no page and changed the state, or if a part of the reply was sent.
pub record RefutesUnreplied {S : Type 0} (rules : Rules S) : Type 0 where
  pub changed : (exchange : Exchange) (s s' : S) → exchange.faults ≡ no_faults
      → (¬ GivesMessage asks_page exchange.given) → IsUnreplied rules exchange s s'
      → (¬ (s' ≡ s)) → ¬ ExchangeIsAnswered rules exchange s s'
  pub part : (exchange : Exchange) (s s' : S) → exchange.faults ≡ no_faults
      → (¬ GivesMessage asks_page exchange.given) → IsUnreplied rules exchange s s'
      → (¬ Keeps exchange.had exchange.has) → ¬ ExchangeIsAnswered rules exchange s s'

-- nothing was sent on a connection, and nothing failed on it
abbrev pub nothing_sent : SentReply
nothing_sent = record { bytes = []; faults = no_faults }

-- no serve of one client, to whom nothing was sent though nothing failed, changes a table
abbrev pub RefutesSilence : Type 0
RefutesSilence = (at : Option ℕ) (input : Bytes) (found : ℕ) (T T' : Tables)
    → (¬ GivesMessage asks_page (Some input)) → (¬ (T' ≡ T))
    → ¬ Does (AnswerConnections at 1 (Some (input ∷ [])) (Some []) (Some [])
    (Some (nothing_sent ∷ []))) (Ok found) T T'

-- all dropped replies that the contracts exclude
pub record RefutesDrops : Type 0 where
  pub tables : RefutesUnreplied by_tables
  pub history : RefutesUnreplied by_history
  pub silence : RefutesSilence
