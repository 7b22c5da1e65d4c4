-- The replies with the bytes of a file.
use Rattle.std.specs.Prelude.{◌≡◌, ◌⊎◌, List, [], ◌∷◌, Some, false}
use Rattle.index_http.specs.Replies.{file_reply, reply_text}
use Rattle.index_message.specs.Fields.{Field}
use Rattle.index_message.specs.Messages.{IsMessage}
use Rattle.index_message.specs.Requests.{HttpRequest}
use Rattle.index_message.specs.declared.message.Message.TheVariants.{Whole}
use Rattle.index_message.specs.declared.resource.Method.TheVariants.{Get}
use Rattle.index_message.specs.declared.resource.Resource.TheVariants.{File}
use Rattle.index_rules.specs.History.{History}
use Rattle.index_rules.specs.Laws.{IsFrontOf}
use Rattle.index_rules.specs.Maps.{Bytes}
use Rattle.index_rules.specs.StandsFor.{body_after}
use Rattle.index_cli.specs.Connections.{Exchange, no_faults}

-- a `GET` of a file name
abbrev pub get_of_file : Bytes → List Field → HttpRequest
get_of_file file fields = record { method = Get; resource = File file; fields = fields }

-- a client sent a `GET` of a file name, and was sent the reply with status 200 and these bytes;
-- nothing failed
pub record GotFile (exchange : Exchange) (file bytes : Bytes) : Type 0 where
  pub input : Bytes
  pub fields : List Field
  pub sent : Bytes
  pub given : exchange.given ≡ Some input
  pub message : IsMessage input (Whole (get_of_file file fields) sent)
  pub had : exchange.had ≡ Some []
  pub has : exchange.has ≡ Some (reply_text false (file_reply bytes))
  pub unfailed : exchange.faults ≡ no_faults

-- the exchange is one of these
abbrev pub IsAmong : Exchange → List Exchange → Type 0
IsAmong one [] = ⊥
IsAmong one (exchange ∷ earlier) = (one ≡ exchange) ⊎ IsAmong one earlier

-- bytes that were sent for a file name are what the history has of it at some point
abbrev pub IsServedAt : History → Bytes → Bytes → Type 0
IsServedAt h file bytes =
    (at : History) × IsFrontOf at h × (body_after at file ≡ Some bytes)
