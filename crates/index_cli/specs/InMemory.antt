-- Connections in memory, whose inputs and replies are known.
use Rattle.std.specs.Prelude.{◌≡◌, ℕ, List, [], map, Some}
use Rattle.std.specs.Borrow.{Bor}
use Rattle.std.specs.Global.{Vec}
use Rattle.index_io.specs.declared.sink.Output.{Output}
use Rattle.index_io.specs.declared.source.Input.{Input}
use Rattle.index_cli.specs.Connections.{AddsReply, SentReply, faults_of, no_faults}
use Rattle.index_cli.specs.declared.connections.Connection.{Connection}

-- what was sent and what failed on a connection
abbrev pub sent_on : {R : Type 0} → Connection (Input R) (Output (Vec ℕ)) → SentReply
sent_on connection = record {
  bytes = connection.sink.writer.items;
  faults = faults_of connection.source.failures connection.sink.failures;
}

-- nothing was read or sent on a connection whose client sends this
pub record IsNew (given : List ℕ) (connection : Connection (Input (Bor (List ℕ))) (Output (Vec ℕ)))
    : Type 0 where
  pub is : connection.source.reader.now ≡ given
  pub unsent : sent_on connection ≡ record { bytes = []; faults = no_faults }

-- this connection was closed behind those that were closed before
abbrev pub AddsClosed : {R : Type 0}
    → (closed closed' : List (Connection (Input R) (Output (Vec ℕ))))
    → Connection (Input R) (Output (Vec ℕ)) → Type 0
AddsClosed closed closed' connection =
    AddsReply (Some (map sent_on closed)) (Some (map sent_on closed'))
    (Some connection.sink.writer.items) (sent_on connection).faults
