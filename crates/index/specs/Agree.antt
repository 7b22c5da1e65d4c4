-- The clients of any runs are sent the same bytes for one file name.
use Rattle.std.specs.Prelude.{Contains, List, None, Ok, Option, Result, Some, [], false, length}
use Rattle.std.specs.Prelude.{true, ℕ, ◌++◌, ◌∷◌, ◌≡◌}
use Rattle.index_digest.specs.Digest.{sha256}
use Rattle.index_http.specs.Replies.{file_reply, reply_text}
use Rattle.index_message.specs.Fields.{Field}
use Rattle.index_message.specs.Messages.{IsMessage}
use Rattle.index_message.specs.declared.message.Message.TheVariants.{Whole}
use Rattle.index_rules.specs.Maps.{Bytes}
use Rattle.index_cli.specs.Connections.{Exchange, KnownList, KnownReplies, SentReply, no_faults}
use Rattle.index_cli.specs.FilesServed.{GotFile, IsAmong, get_of_file}
use Rattle.index.specs.declared.end.End.{End}
use Rattle.index.specs.Chains.{LeadTo, Run, WorkRun}
use Rattle.index.specs.Keeping.{FindsNone, Keeping}
use Rattle.index.specs.Tasks.{AnswerConnections, AreAmong}

-- A client of a run sent a `GET` of a file name, and was sent the reply with status 200 and these
-- bytes. The run ended and closed its files, and it is known what its clients sent and were sent.
pub record ClientGot (run : Run) (file bytes : Bytes) : Type 0 where
  pub at : Option ℕ
  pub requests : ℕ
  pub inputs : List Bytes
  pub later : KnownList
  pub had : List SentReply
  pub has : KnownReplies
  pub result : Result ℕ End
  pub is : run ≡ WorkRun true
      (AnswerConnections at requests (Some inputs) later (Some had) has) result
  pub exchanges : List Exchange
  pub are : AreAmong (Some inputs) later (Some had) has exchanges
  pub client : Exchange
  pub among : IsAmong client exchanges
  pub got : GotFile client file bytes

-- any two clients of these runs who were sent the bytes of one file name were sent bytes of one
-- digest and one size
abbrev pub ClientsAgree : List Run → Type 0
ClientsAgree runs =
    (one other : Run) → Contains runs one → Contains runs other
    → (file first second : Bytes) → ClientGot one file first → ClientGot other file second
    → (sha256 first ≡ sha256 second) × (length first ≡ length second)

-- so do the clients of any runs, one after the other, if the first files held no index
abbrev pub AgreeThrough : {X : Type 0} → Keeping X → List Run → X → X → Type 0
AgreeThrough k runs first last = FindsNone k first → LeadTo k runs first last → ClientsAgree runs

-- ---- a wrong outcome

-- a client was sent the reply with status 200 and these bytes
abbrev pub file_sent : Bytes → SentReply
file_sent bytes = record { bytes = reply_text false (file_reply bytes); faults = no_faults }

-- a run with one client, who sent this input and was sent these bytes
abbrev pub run_of_client : Bytes → Bytes → Run
run_of_client input bytes = WorkRun true
    (AnswerConnections None 1 (Some (input ∷ [])) (Some []) (Some [])
    (Some (file_sent bytes ∷ []))) (Ok 0)

-- A client of some runs got a file, and sends the same in one more run. If he is sent the same
-- bytes, clients agree as before; if he is sent bytes of another digest or size, they do not.
abbrev pub RefutesDisagreement : Type 0
RefutesDisagreement =
    (runs : List Run) (input file body bytes other : Bytes) (fields : List Field)
    → IsMessage input (Whole (get_of_file file fields) body)
    → (¬ ((sha256 bytes ≡ sha256 other) × (length bytes ≡ length other)))
    → Contains runs (run_of_client input bytes) → ClientsAgree runs
    → ClientsAgree (runs ++ run_of_client input bytes ∷ [])
    × (¬ ClientsAgree (runs ++ run_of_client input other ∷ []))
