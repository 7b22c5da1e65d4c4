-- Runs carry the history on: none of them begins it again.
use Rattle.std.specs.Prelude.{◌≡◌, List, false, length, ℕ}
use Rattle.index_digest.specs.Digest.{sha256}
use Rattle.index_io.specs.Counts.{HasFailed}
use Rattle.index_message.specs.Fields.{Field}
use Rattle.index_message.specs.declared.message.Message.TheVariants.{Whole}
use Rattle.index_rules.specs.History.{History}
use Rattle.index_rules.specs.Laws.{IsFrontOf}
use Rattle.index_rules.specs.Legal.{IsLegal}
use Rattle.index_rules.specs.Maps.{Bytes}
use Rattle.index_rules.specs.StandsFor.{StandsFor}
use Rattle.index_rules.specs.Tables.{Tables}
use Rattle.index_cli.specs.FilesServed.{get_of_file}
use Rattle.index_desk.specs.Rules.{by_history}
use Rattle.index_http.specs.Exchanges.{MessageGetsText}
use Rattle.index_http.specs.Replies.{file_reply, reply_text}
use Rattle.index.specs.Chains.{ComesByRuns, LeadTo, Run}
use Rattle.index.specs.Keeping.{FindsNone, FindsOnly, Keeping}

-- at this point of the history, a `GET` of a file name may get the reply with status 200 and these
-- bytes
pub record ServesFile (h : History) (file bytes : Bytes) : Type 0 where
  -- the moment of the connection, the header lines and the body of the request
  pub at : ℕ
  pub fields : List Field
  pub sent : Bytes
  -- how many calls of the store failed before and after it
  pub failures : ℕ
  pub later_failures : ℕ
  pub later : History
  pub replies : MessageGetsText by_history (HasFailed failures later_failures) at h
      (Whole (get_of_file file fields) sent) (reply_text false (file_reply bytes)) later

-- if a file name is served at both points, the bytes have the same digest and size
abbrev pub BindServed : History → History → Type 0
BindServed one other =
    (file first second : Bytes) → ServesFile one file first → ServesFile other file second
    → (sha256 first ≡ sha256 second) × (length first ≡ length second)

-- If the first files hold some part of an index, the last ones do after any runs. A history that
-- these runs make of a given one goes on from it, and serves each file name as that one did.
abbrev pub GoesOn : {X : Type 0} → Keeping X → List Run → X → X → Type 0
GoesOn k runs first last =
    (¬ k.HoldsNone first) → (leads : LeadTo k runs first last)
    → (¬ k.HoldsNone last)
    × ((given later : History) → IsLegal later
    → ComesByRuns k runs first last leads (λ h. h ≡ given) later
    → IsFrontOf given later × BindServed given later)

-- the tables stand for a legal history that goes on from one that these runs made
pub record StandOnwards {X : Type 0} (k : Keeping X) (runs : List Run) (first mid : X)
    (leads : LeadTo k runs first mid) (T : Tables) : Type 0 where
  pub earlier : History
  pub comes : ComesByRuns k runs first mid leads (λ h. ⊥) earlier
  pub later : History
  pub legal : IsLegal later
  pub stands : StandsFor T later
  pub goes_on : IsFrontOf earlier later
  pub served : BindServed earlier later

-- if the first files hold no index, and those after some runs hold some part of one, then the
-- tables after more runs go on from the history at that point
abbrev pub StandOn : {X : Type 0} → Keeping X → List Run → List Run → X → X → X → Type 0
StandOn k runs others first mid last =
    FindsNone k first → (leads : LeadTo k runs first mid) → (¬ k.HoldsNone mid)
    → LeadTo k others mid last → FindsOnly k last (StandOnwards k runs first mid leads)
