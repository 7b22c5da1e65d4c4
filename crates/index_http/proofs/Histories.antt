-- The reply over tables that stand for a legal history is what the history gives.
use Rattle.index_http.proofs.Words.{◌≡◌, ℕ, Bool, true, false, inl, inr, refl, sym, subst, List, Option, Some, None, Result, Ok, Err}
use Rattle.index_http.proofs.Words.{bytes_eq, read_file_name, read_name, Bytes, Tables, Call, by_tables, Field, HttpRequest, is_put}
use Rattle.index_http.proofs.Words.{is_reading, Message, Faulty, Whole, Resource, Served, ReplyEnds, Acts, InputGetsText, MessageGetsText}
use Rattle.index_http.proofs.Words.{ShowsFile, ShowsName, ShowsPath, ShowsProject, ShowsResource, ShowsRoot, ShowsSpelling, call_of, Reply}
use Rattle.index_http.proofs.Words.{IoEnd, ReadFault, OutOfMemory, WriteFault, Cut}
use Rattle.std.specs.Prelude.{is_some}
use Rattle.index_rules.specs.History.{History}
use Rattle.index_rules.specs.StandsFor.{StandsFor}
use Rattle.index_rules.specs.Legal.{history_after, IsLegal}
use Rattle.index_rules.proofs.StandsOn.{CarriesOn-answer}
use Rattle.index_desk.specs.Rules.{by_history}
use Rattle.index_desk.proofs.RulesLemmas.{body_by_history, held_rows_by_history, project_rows_by_history, standing_by_history}
use Rattle.index_message.specs.declared.resource.Resource.TheVariants as resource
use Rattle.index_desk.specs.ByRules.{StandsAfter}
use Rattle.index_http.specs.Ends.{EndsBy}
use Rattle.index_http.specs.Exchanges.{IsFaultless, RequestGetsReply}

-- ---- looks

module _ (h : History) (T : Tables) (stands : StandsFor T h) where
  root_after : (chosen : Option Served) (reply : Reply) → ShowsRoot by_tables T chosen reply → ShowsRoot by_history h chosen reply
  root_after None reply shows = shows
  root_after (Some served) reply shows = (shows.0, held_rows_by_history h T stands shows.0 shows.1, shows.2)

  project_after : (name : Bytes) (chosen : Option Served) (reply : Reply) → ShowsProject by_tables T name chosen reply
      → ShowsProject by_history h name chosen reply
  project_after name chosen reply shows = (shows.0, project_rows_by_history h T stands name shows.0 shows.1, shows.2)

  spelling_after : (fields : List Field) (name : Bytes) (same : Bool) (reply : Reply) → ShowsSpelling by_tables T fields name same reply
      → ShowsSpelling by_history h fields name same reply
  spelling_after fields name true reply shows = (shows.0, shows.1, project_after name shows.0 reply shows.2)
  spelling_after fields name false reply shows = shows

  at_after : (fields : List Field) (given : Bytes) (read : Option Bytes) (reply : Reply) → ShowsPath by_tables T fields given read reply
      → ShowsPath by_history h fields given read reply
  at_after fields given None reply shows = shows
  at_after fields given (Some name) reply shows = spelling_after fields name (bytes_eq name given) reply shows

  file_after : (file : Bytes) (is_name : Bool) (reply : Reply) → ShowsFile by_tables T file is_name reply
      → ShowsFile by_history h file is_name reply
  file_after file true reply shows = (shows.0, body_by_history h T stands file shows.0 shows.1, shows.2)
  file_after file false reply shows = shows

  name_after : (read : Option Bytes) (reply : Reply) → ShowsName by_tables T read reply → ShowsName by_history h read reply
  name_after None reply shows = shows
  name_after (Some name) reply shows = (shows.0, standing_by_history h T stands name shows.0 shows.1, shows.2)

  shows_after : (fields : List Field) (asked : Resource) (reply : Reply) → ShowsResource by_tables T fields asked reply
      → ShowsResource by_history h fields asked reply
  shows_after fields resource.Simple reply shows = shows
  shows_after fields resource.Root reply shows = (shows.0, shows.1, root_after shows.0 reply shows.2)
  shows_after fields (resource.Project name) reply shows = shows
  shows_after fields (resource.ProjectPage name) reply shows = at_after fields name (read_name name) reply shows
  shows_after fields (resource.File file) reply shows = file_after file (is_some (read_file_name file)) reply shows
  shows_after fields (resource.Name name) reply shows = name_after (read_name name) reply shows
  shows_after fields resource.Requests reply shows = shows

-- ---- messages

-- what is replied, by a later history for which the tables stand
abbrev After : (History → Type 0) → Tables → Type 0
After = StandsAfter by_history

-- nothing changed
same_after : (h : History) → IsLegal h → (T T' : Tables) → StandsFor T h → T' ≡ T → (replies : History → Type 0) → replies h
    → After replies T'
same_after h legal T T' stands same replies is =
    record { later = h; is = is; shows = (legal, subst (λ x. StandsFor x h) (sym same) stands) }

acts_after : (Cause : Type 0) (h : History) → IsLegal h → (T T' : Tables) → StandsFor T h
    → (by_put : Bool) (call : Option Call) (reply : Reply)
    → Acts by_tables Cause by_put T call reply T' → After (Acts by_history Cause by_put h call reply) T'
acts_after Cause h legal T T' stands by_put None reply (is, same) =
    same_after h legal T T' stands same (Acts by_history Cause by_put h None reply) (is, refl)
acts_after Cause h legal T T' stands by_put (Some call) reply (a, is, answers, next, cause) =
    let on = CarriesOn-answer h legal T stands call a T' (λ _. answers) (λ _. next) in
    record { later = history_after h call a; is = (a, is, on.verdict, refl, cause); shows = (on.legal, on.stands) }

request_after : (Cause : Type 0) (at : ℕ) (h : History) → IsLegal h → (T T' : Tables) → StandsFor T h
    → (request : HttpRequest) (body : Bytes) (reads : Bool) (reply : Reply)
    → RequestGetsReply by_tables Cause at T request body reads reply T'
    → After (RequestGetsReply by_history Cause at h request body reads reply) T'
request_after Cause at h legal T T' stands request body true reply (inl shows, same) =
    same_after h legal T T' stands same (RequestGetsReply by_history Cause at h request body true reply)
    (inl (shows_after h T stands request.fields request.resource reply shows), refl)
request_after Cause at h legal T T' stands request body true reply (inr failed, same) =
    same_after h legal T T' stands same (RequestGetsReply by_history Cause at h request body true reply) (inr failed, refl)
request_after Cause at h legal T T' stands request body false reply acts =
    acts_after Cause h legal T T' stands (is_put request.method) (call_of at request body) reply acts

message_after : (Cause : Type 0) (at : ℕ) (h : History) → IsLegal h → (T T' : Tables) → StandsFor T h → (message : Message) (text : Bytes)
    → MessageGetsText by_tables Cause at T message text T' → After (MessageGetsText by_history Cause at h message text) T'
message_after Cause at h legal T T' stands (Faulty fault is_head) text (is, same) =
    same_after h legal T T' stands same (MessageGetsText by_history Cause at h (Faulty fault is_head) text) (is, refl)
message_after Cause at h legal T T' stands (Whole request body) text (reply, is, replies) =
    let one = request_after Cause at h legal T T' stands request body (is_reading request.method) reply replies in
    record { later = one.later; is = (reply, is, one.is); shows = one.shows }

input_after : (Cause : Type 0) (at : ℕ) (h : History) → IsLegal h → (T T' : Tables) → StandsFor T h → (given : Option Bytes) (text : Bytes)
    → InputGetsText by_tables Cause at T given text T' → After (InputGetsText by_history Cause at h given text) T'
input_after Cause at h legal T T' stands given text (input, message, is_input, is_message, replies) =
    let one = message_after Cause at h legal T T' stands message text replies in
    record { later = one.later; is = (input, message, is_input, is_message, one.is); shows = one.shows }

-- if nothing fails
pub faultless_after : (at : ℕ) (h : History) → IsLegal h → (T : Tables) → StandsFor T h → (given : Option Bytes) (text : Bytes)
    → IsFaultless by_tables at given T text → IsFaultless by_history at given h text
faultless_after at h legal T stands given text reply =
    let one = input_after ⊥ at h legal T reply.0 stands given text reply.1 in (one.later, one.is)

-- ---- the end of a connection by the tables is that by a history for which they stood

pub reply_ends_by_history : (Cause : Type 0) (at : ℕ) (h : History) → IsLegal h → (T T' : Tables) → StandsFor T h
    → (given before after : Option Bytes) (result : Result (Unit {0}) IoEnd)
    → ReplyEnds (λ text. InputGetsText by_tables Cause at T given text T') (T' ≡ T) before after result
    → StandsAfter by_history (EndsBy by_history Cause at given before after result h) T'
reply_ends_by_history Cause at h legal T T' stands given before after (Ok done) (text, is, sends) =
    let one = input_after Cause at h legal T T' stands given text is in
    record { later = one.later; is = (text, one.is, sends); shows = one.shows }
reply_ends_by_history Cause at h legal T T' stands given before after (Err (WriteFault count)) (text, is, sends) =
    let one = input_after Cause at h legal T T' stands given text is in
    record { later = one.later; is = (text, one.is, sends); shows = one.shows }
reply_ends_by_history Cause at h legal T T' stands given before after (Err (Cut count)) (text, is, sends) =
    let one = input_after Cause at h legal T T' stands given text is in
    record { later = one.later; is = (text, one.is, sends); shows = one.shows }
reply_ends_by_history Cause at h legal T T' stands given before after (Err ReadFault) (same, kept) =
    record { later = h; is = (refl, kept); shows = (legal, subst (λ x. StandsFor x h) (sym same) stands) }
reply_ends_by_history Cause at h legal T T' stands given before after (Err OutOfMemory) (same, kept) =
    record { later = h; is = (refl, kept); shows = (legal, subst (λ x. StandsFor x h) (sym same) stands) }
