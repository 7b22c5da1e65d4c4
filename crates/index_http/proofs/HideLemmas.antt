-- The reply to a message that makes no call is the same whoever the users are.
use Rattle.index_http.proofs.Words.{◌≡◌, ◌∙◌, ◌⊎◌, inl, inr, ℕ, Bool, true, false, List, [], ◌∷◌, ◌++◌, Option, Some, None, refl, sym, ap}
use Rattle.index_http.proofs.Words.{subst, arith, append_cancel_left, if◌then◌else◌, bytes_eq, read_file_name, read_name, Store, NameRecord}
use Rattle.index_http.proofs.Words.{Held, Prohibited, FileRow, NameRow, Bytes, held_rows_in, Tables, project_rows_in, by_tables, Field}
use Rattle.index_http.proofs.Words.{IsMessage, HttpRequest, is_head, is_put, is_reading, Message, Faulty, Whole, Resource, project_page_of}
use Rattle.index_http.proofs.Words.{root_page_of, Served, IsFaultReply, Acts, InputGetsText, MessageGetsText, ShowsFile, ShowsName}
use Rattle.index_http.proofs.Words.{ShowsPath, ShowsProject, ShowsResource, ShowsRoot, ShowsRows, ShowsSpelling, call_of, store_reply}
use Rattle.index_http.proofs.Words.{Reply, reply_text}
use Rattle.std.proofs.Common.{not, cond}
use Rattle.std.proofs.Common.{is_some, option_map}
use Rattle.std.specs.Prelude.{⊤}
use Rattle.std.specs.FinMap.{get}
use Rattle.std.specs.Option.{option_map_or}
use Rattle.index_rules.specs.declared.call.Request.{Request}
use Rattle.index_rules.specs.declared.records.UserRecord.{UserRecord}
use Rattle.index_rules.specs.declared.standing.Standing.{Standing}
use Rattle.index_rules.specs.FirstTables.{first_record, first_tables}
use Rattle.index_rules.specs.Looks.{with_users}
use Rattle.index_rules.specs.Maps.{Map}
use Rattle.index_rules.proofs.KeyLemmas.{same-refl}
use Rattle.index_rules.proofs.StandsOn.{StandsFor-opened}
use Rattle.index_desk.specs.Standings.{standing_in, standing_of_record}
use Rattle.index_json.specs.StandingText.{standing_text_of}
use Rattle.index_message.specs.declared.fault.MessageFault.TheVariants.{BadBody}
use Rattle.index_message.specs.declared.resource.Resource.TheVariants as resource
use Rattle.index_message.proofs.MessageLemmas.{at_most_one}
use Rattle.index_http.specs.Exchanges.{RedirectsToProject}
use Rattle.index_http.specs.Exchanges.{RequestGetsText, ShowsPage}
use Rattle.index_http.specs.Exchanges.{asked_by, body_reply, call_at}
use Rattle.index_http.specs.Hides.{HidesTokens, InputMayGet, MayGet, MayGetToken, RefutesShownTokens, get_of_name, makes_no_call}
use Rattle.index_http.specs.Hides.{token_of_user}
use Rattle.index_http.specs.Replies.{json_reply, message_reply}
use Rattle.index_http.specs.Shows.{GivesMessage}
use Rattle.index_http.proofs.ChoiceLemmas.{one_type}
use Rattle.index_http.proofs.FaultReplies.{first_of, no_fault_reply}

-- ---- two replies

-- two replies are the same, or one of them says that the store failed
abbrev pub Agree : Reply → Reply → Type 0
Agree reply other = (reply ≡ other) ⊎ ((reply ≡ store_reply) ⊎ (other ≡ store_reply))

-- two texts are the same, or one of them reports a fault
abbrev pub TextsAgree : Bytes → Bytes → Type 0
TextsAgree one other = (one ≡ other) ⊎ (IsFaultReply one ⊎ IsFaultReply other)

one_page : (served : Served) (page : Bytes) (reply other : Reply) → ShowsPage served page reply → ShowsPage served page other
    → Agree reply other
one_page served page reply other (inl is) (inl is') = inl (is ∙ sym is')
one_page served page reply other (inr long) shows = inr (inl long.0)
one_page served page reply other (inl is) (inr long) = inr (inr long.0)

pub text_agrees : (to_head : Bool) (reply other : Reply) (one two : Bytes) → one ≡ reply_text to_head reply → two ≡ reply_text to_head other
    → Agree reply other → TextsAgree one two
text_agrees to_head reply other one two is is' (inl same) = inl (is ∙ ap (reply_text to_head) same ∙ sym is')
text_agrees to_head reply other one two is is' (inr (inl fault)) = inr (inl (to_head, false, Store, is ∙ ap (reply_text to_head) fault))
text_agrees to_head reply other one two is is' (inr (inr fault)) = inr (inr (to_head, false, Store, is' ∙ ap (reply_text to_head) fault))

pub one_rows : (name : Bytes) (chosen : Option Served) (rows : Option (List FileRow)) (reply other : Reply)
    → ShowsRows name chosen rows reply → ShowsRows name chosen rows other → Agree reply other
one_rows name chosen None reply other is is' = inl (is ∙ sym is')
one_rows name None (Some rows) reply other is is' = inl (is ∙ sym is')
one_rows name (Some served) (Some rows) reply other shows shows' =
    one_page served (project_page_of served name rows) reply other shows shows'

-- ---- what a resource shows

same_standing : (users : Map UserRecord) (T : Tables) (name : Bytes) (known : Option NameRecord)
    → standing_of_record (with_users users T) name known ≡ standing_of_record T name known
same_standing users T name None = refl
same_standing users T name (Some Prohibited) = refl
same_standing users T name (Some (Held project)) = refl

module _ (users : Map UserRecord) (T : Tables) (reply other : Reply) where
  root_agrees : (chosen : Option Served) → ShowsRoot by_tables T chosen reply → ShowsRoot by_tables (with_users users T) chosen other
      → Agree reply other
  root_agrees None is is' = inl (is ∙ sym is')
  root_agrees (Some served) (rows, are, shows) (rows', are', shows') =
      one_page served (root_page_of served (held_rows_in T)) reply other
      (subst (λ (it : List NameRow). ShowsPage served (root_page_of served it) reply) are shows)
      (subst (λ (it : List NameRow). ShowsPage served (root_page_of served it) other) are' shows')

  project_agrees : (name : Bytes) (chosen : Option Served) → ShowsProject by_tables T name chosen reply
      → ShowsProject by_tables (with_users users T) name chosen other → Agree reply other
  project_agrees name chosen (rows, are, shows) (rows', are', shows') =
      one_rows name chosen (project_rows_in T name) reply other
      (subst (λ (it : Option (List FileRow)). ShowsRows name chosen it reply) are shows)
      (subst (λ (it : Option (List FileRow)). ShowsRows name chosen it other) are' shows')

  spelling_agrees : (fields : List Field) (name : Bytes) (is_normal : Bool) → ShowsSpelling by_tables T fields name is_normal reply
      → ShowsSpelling by_tables (with_users users T) fields name is_normal other → Agree reply other
  spelling_agrees fields name true (chosen, accepted, shows) (chosen', accepted', shows') =
      project_agrees name chosen shows
      (subst (λ (it : Option Served). ShowsProject by_tables (with_users users T) name it other)
      (one_type fields chosen' chosen accepted' accepted) shows')
  spelling_agrees fields name false is is' = inl (is ∙ sym is')

  path_agrees : (fields : List Field) (given : Bytes) (read : Option Bytes) → ShowsPath by_tables T fields given read reply
      → ShowsPath by_tables (with_users users T) fields given read other → Agree reply other
  path_agrees fields given None is is' = inl (is ∙ sym is')
  path_agrees fields given (Some name) shows shows' = spelling_agrees fields name (bytes_eq name given) shows shows'

  redirect_agrees : (read : Option Bytes) → RedirectsToProject read reply → RedirectsToProject read other → Agree reply other
  redirect_agrees None is is' = inl (is ∙ sym is')
  redirect_agrees (Some name) is is' = inl (is ∙ sym is')

  file_agrees : (file : Bytes) (is_name : Bool) → ShowsFile by_tables T file is_name reply
      → ShowsFile by_tables (with_users users T) file is_name other → Agree reply other
  file_agrees file true (body, has, is) (body', has', is') = inl (is ∙ ap body_reply (has ∙ sym has') ∙ sym is')
  file_agrees file false is is' = inl (is ∙ sym is')

  name_agrees : (read : Option Bytes) → ShowsName by_tables T read reply → ShowsName by_tables (with_users users T) read other
      → Agree reply other
  name_agrees None is is' = inl (is ∙ sym is')
  name_agrees (Some name) (standing, stands, is) (standing', stands', is') =
      let same : standing ≡ standing' = stands ∙ sym (same_standing users T name (get T.names name)) ∙ sym stands' in
      inl (is ∙ ap (λ (it : Standing). json_reply (standing_text_of it)) same ∙ sym is')

  resource_agrees : (fields : List Field) (at : Resource) → ShowsResource by_tables T fields at reply
      → ShowsResource by_tables (with_users users T) fields at other → Agree reply other
  resource_agrees fields resource.Simple is is' = inl (is ∙ sym is')
  resource_agrees fields resource.Root (chosen, accepted, shows) (chosen', accepted', shows') =
      root_agrees chosen shows
      (subst (λ (it : Option Served). ShowsRoot by_tables (with_users users T) it other) (one_type fields chosen' chosen accepted' accepted)
      shows')
  resource_agrees fields (resource.Project name) shows shows' = redirect_agrees (read_name name) shows shows'
  resource_agrees fields (resource.ProjectPage name) shows shows' = path_agrees fields name (read_name name) shows shows'
  resource_agrees fields (resource.File file) shows shows' = file_agrees file (is_some (read_file_name file)) shows shows'
  resource_agrees fields (resource.Name name) shows shows' = name_agrees (read_name name) shows shows'
  resource_agrees fields resource.Requests is is' = inl (is ∙ sym is')

  look_agrees : (fields : List Field) (at : Resource) → ShowsResource by_tables T fields at reply ⊎ ((reply ≡ store_reply) × ⊤)
      → ShowsResource by_tables (with_users users T) fields at other ⊎ ((other ≡ store_reply) × ⊤) → Agree reply other
  look_agrees fields at (inl shows) (inl shows') = resource_agrees fields at shows shows'
  look_agrees fields at (inr failed) shows' = inr (inl failed.0)
  look_agrees fields at (inl shows) (inr failed) = inr (inr failed.0)

-- ---- messages

-- a body that asks for nothing gets the same reply from any tables
no_act : (T later : Tables) (by_put : Bool) (at : ℕ) (fields : List Field) (asked : Option Request) (reply : Reply)
    → not (is_some (option_map (call_at 0 fields) asked)) ≡ true
    → Acts by_tables ⊤ by_put T (option_map (call_at at fields) asked) reply later → reply ≡ message_reply BadBody
no_act T later by_put at fields None reply none acts = acts.0
no_act T later by_put at fields (Some request) reply none acts = let no : false ≡ true = none in absurd (cc no)

module _ (users : Map UserRecord) (T : Tables) (request : HttpRequest) (body : Bytes) (at at' : ℕ) (later later' : Tables)
    (one other : Bytes) where
  request_agrees : (reads : Bool) → not (is_some (if reads then None else call_of 0 request body)) ≡ true
      → RequestGetsText by_tables ⊤ at T request body reads one later
      → RequestGetsText by_tables ⊤ at' (with_users users T) request body reads other later'
      → TextsAgree one other
  request_agrees true none (reply, is, gets) (reply', is', gets') =
      text_agrees (is_head request.method) reply reply' one other is is'
      (look_agrees users T reply reply' request.fields request.resource gets.0 gets'.0)
  request_agrees false none (reply, is, gets) (reply', is', gets') =
      let asked = asked_by request.method request.resource request.fields body in
      let first = no_act T later (is_put request.method) at request.fields asked reply none gets in
      let second = no_act (with_users users T) later' (is_put request.method) at' request.fields asked reply' none gets' in
      text_agrees (is_head request.method) reply reply' one other is is' (inl (first ∙ sym second))

pub hides_tokens : (message : Message) → makes_no_call message ≡ true → HidesTokens (MayGet message)
hides_tokens (Faulty fault to_head) none users T one other (at, later, gets) (at', later', gets') = inl (gets.0 ∙ sym gets'.0)
hides_tokens (Whole request body) none users T one other (at, later, gets) (at', later', gets') =
    request_agrees users T request body at at' later later' one other (is_reading request.method) none gets gets'

pub input_hides_tokens : (input : Bytes) → GivesMessage makes_no_call (Some input) → HidesTokens (InputMayGet input)
input_hides_tokens input (start, message, is_start, is_message, none) users T one other (at, later, gets) (at', later', gets') =
    hides_tokens message none users T one other (at, later, of_it at T one later gets) (
      at',
      later',
      of_it at' (with_users users T) other later' gets',
    )
  where
    of_it : (at : ℕ) (T : Tables) (text : Bytes) (later : Tables) → InputGetsText by_tables ⊤ at T (Some input) text later
        → MessageGetsText by_tables ⊤ at T message text later
    of_it at T text later (read, found, is_read, is_found, gets) =
        subst (λ (it : Message). MessageGetsText by_tables ⊤ at T it text later)
        (at_most_one start found message (subst (λ (it : Bytes). IsMessage it found) (is_read ∙ sym is_start) is_found) is_message) gets

-- ---- a wrong outcome

abbrev token_of : Option UserRecord → Bytes
token_of known = option_map_or (λ (it : UserRecord). it.token) known []

token_of_first : (user token : Bytes) → token_of_user (first_tables user token) user ≡ token
token_of_first user token =
    ap token_of ((StandsFor-opened user token).users user ∙ ap (λ b. cond b (Some (first_record token)) None) (same-refl user))

-- the text of the reply with a standing, in the tables of a new index
abbrev first_text : Bytes → Bytes → Bytes
first_text user n = reply_text false (json_reply (standing_text_of (standing_in (first_tables user []) n)))

shows_first : (name n user token : Bytes) → read_name name ≡ Some n
    → MayGet (get_of_name name) (first_tables user token) (first_text user n)
shows_first name n user token reads =
    let T = first_tables user [] in
    let reply = json_reply (standing_text_of (standing_in T n)) in
    let stands : standing_in T n ≡ standing_in (first_tables user token) n =
    sym (same_standing (first_tables user token).users T n (get T.names n)) in
    let shows : ShowsName by_tables (first_tables user token) (Some n) reply = (standing_in T n, stands, refl) in (
      0,
      first_tables user token,
      (
        reply,
        refl,
        (inl (subst (λ (it : Option Bytes). ShowsName by_tables (first_tables user token) it reply) (sym reads) shows), refl),
      ),
    )

shows_token : (name n user token : Bytes) → read_name name ≡ Some n
    → MayGetToken (get_of_name name) user (first_tables user token) (first_text user n ++ token)
shows_token name n user token reads =
    (first_text user n, shows_first name n user token reads, ap (λ (it : Bytes). first_text user n ++ it) (sym (token_of_first user token)))

wrong_token : (name n user : Bytes) → read_name name ≡ Some n → ¬ HidesTokens (MayGetToken (get_of_name name) user)
wrong_token name n user reads hides =
    let reply = json_reply (standing_text_of (standing_in (first_tables user []) n)) in
    elim (hides (first_tables user (2 ∷ [])).users (first_tables user (1 ∷ [])) (first_text user n ++ 1 ∷ []) (first_text user n ++ 2 ∷ [])
    (shows_token name n user (1 ∷ []) reads) (shows_token name n user (2 ∷ []) reads)) [
      | inl same ↦ (let no : 1 ≡ 2 = ap first_of (append_cancel_left (first_text user n) (1 ∷ []) (2 ∷ []) same) in
          absurd (omega (arith, no)))
      | inr (inl fault) ↦ no_fault_reply false reply (1 ∷ []) (λ is. omega (arith, is)) fault
      | inr (inr fault) ↦ no_fault_reply false reply (2 ∷ []) (λ is. omega (arith, is)) fault
    ]

pub refutes_shown_tokens : RefutesShownTokens
refutes_shown_tokens name n user reads = (hides_tokens (get_of_name name) refl, wrong_token name n user reads)
