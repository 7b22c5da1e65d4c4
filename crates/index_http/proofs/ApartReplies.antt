-- The reply about a name depends on the entries of that name alone.
use Rattle.index_http.proofs.Words.{◌≡◌, ◌∙◌, ◌⊎◌, inl, inr, ℕ, Bool, true, false, List, [], ◌∷◌, ◌++◌, Option, Some, None, refl, sym, ap}
use Rattle.index_http.proofs.Words.{subst, arith, append_cancel_left, bytes_eq, read_file_name, read_name, FileRow, Bytes, Field}
use Rattle.index_http.proofs.Words.{HttpRequest, IsMessage, is_head, is_reading, Message, Faulty, Whole, Resource, Served, InputGetsText}
use Rattle.index_http.proofs.Words.{MessageGetsText, ShowsFile, ShowsName, ShowsPath, ShowsProject, ShowsResource, ShowsRows, ShowsSpelling}
use Rattle.index_http.proofs.Words.{store_reply, Reply, reply_text}
use Rattle.std.proofs.Common.{cond, is_some}
use Rattle.std.proofs.lemmas.Bool.{false≢true}
use Rattle.std.specs.Prelude.{⊤, ◌&&◌}
use Rattle.index_names.specs.FileName.{project_of}
use Rattle.index_rules.specs.declared.standing.Standing.{Standing}
use Rattle.index_rules.specs.History.{History, begins, is_read_as}
use Rattle.index_rules.specs.Legal.{IsLegal}
use Rattle.index_rules.proofs.KeyLemmas.{same-refl}
use Rattle.index_rules.proofs.OwnerLists.{same-is}
use Rattle.index_rules.proofs.StandsOn.{legal_made, tables_of}
use Rattle.index_desk.specs.Apart.{RefutesOther, ShowSame, with_claim}
use Rattle.index_desk.specs.Rules.{by_history}
use Rattle.index_desk.specs.Standings.{standing_in}
use Rattle.index_desk.proofs.ApartLemmas.{show_same}
use Rattle.index_desk.proofs.StandingLemmas.{IsStandingAfter-standing_in}
use Rattle.index_desk.proofs.WrongOthers.{refutes_others}
use Rattle.index_json.specs.StandingText.{standing_text_of}
use Rattle.index_message.specs.declared.resource.Resource.TheVariants as resource
use Rattle.index_message.proofs.MessageLemmas.{at_most_one}
use Rattle.index_http.specs.Apart.{DependsOnName, InputMayGetAfter, MayGetAfter, MayGetBeside, RefutesShownOthers, held_byte, looks_at}
use Rattle.index_http.specs.Apart.{name_shown}
use Rattle.index_http.specs.Exchanges.{RedirectsToProject, RequestGetsText, body_reply}
use Rattle.index_http.specs.Hides.{get_of_name}
use Rattle.index_http.specs.Replies.{json_reply}
use Rattle.index_http.specs.Shows.{GivesMessage}
use Rattle.index_http.proofs.ChoiceLemmas.{one_type}
use Rattle.index_http.proofs.FaultReplies.{first_of, no_fault_reply}
use Rattle.index_http.proofs.HideLemmas.{Agree, TextsAgree, one_rows, text_agrees}

-- ---- what a resource shows

module _ (n : Bytes) (h h' : History) (both : ShowSame n h h') (reply other : Reply) where
  project_agrees : (chosen : Option Served) → ShowsProject by_history h n chosen reply → ShowsProject by_history h' n chosen other
      → Agree reply other
  project_agrees chosen (rows, are, shows) (rows', are', shows') =
      one_rows n chosen rows reply other shows
      (subst (λ (it : Option (List FileRow)). ShowsRows n chosen it other) (sym (both.page rows rows' are are')) shows')

  spelling_agrees : (fields : List Field) (is_normal : Bool) → ShowsSpelling by_history h fields n is_normal reply
      → ShowsSpelling by_history h' fields n is_normal other → Agree reply other
  spelling_agrees fields true (chosen, accepted, shows) (chosen', accepted', shows') =
      project_agrees chosen shows
      (subst (λ (it : Option Served). ShowsProject by_history h' n it other) (one_type fields chosen' chosen accepted' accepted) shows')
  spelling_agrees fields false is is' = inl (is ∙ sym is')

  file_agrees : (file : Bytes) → project_of file ≡ n → (is_name : Bool) → ShowsFile by_history h file is_name reply
      → ShowsFile by_history h' file is_name other → Agree reply other
  file_agrees file mine true (body, has, is) (body', has', is') =
      inl (is ∙ ap body_reply (both.bytes file mine body body' has has') ∙ sym is')
  file_agrees file mine false is is' = inl (is ∙ sym is')

  name_agrees : ShowsName by_history h (Some n) reply → ShowsName by_history h' (Some n) other → Agree reply other
  name_agrees (standing, stands, is) (standing', stands', is') =
      inl (is ∙ ap (λ (it : Standing). json_reply (standing_text_of it)) (both.standing standing standing' stands stands') ∙ sym is')

  redirect_agrees : (read : Option Bytes) → RedirectsToProject read reply → RedirectsToProject read other → Agree reply other
  redirect_agrees None is is' = inl (is ∙ sym is')
  redirect_agrees (Some name) is is' = inl (is ∙ sym is')

  -- what is read as the name
  read_is : (read : Option Bytes) → is_read_as read n ≡ true → read ≡ Some n
  read_is None is = absurd (false≢true is)
  read_is (Some name) is = ap Some (sym (same-is n name is))

  resource_agrees : (fields : List Field) (at : Resource) → is_read_as (name_shown at) n ≡ true
      → ShowsResource by_history h fields at reply → ShowsResource by_history h' fields at other → Agree reply other
  resource_agrees fields resource.Simple none shows shows' = absurd (false≢true none)
  resource_agrees fields resource.Root none shows shows' = absurd (false≢true none)
  resource_agrees fields resource.Requests none shows shows' = absurd (false≢true none)
  resource_agrees fields (resource.Project name) is shows shows' = redirect_agrees (read_name name) shows shows'
  resource_agrees fields (resource.ProjectPage name) is shows shows' =
      let reads = read_is (read_name name) is in
      spelling_agrees fields (bytes_eq n name)
      (subst (λ (it : Option Bytes). ShowsPath by_history h fields name it reply) reads shows)
      (subst (λ (it : Option Bytes). ShowsPath by_history h' fields name it other) reads shows')
  resource_agrees fields (resource.File file) is shows shows' =
      file_agrees file (sym (same-is n (project_of file) is)) (is_some (read_file_name file)) shows shows'
  resource_agrees fields (resource.Name name) is shows shows' =
      let reads = read_is (read_name name) is in
      name_agrees (subst (λ (it : Option Bytes). ShowsName by_history h it reply) reads shows)
      (subst (λ (it : Option Bytes). ShowsName by_history h' it other) reads shows')

  look_agrees : (fields : List Field) (at : Resource) → is_read_as (name_shown at) n ≡ true
      → ShowsResource by_history h fields at reply ⊎ ((reply ≡ store_reply) × ⊤)
      → ShowsResource by_history h' fields at other ⊎ ((other ≡ store_reply) × ⊤) → Agree reply other
  look_agrees fields at is (inl shows) (inl shows') = resource_agrees fields at is shows shows'
  look_agrees fields at is (inr failed) shows' = inr (inl failed.0)
  look_agrees fields at is (inl shows) (inr failed) = inr (inr failed.0)

-- ---- messages

module _ (n : Bytes) (h h' : History) (both : ShowSame n h h') (request : HttpRequest) (body : Bytes) (at at' : ℕ)
    (later later' : History) (one other : Bytes) where
  request_agrees : (reads : Bool) → (reads && is_read_as (name_shown request.resource) n) ≡ true
      → RequestGetsText by_history ⊤ at h request body reads one later → RequestGetsText by_history ⊤ at' h' request body reads other later'
      → TextsAgree one other
  request_agrees true is (reply, text, gets) (reply', text', gets') =
      text_agrees (is_head request.method) reply reply' one other text text'
      (look_agrees n h h' both reply reply' request.fields request.resource is gets.0 gets'.0)
  request_agrees false is gets gets' = absurd (false≢true is)

pub replies_agree : (n : Bytes) (message : Message) → looks_at n message ≡ true → DependsOnName n (MayGetAfter message)
replies_agree n (Faulty fault to_head) none h h' agree one other gets gets' = absurd (false≢true none)
replies_agree n (Whole request body) is h h' agree one other (at, later, gets) (at', later', gets') =
    request_agrees n h h' (show_same n h h' agree) request body at at' later later' one other (is_reading request.method) is gets gets'

pub inputs_agree : (n input : Bytes) → GivesMessage (looks_at n) (Some input) → DependsOnName n (InputMayGetAfter input)
inputs_agree n input (start, message, is_start, is_message, is) h h' agree one other (at, later, gets) (at', later', gets') =
    replies_agree n message is h h' agree one other (at, later, of_it at h one later gets) (at', later', of_it at' h' other later' gets')
  where
    of_it : (at : ℕ) (g : History) (text : Bytes) (later : History) → InputGetsText by_history ⊤ at g (Some input) text later
        → MessageGetsText by_history ⊤ at g message text later
    of_it at g text later (read, found, is_read, is_found, gets) =
        subst (λ (it : Message). MessageGetsText by_history ⊤ at g it text later)
        (at_most_one start found message (subst (λ (it : Bytes). IsMessage it found) (is_read ∙ sym is_start) is_found) is_message) gets

-- ---- a wrong outcome

-- the standing of a name after a legal history, and the reply with it
abbrev standing_of : History → Bytes → Standing
standing_of h n = standing_in (tables_of h) n

abbrev reply_of : History → Bytes → Reply
reply_of h n = json_reply (standing_text_of (standing_of h n))

shows_beside : (name n m : Bytes) → read_name name ≡ Some n → (h : History) → IsLegal h
    → MayGetBeside (get_of_name name) m h (reply_text false (reply_of h n) ++ held_byte h m)
shows_beside name n m reads h legal =
    let stands = IsStandingAfter-standing_in h (tables_of h) (legal_made h legal).stands n in
    let shows : ShowsName by_history h (Some n) (reply_of h n) = (standing_of h n, stands, refl) in
    let shown : ShowsName by_history h (read_name name) (reply_of h n) =
    subst (λ (it : Option Bytes). ShowsName by_history h it (reply_of h n)) (sym reads) shows in
    (reply_text false (reply_of h n), (0, h, (reply_of h n, refl, (inl shown, refl))), refl)

module _ (name n m : Bytes) (reads : read_name name ≡ Some n) (h h' : History) (wrong : RefutesOther n m h h') where
  -- the two replies without the byte are the same
  same_reply : reply_of h n ≡ reply_of h' n
  same_reply = ap (λ (it : Standing). json_reply (standing_text_of it)) (wrong.right (standing_of h n) (standing_of h' n)
      (IsStandingAfter-standing_in h (tables_of h) (legal_made h wrong.legal).stands n)
      (IsStandingAfter-standing_in h' (tables_of h') (legal_made h' wrong.legal_too).stands n))

  other_bytes : (b c : Bool) → (¬ (b ≡ c)) → (text : Bytes) → ¬ (text ++ cond b 1 2 ∷ [] ≡ text ++ cond c 1 2 ∷ [])
  other_bytes true true differ text is = differ refl
  other_bytes false false differ text is = differ refl
  other_bytes true false differ text is =
      let no : 1 ≡ 2 = ap first_of (append_cancel_left text (1 ∷ []) (2 ∷ []) is) in absurd (omega (arith, no))
  other_bytes false true differ text is =
      let no : 2 ≡ 1 = ap first_of (append_cancel_left text (2 ∷ []) (1 ∷ []) is) in absurd (omega (arith, no))

  not_beside : ¬ DependsOnName n (MayGetBeside (get_of_name name) m)
  not_beside it =
      let first = shows_beside name n m reads h wrong.legal in
      let second = shows_beside name n m reads h' wrong.legal_too in
      elim (it h h' wrong.agree (reply_text false (reply_of h n) ++ held_byte h m) (reply_text false (reply_of h' n) ++ held_byte h' m)
      first second) [
        | inl is ↦ other_bytes (by_history.is_held h m) (by_history.is_held h' m) wrong.differ (reply_text false (reply_of h n))
            (is ∙ sym (ap (λ (it : Reply). reply_text false it ++ held_byte h' m) same_reply))
        | inr (inl fault) ↦ no_fault_reply false (reply_of h n) (held_byte h m) (λ is. omega (arith, is)) fault
        | inr (inr fault) ↦ no_fault_reply false (reply_of h' n) (held_byte h' m) (λ is. omega (arith, is)) fault
      ]

pub refutes_shown_others : RefutesShownOthers
refutes_shown_others name other n m reads reads_other differ = (
  replies_agree n (get_of_name name) (ap (λ (it : Option Bytes). is_read_as it n) reads ∙ same-refl n),
  not_beside name n m reads (with_claim [] [] name (begins [] [])) (with_claim [] [] name (with_claim [] [] other (begins [] [])))
      (refutes_others [] [] name other n m reads reads_other differ),
)
