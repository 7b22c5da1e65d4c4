-- In a legal history each entry changes only what its user may change.
use Rattle.index_rules.proofs.Words.{◌≡◌, ◌⊎◌, inl, inr, ℕ, Bool, true, false, cond, not, ◌&&◌, refl, sym, ap, ◌∙◌, subst, [], Option, Some}
use Rattle.index_rules.proofs.Words.{None, is_some, option_map, option_and_then, option_map_or, false≢true, true≢false, cases_Bool}
use Rattle.index_rules.proofs.Words.{or_parts, not-false, read_name, project_of, CaseKind, NotOffice, NotOwner, NameHeld, NameProhibited}
use Rattle.index_rules.proofs.Words.{CaseOpen, Call, Request, AddUser, SetToken, SetQuota, Claim, AddOwner, RemoveOwner, Upload, Delete}
use Rattle.index_rules.proofs.Words.{BanFile, Yank, Unyank, Relinquish, Prohibit, Allow, OpenCase, RecordAttempt, Transfer, CloseCase}
use Rattle.index_rules.proofs.Words.{AnswerCase, Bytes, same, name_key, of_both, Accept, is_held, is_prohibited, History, Entry, begins}
use Rattle.index_rules.proofs.Words.{more, is_read_as, user_after, bearer_after, State, Free, Held, Prohibited, state_after, shown_after}
use Rattle.index_rules.proofs.Words.{quota_after, uploads_after, greatest, is_held_now, is_given_after, owns_after, reason_after}
use Rattle.index_rules.proofs.Words.{is_undeleted_by, UserExists, UserRecord, read_user, read_token, or_empty, first_quota, with_token}
use Rattle.index_rules.proofs.Words.{Case, case_after, candidate_after, first_upload_after, is_undeleted_after, is_banned_after}
use Rattle.index_rules.proofs.Words.{requires_after, last_body_after, last_body_by, name_after, record_of_state, project_after}
use Rattle.index_rules.proofs.Words.{record_of_case, case_record_after, file_of_upload, IsLegal, verdict_after, facts_after, caller_after}
use Rattle.index_rules.proofs.Words.{is_kept, may_move_owners, has_right, WasAllowed, HasOwnersUpload, ServesOwnersUploads, read_file}
use Rattle.index_rules.specs.Verdict.{is_of_office, closes_own_case}
use Rattle.index_rules.proofs.MoveLemmas.{owners_kept}
use Rattle.index_rules.proofs.ServeLemmas.{is_read, still}
use Rattle.index_rules.specs.Rights.{is_office_after, is_prohibited_now, is_claim_of, MakeSame, WereAllowed}
use Rattle.index_rules.specs.Rights.{StaysAsItIs, takes_away, IsUploadOfBody}
use Rattle.index_rules.proofs.Accepted.{accepted, and_not}
use Rattle.index_rules.proofs.OwnerLists.{same-is}
use Rattle.index_rules.proofs.AloneWords.{state_left, shown_left, quota_left, uploads_left, given_left, yanked_left, known_left}
use Rattle.index_rules.proofs.AloneWords.{undeleted_left, banned_left, requires_left, case_left, other_file}

-- ---- what is read

pub read_is : (read : Option Bytes) (n : Bytes) → is_read_as read n ≡ true → read ≡ Some n
read_is None n is = absurd (false≢true is)
read_is (Some x) n is = ap Some (sym (same-is n x is))

body_left : (n f : Bytes) → project_of f ≡ n → (r : Request) → is_kept r n ≡ false → (before : Bytes) → last_body_by r f before ≡ before
body_left n f project (Upload file sha256 body requires) other before =
    ap (λ b. cond b body before) (other_file n f project (read_file file) other)
body_left n f project r other before = refl

-- ---- an entry on another name

entry : (actor token : Bytes) (at : ℕ) (r : Request) → Entry
entry actor token at r = record { actor = actor; call = record { at = at; token = token; request = r } }

module _ (h : History) (actor token : Bytes) (at : ℕ) (n : Bytes) where
  abbrev after : Request → History
  after r = more h (record { actor = actor; call = record { at = at; token = token; request = r } })

  same_if_other : (r : Request) → is_kept r n ≡ false → MakeSame h (after r) n
  same_if_other r other = record {
    state = state_left n r other (state_after h n);
    shown = shown_left n r other (shown_after h n);
    quota = quota_left n r other (quota_after h n);
    last_upload = ap greatest (uploads_left n r at other (uploads_after h n));
    owners = λ u. λ i. is_held_now (state_left n r other (state_after h n) i)
        && given_left n r actor (candidate_after h n) u other (is_given_after h n u) i;
    yanks = λ y. λ i. cond (is_held_now (state_left n r other (state_after h n) i)) (yanked_left n r y other (reason_after h n y) i) None;
    files = λ f project. λ i. option_map (file_of_upload f (requires_left n f project r other (requires_after h f) i)
        (undeleted_left n f project r other (is_undeleted_after h f) i)) (known_left n f project r other (first_upload_after h f) i);
    bodies = λ f project. λ i. cond (undeleted_left n f project r other (is_undeleted_after h f) i)
        (Some (body_left n f project r other (last_body_after h f) i)) None;
    bans = λ f project. banned_left n f project r other (is_banned_after h f);
  }

  apart_if_other : (r : Request) → is_read_as (name_key r) n ≡ false → MakeSame h (after r) n × (case_after (after r) n ≡ case_after h n)
  apart_if_other (AddUser user office digest) other = (
    record {
      state = refl;
      shown = refl;
      quota = refl;
      last_upload = refl;
      owners = λ u. refl;
      yanks = λ y. refl;
      files = λ f p. refl;
      bodies = λ f p. refl;
      bans = λ f p. refl;
    },
    refl,
  )
  apart_if_other (SetToken user digest) other = (
    record {
      state = refl;
      shown = refl;
      quota = refl;
      last_upload = refl;
      owners = λ u. refl;
      yanks = λ y. refl;
      files = λ f p. refl;
      bodies = λ f p. refl;
      bans = λ f p. refl;
    },
    refl,
  )
  apart_if_other r other = (same_if_other r other, case_left n r actor at other (case_after h n))

  -- ---- the rights of the user who made the entry

  module _ (bearer : bearer_after h token ≡ Some actor) where
    abbrev of : Request → Call
    of r = record { at = at; token = token; request = r }

    office_is : (r : Request) → is_of_office (facts_after h (of r)) ≡ is_office_after h actor
    office_is r = ap (λ o. option_map_or (λ caller. caller.office) (option_map (caller_after h) o) false) bearer

    owner_is : (r : Request) → name_key r ≡ Some n → of_both (owns_after h) (name_key r) (bearer_after h token) ≡ owns_after h n actor
    owner_is r reads = λ i. of_both (owns_after h) (reads i) (bearer i)

    -- a request that NotOffice refuses of others is made by the office
    by_office : (r : Request) → (not (is_of_office (facts_after h (of r))) && not (closes_own_case r (facts_after h (of r)))) ≡ false
        → closes_own_case r (facts_after h (of r)) ≡ false → is_office_after h actor ≡ true
    by_office r passed own = sym (office_is r) ∙ not-false _ (and_not _ _ passed own)

    -- a request that NotOwner refuses of others is made by an owner
    by_owner : (r : Request) → name_key r ≡ Some n → not (of_both (owns_after h) (name_key r) (bearer_after h token)) ≡ false
        → owns_after h n actor ≡ true
    by_owner r reads passed = sym (owner_is r reads) ∙ not-false _ passed

    module _ (none : has_right h n actor ≡ false) where
      no_office : is_office_after h actor ≡ true → ⊥
      no_office office = false≢true (sym (or_parts _ _ none).0 ∙ office)

      no_owner : owns_after h n actor ≡ true → ⊥
      no_owner owner = false≢true (sym (or_parts _ _ none).1 ∙ owner)

      office_only : (r : Request) → (not (is_of_office (facts_after h (of r))) && not (closes_own_case r (facts_after h (of r)))) ≡ false
          → closes_own_case r (facts_after h (of r)) ≡ false → ⊥
      office_only r passed own = no_office (by_office r passed own)

      owner_only : (r : Request) → is_read_as (name_key r) n ≡ true
          → not (of_both (owns_after h) (name_key r) (bearer_after h token)) ≡ false → ⊥
      owner_only r kept passed = no_owner (by_owner r (read_is (name_key r) n kept) passed)

      -- an entry on the name, if it is no claim, leaves it as it was
      same_if_kept : (r : Request) → is_kept r n ≡ true → verdict_after h (of r) ≡ Accept → is_claim_of r n ≡ false → MakeSame h (after r) n
      same_if_kept (AddUser user office digest) kept accepts other =
          record {
            state = refl;
            shown = refl;
            quota = refl;
            last_upload = refl;
            owners = λ u. refl;
            yanks = λ y. refl;
            files = λ f p. refl;
            bodies = λ f p. refl;
            bans = λ f p. refl;
          }
      same_if_kept (SetToken user digest) kept accepts other =
          record {
            state = refl;
            shown = refl;
            quota = refl;
            last_upload = refl;
            owners = λ u. refl;
            yanks = λ y. refl;
            files = λ f p. refl;
            bodies = λ f p. refl;
            bans = λ f p. refl;
          }
      same_if_kept (OpenCase name kind contact work why) kept accepts other =
          record {
            state = refl;
            shown = refl;
            quota = refl;
            last_upload = refl;
            owners = λ u. refl;
            yanks = λ y. refl;
            files = λ f p. refl;
            bodies = λ f p. refl;
            bans = λ f p. refl;
          }
      same_if_kept (CloseCase name) kept accepts other =
          record {
            state = refl;
            shown = refl;
            quota = refl;
            last_upload = refl;
            owners = λ u. refl;
            yanks = λ y. refl;
            files = λ f p. refl;
            bodies = λ f p. refl;
            bans = λ f p. refl;
          }
      same_if_kept (Claim name) kept accepts other = absurd (false≢true (sym other ∙ kept))
      same_if_kept (SetQuota name quota) kept accepts other =
          absurd (office_only (SetQuota name quota)
          ((accepted (of (SetQuota name quota)) (facts_after h (of (SetQuota name quota))) accepts).not_refused NotOffice refl) refl)
      same_if_kept (Prohibit name) kept accepts other =
          absurd (office_only (Prohibit name) ((accepted (of (Prohibit name)) (facts_after h (of (Prohibit name))) accepts).not_refused
          NotOffice refl) refl)
      same_if_kept (Allow name) kept accepts other =
          absurd (office_only (Allow name) ((accepted (of (Allow name)) (facts_after h (of (Allow name))) accepts).not_refused NotOffice
          refl) refl)
      same_if_kept (RecordAttempt name means sent) kept accepts other =
          absurd (office_only (RecordAttempt name means sent)
          ((accepted (of (RecordAttempt name means sent)) (facts_after h (of (RecordAttempt name means sent))) accepts).not_refused
          NotOffice refl) refl)
      same_if_kept (Transfer name quiet) kept accepts other =
          absurd (office_only (Transfer name quiet)
          ((accepted (of (Transfer name quiet)) (facts_after h (of (Transfer name quiet))) accepts).not_refused NotOffice refl) refl)
      same_if_kept (BanFile file) kept accepts other =
          absurd (office_only (BanFile file) ((accepted (of (BanFile file)) (facts_after h (of (BanFile file))) accepts).not_refused
          NotOffice refl) refl)
      same_if_kept (AddOwner name user) kept accepts other =
          absurd (owner_only (AddOwner name user) kept
          ((accepted (of (AddOwner name user)) (facts_after h (of (AddOwner name user))) accepts).not_refused NotOwner refl))
      same_if_kept (RemoveOwner name user) kept accepts other =
          absurd (owner_only (RemoveOwner name user) kept
          ((accepted (of (RemoveOwner name user)) (facts_after h (of (RemoveOwner name user))) accepts).not_refused NotOwner refl))
      same_if_kept (Upload file digest body requires) kept accepts other =
          absurd (owner_only (Upload file digest body requires) kept
          ((accepted (of (Upload file digest body requires)) (facts_after h (of (Upload file digest body requires))) accepts).not_refused
          NotOwner refl))
      same_if_kept (Delete file) kept accepts other =
          absurd (owner_only (Delete file) kept
          ((accepted (of (Delete file)) (facts_after h (of (Delete file))) accepts).not_refused NotOwner refl))
      same_if_kept (Yank name release reason) kept accepts other =
          absurd (owner_only (Yank name release reason) kept
          ((accepted (of (Yank name release reason)) (facts_after h (of (Yank name release reason))) accepts).not_refused NotOwner refl))
      same_if_kept (Unyank name release) kept accepts other =
          absurd (owner_only (Unyank name release) kept
          ((accepted (of (Unyank name release)) (facts_after h (of (Unyank name release))) accepts).not_refused NotOwner refl))
      same_if_kept (Relinquish name) kept accepts other =
          absurd (owner_only (Relinquish name) kept
          ((accepted (of (Relinquish name)) (facts_after h (of (Relinquish name))) accepts).not_refused NotOwner refl))
      same_if_kept (AnswerCase name) kept accepts other =
          absurd (owner_only (AnswerCase name) kept
          ((accepted (of (AnswerCase name)) (facts_after h (of (AnswerCase name))) accepts).not_refused NotOwner refl))

      names_allowed : (r : Request) → verdict_after h (of r) ≡ Accept → is_claim_of r n ≡ false → MakeSame h (after r) n
      names_allowed r accepts other = elim (cases_Bool (is_kept r n)) [
        | inl kept ↦ same_if_kept r kept accepts other
        | inr apart ↦ same_if_other r apart
      ]

      -- ---- the case

      abbrev CaseAllowed : Request → Type 0
      CaseAllowed r = (case_after (after r) n ≡ case_after h n) ⊎ ((case_after h n ≡ None) ⊎ (candidate_after h n ≡ Some actor))

      no_case : (o : Option Case) → is_some (option_map record_of_case o) ≡ false → o ≡ None
      no_case None there = refl
      no_case (Some case) there = absurd (true≢false there)

      own_case : (o : Option Case) → option_map_or (λ case. same case.candidate actor) (option_map record_of_case o) false ≡ true
          → option_map (λ case. case.candidate) o ≡ Some actor
      own_case None own = absurd (false≢true own)
      own_case (Some case) own = ap Some (same-is case.candidate actor own)

      closed : (name : Bytes) → read_name name ≡ Some n → verdict_after h (of (CloseCase name)) ≡ Accept → candidate_after h n ≡ Some actor
      closed name reads accepts =
          let passed = (accepted (of (CloseCase name)) (facts_after h (of (CloseCase name))) accepts).not_refused NotOffice refl in
          elim (cases_Bool (closes_own_case (CloseCase name) (facts_after h (of (CloseCase name))))) [
            | inl own ↦ own_case (case_after h n)
                (sym (λ i. option_map_or (λ case. option_map_or (λ caller. same case.candidate caller.user)
                (option_map (caller_after h) (bearer i)) false) (option_and_then (case_record_after h) (reads i)) false) ∙ own)
            | inr other ↦ absurd (office_only (CloseCase name) passed other)
          ]

      opened : (name : Bytes) (kind : CaseKind) (contact work why : Bytes) → read_name name ≡ Some n
          → verdict_after h (of (OpenCase name kind contact work why)) ≡ Accept → case_after h n ≡ None
      opened name kind contact work why reads accepts =
          no_case (case_after h n) (sym (ap (λ read. is_some (option_and_then (case_record_after h) read)) reads)
          ∙ (accepted (of (OpenCase name kind contact work why)) (facts_after h (of (OpenCase name kind contact work why)))
          accepts).not_refused CaseOpen refl)

      case_if_kept : (r : Request) → is_kept r n ≡ true → verdict_after h (of r) ≡ Accept → CaseAllowed r
      case_if_kept (AddUser user office digest) kept accepts = inl refl
      case_if_kept (SetToken user digest) kept accepts = inl refl
      case_if_kept (Claim name) kept accepts = inl refl
      case_if_kept (SetQuota name quota) kept accepts = inl refl
      case_if_kept (Allow name) kept accepts = inl refl
      case_if_kept (BanFile file) kept accepts = inl refl
      case_if_kept (OpenCase name kind contact work why) kept accepts =
          inr (inl (opened name kind contact work why (read_is (read_name name) n kept) accepts))
      case_if_kept (CloseCase name) kept accepts = inr (inr (closed name (read_is (read_name name) n kept) accepts))
      case_if_kept (Prohibit name) kept accepts =
          absurd (office_only (Prohibit name) ((accepted (of (Prohibit name)) (facts_after h (of (Prohibit name))) accepts).not_refused
          NotOffice refl) refl)
      case_if_kept (RecordAttempt name means sent) kept accepts =
          absurd (office_only (RecordAttempt name means sent)
          ((accepted (of (RecordAttempt name means sent)) (facts_after h (of (RecordAttempt name means sent))) accepts).not_refused
          NotOffice refl) refl)
      case_if_kept (Transfer name quiet) kept accepts =
          absurd (office_only (Transfer name quiet)
          ((accepted (of (Transfer name quiet)) (facts_after h (of (Transfer name quiet))) accepts).not_refused NotOffice refl) refl)
      case_if_kept (AddOwner name user) kept accepts =
          absurd (owner_only (AddOwner name user) kept
          ((accepted (of (AddOwner name user)) (facts_after h (of (AddOwner name user))) accepts).not_refused NotOwner refl))
      case_if_kept (RemoveOwner name user) kept accepts =
          absurd (owner_only (RemoveOwner name user) kept
          ((accepted (of (RemoveOwner name user)) (facts_after h (of (RemoveOwner name user))) accepts).not_refused NotOwner refl))
      case_if_kept (Upload file digest body requires) kept accepts =
          absurd (owner_only (Upload file digest body requires) kept
          ((accepted (of (Upload file digest body requires)) (facts_after h (of (Upload file digest body requires))) accepts).not_refused
          NotOwner refl))
      case_if_kept (Delete file) kept accepts =
          absurd (owner_only (Delete file) kept
          ((accepted (of (Delete file)) (facts_after h (of (Delete file))) accepts).not_refused NotOwner refl))
      case_if_kept (Yank name release reason) kept accepts =
          absurd (owner_only (Yank name release reason) kept
          ((accepted (of (Yank name release reason)) (facts_after h (of (Yank name release reason))) accepts).not_refused NotOwner refl))
      case_if_kept (Unyank name release) kept accepts =
          absurd (owner_only (Unyank name release) kept
          ((accepted (of (Unyank name release)) (facts_after h (of (Unyank name release))) accepts).not_refused NotOwner refl))
      case_if_kept (Relinquish name) kept accepts =
          absurd (owner_only (Relinquish name) kept
          ((accepted (of (Relinquish name)) (facts_after h (of (Relinquish name))) accepts).not_refused NotOwner refl))
      case_if_kept (AnswerCase name) kept accepts =
          absurd (owner_only (AnswerCase name) kept
          ((accepted (of (AnswerCase name)) (facts_after h (of (AnswerCase name))) accepts).not_refused NotOwner refl))

      cases_allowed : (r : Request) → verdict_after h (of r) ≡ Accept → CaseAllowed r
      cases_allowed r accepts = elim (cases_Bool (is_kept r n)) [
        | inl kept ↦ case_if_kept r kept accepts
        | inr apart ↦ inl (case_left n r actor at apart (case_after h n))
      ]

    -- ---- a claim

    free_if : (s : State) → is_prohibited (record_of_state s (project_after h n)) ≡ false
        → is_held (record_of_state s (project_after h n)) ≡ false → s ≡ Free
    free_if Free prohibited held = refl
    free_if Held prohibited held = absurd (true≢false held)
    free_if Prohibited prohibited held = absurd (true≢false prohibited)

    claims_free : (r : Request) → verdict_after h (of r) ≡ Accept → is_claim_of r n ≡ true → state_after h n ≡ Free
    claims_free (Claim name) accepts is =
        let reads = read_is (read_name name) n is in
        let all = accepted (of (Claim name)) (facts_after h (of (Claim name))) accepts in
        let held = all.not_refused NameHeld refl in
        free_if (state_after h n)
        (sym (ap (λ read. is_prohibited (option_and_then (name_after h) read)) reads) ∙ all.not_refused NameProhibited refl)
        (sym (ap (λ read. is_held (option_and_then (name_after h) read)) reads) ∙ and_not _ _ held all.not_already)
    claims_free r accepts is = absurd (false≢true is)

    -- ---- the owners of a held name

    held_is : (s : State) → s ≡ Held → is_prohibited (record_of_state s (project_after h n)) ≡ false
    held_is s is = ap (λ s. is_prohibited (record_of_state s (project_after h n))) is

    free_is : Free ≡ Held → ⊥
    free_is is = false≢true (ap is_held_now is)

    owners_stay : (r : Request) → verdict_after h (of r) ≡ Accept → state_after h n ≡ Held → owns_after h n actor ≡ false
        → takes_away r n ≡ false
        → may_move_owners r n ≡ true → ⊥
    owners_stay (Claim name) accepts held none kept moves = free_is (sym (claims_free (Claim name) accepts moves) ∙ held)
    owners_stay (Allow name) accepts held none kept moves =
        false≢true (sym (held_is (state_after h n) held)
        ∙ sym (ap (λ read. is_prohibited (option_and_then (name_after h) read)) (read_is (read_name name) n moves))
        ∙ not-false _ (accepted (of (Allow name)) (facts_after h (of (Allow name))) accepts).not_already)
    owners_stay (Transfer name quiet) accepts held none kept moves = false≢true (sym kept ∙ moves)
    owners_stay (Prohibit name) accepts held none kept moves = false≢true (sym kept ∙ moves)
    owners_stay (AddOwner name user) accepts held none kept moves =
        false≢true (sym none ∙ by_owner (AddOwner name user) (read_is (read_name name) n moves)
        ((accepted (of (AddOwner name user)) (facts_after h (of (AddOwner name user))) accepts).not_refused NotOwner refl))
    owners_stay (RemoveOwner name user) accepts held none kept moves =
        false≢true (sym none ∙ by_owner (RemoveOwner name user) (read_is (read_name name) n moves)
        ((accepted (of (RemoveOwner name user)) (facts_after h (of (RemoveOwner name user))) accepts).not_refused NotOwner refl))
    owners_stay (Relinquish name) accepts held none kept moves =
        false≢true (sym none ∙ by_owner (Relinquish name) (read_is (read_name name) n moves)
        ((accepted (of (Relinquish name)) (facts_after h (of (Relinquish name))) accepts).not_refused NotOwner refl))
    owners_stay r accepts held none kept moves = false≢true moves

    owners_allowed : (r : Request) → verdict_after h (of r) ≡ Accept → state_after h n ≡ Held → owns_after h n actor ≡ false
        → takes_away r n ≡ false
        → (u : Bytes) → owns_after (after r) n u ≡ owns_after h n u
    owners_allowed r accepts held none kept u = elim (cases_Bool (may_move_owners r n)) [
      | inl moves ↦ absurd (owners_stay r accepts held none kept moves)
      | inr stays ↦ owners_kept r actor (candidate_after h n) n u (state_after h n) (is_given_after h n u) stays
    ]

    -- ---- the bytes of a file of the name

    uploads_or_was : (f : Bytes) → project_of f ≡ n → (r : Request) → verdict_after h (of r) ≡ Accept → (bytes : Bytes)
        → is_undeleted_by r f (is_undeleted_after h f) ≡ true → last_body_by r f (last_body_after h f) ≡ bytes
        → (IsUploadOfBody r f bytes × (owns_after h (project_of f) actor ≡ true))
        ⊎ ((is_undeleted_after h f ≡ true) × (last_body_after h f ≡ bytes))
    uploads_or_was f project (Upload file digest body requires) accepts bytes there last =
        by (is_read_as (read_file file) f) refl there last
      where
        by : (b : Bool) → is_read_as (read_file file) f ≡ b → cond b true (is_undeleted_after h f) ≡ true
            → cond b body (last_body_after h f) ≡ bytes
            → (((read_file file ≡ Some f) × (body ≡ bytes)) × (owns_after h (project_of f) actor ≡ true))
            ⊎ ((is_undeleted_after h f ≡ true) × (last_body_after h f ≡ bytes))
        by true read there last = inl (
          (is_read (read_file file) f read, last),
          ap (λ m. owns_after h m actor) project
              ∙ by_owner (Upload file digest body requires) (ap (option_map project_of) (is_read (read_file file) f read) ∙ ap Some project)
              ((accepted (of (Upload file digest body requires)) (facts_after h (of (Upload file digest body requires)))
              accepts).not_refused NotOwner refl),
        )
        by false read there last = inr (there, last)
    uploads_or_was f project (Delete file) accepts bytes there last =
        inr (still (is_read_as (read_file file) f) (is_undeleted_after h f) there, last)
    uploads_or_was f project (BanFile file) accepts bytes there last =
        inr (still (is_read_as (read_file file) f) (is_undeleted_after h f) there, last)
    uploads_or_was f project (Prohibit name) accepts bytes there last =
        inr (still (is_read_as (read_name name) (project_of f)) (is_undeleted_after h f) there, last)
    uploads_or_was f project r accepts bytes there last = inr (there, last)

    -- ---- users

    users_kept : (is_office_after h actor ≡ false) → (r : Request) → verdict_after h (of r) ≡ Accept → (u : Bytes)
        → user_after (after r) u ≡ user_after h u
    users_kept none (AddUser user office digest) accepts u =
        absurd (false≢true (sym none ∙ by_office (AddUser user office digest)
        ((accepted (of (AddUser user office digest)) (facts_after h (of (AddUser user office digest))) accepts).not_refused NotOffice refl)
        refl))
    users_kept none (SetToken user digest) accepts u =
        absurd (false≢true (sym none ∙ by_office (SetToken user digest)
        ((accepted (of (SetToken user digest)) (facts_after h (of (SetToken user digest))) accepts).not_refused NotOffice refl) refl))
    users_kept none r accepts u = refl

    -- ---- what the office alone does

    quotas_kept : is_office_after h actor ≡ false → (r : Request) → verdict_after h (of r) ≡ Accept → is_claim_of r n ≡ false
        → quota_after (after r) n ≡ quota_after h n
    quotas_kept none (SetQuota name quota) accepts other =
        absurd (false≢true (sym none ∙ by_office (SetQuota name quota)
        ((accepted (of (SetQuota name quota)) (facts_after h (of (SetQuota name quota))) accepts).not_refused NotOffice refl) refl))
    quotas_kept none (Claim name) accepts other = ap (λ b. cond b first_quota (quota_after h n)) other
    quotas_kept none r accepts other = refl

    bans_kept : is_office_after h actor ≡ false → (r : Request) → verdict_after h (of r) ≡ Accept → (f : Bytes)
        → is_banned_after (after r) f ≡ is_banned_after h f
    bans_kept none (BanFile file) accepts f = absurd
        (false≢true (sym none ∙ by_office (BanFile file)
        ((accepted (of (BanFile file)) (facts_after h (of (BanFile file))) accepts).not_refused NotOffice refl) refl))
    bans_kept none r accepts f = refl

    was_prohibited : (b : Bool) (s t : State) → is_prohibited_now t ≡ false → is_prohibited_now (cond b t s) ≡ true
        → is_prohibited_now s ≡ true
    was_prohibited true s t other is = absurd (false≢true (sym other ∙ is))
    was_prohibited false s t other is = is

    prohibited_before : is_office_after h actor ≡ false → (r : Request) → verdict_after h (of r) ≡ Accept
        → is_prohibited_now (state_after (after r) n) ≡ true → is_prohibited_now (state_after h n) ≡ true
    prohibited_before none (Prohibit name) accepts is =
        absurd (false≢true (sym none ∙ by_office (Prohibit name)
        ((accepted (of (Prohibit name)) (facts_after h (of (Prohibit name))) accepts).not_refused NotOffice refl) refl))
    prohibited_before none (Claim name) accepts is = was_prohibited (is_read_as (read_name name) n) (state_after h n) Held refl is
    prohibited_before none (Relinquish name) accepts is = was_prohibited (is_read_as (read_name name) n) (state_after h n) Free refl is
    prohibited_before none (Allow name) accepts is = was_prohibited (is_read_as (read_name name) n) (state_after h n) Free refl is
    prohibited_before none r accepts is = is

    flags_kept : (r : Request) → verdict_after h (of r) ≡ Accept → (u : Bytes) (x : UserRecord) → user_after h u ≡ Some x
        → (y : UserRecord) × (user_after (after r) u ≡ Some y) × (y.office ≡ x.office)
    flags_kept (AddUser user office digest) accepts u x is = elim (cases_Bool (is_read_as (read_user user) u)) [
      | inl same ↦
          let all = accepted (of (AddUser user office digest)) (facts_after h (of (AddUser user office digest))) accepts in
          let none : is_some (option_and_then (user_after h) (read_user user)) ≡ false =
          and_not _ _ (all.not_refused UserExists refl) all.not_already in
          absurd (false≢true (sym none ∙ ap (λ read. is_some (option_and_then (user_after h) read)) (read_is (read_user user) u same)
          ∙ ap is_some is))
      | inr other ↦ (
        x,
        ap (λ b. cond b (Some (record { office = office; token = or_empty (read_token digest) })) (user_after h u)) other
            ∙ is,
        refl,
      )
    ]
    flags_kept (SetToken user digest) accepts u x is = elim (cases_Bool (is_read_as (read_user user) u)) [
      | inl same ↦ (
        with_token (or_empty (read_token digest)) x,
        ap (λ b. cond b (option_map (with_token (or_empty (read_token digest))) (user_after h u)) (user_after h u)) same
            ∙ ap (option_map (with_token (or_empty (read_token digest)))) is,
        refl,
      )
      | inr other ↦ (
        x,
        ap (λ b. cond b (option_map (with_token (or_empty (read_token digest))) (user_after h u)) (user_after h u)) other
            ∙ is,
        refl,
      )
    ]
    flags_kept r accepts u x is = (x, is, refl)

-- ---- each entry

pub was_allowed : (h : History) (e : Entry) → IsLegal (more h e) → WasAllowed h e
was_allowed h e legal = record {
  users = λ none. users_kept h e.actor e.call.token e.call.at [] legal.2 none e.call.request legal.1;
  flags = λ u x is. flags_kept h e.actor e.call.token e.call.at [] legal.2 e.call.request legal.1 u x is;
  names = λ n none other. names_allowed h e.actor e.call.token e.call.at n legal.2 none e.call.request legal.1 other;
  owners = λ n held none kept. owners_allowed h e.actor e.call.token e.call.at n legal.2 e.call.request legal.1 held none kept;
  claims = λ n is. claims_free h e.actor e.call.token e.call.at n legal.2 e.call.request legal.1 is;
  quotas = λ none n other. quotas_kept h e.actor e.call.token e.call.at n legal.2 none e.call.request legal.1 other;
  bans = λ none f. bans_kept h e.actor e.call.token e.call.at [] legal.2 none e.call.request legal.1 f;
  prohibited = λ none n is. prohibited_before h e.actor e.call.token e.call.at n legal.2 none e.call.request legal.1 is;
  apart = λ n other. apart_if_other h e.actor e.call.token e.call.at n e.call.request other;
  cases = λ n none. cases_allowed h e.actor e.call.token e.call.at n legal.2 none e.call.request legal.1;
}

pub were_allowed : (h : History) → IsLegal h → WereAllowed h
were_allowed (begins user token) legal = tt
were_allowed (more h e) legal = (were_allowed h legal.0, was_allowed h e legal)

-- ---- many entries

same_itself : (h : History) (n : Bytes) → MakeSame h h n
same_itself h n = record {
  state = refl;
  shown = refl;
  quota = refl;
  last_upload = refl;
  owners = λ u. refl;
  yanks = λ y. refl;
  files = λ f p. refl;
  bodies = λ f p. refl;
  bans = λ f p. refl;
}

same_then : (g h k : History) (n : Bytes) → MakeSame g h n → MakeSame h k n → MakeSame g k n
same_then g h k n one two = record {
  state = two.state ∙ one.state;
  shown = two.shown ∙ one.shown;
  quota = two.quota ∙ one.quota;
  last_upload = two.last_upload ∙ one.last_upload;
  owners = λ u. two.owners u ∙ one.owners u;
  yanks = λ y. two.yanks y ∙ one.yanks y;
  files = λ f p. two.files f p ∙ one.files f p;
  bodies = λ f p. two.bodies f p ∙ one.bodies f p;
  bans = λ f p. two.bans f p ∙ one.bans f p;
}

pub stays_as_it_is : (h' : History) → IsLegal h' → StaysAsItIs h'
stays_as_it_is (begins user token) legal = λ n h others. subst (λ g. MakeSame g (begins user token) n) (sym others)
    (same_itself (begins user token) n)
stays_as_it_is (more h' e) legal = λ n h others. elim others [
  | inl is ↦ subst (λ g. MakeSame g (more h' e) n) (sym is) (same_itself (more h' e) n)
  | inr before ↦ same_then h h' (more h' e) n (stays_as_it_is h' legal.0 n h before.0) ((was_allowed h' e legal).names n before.1 before.2)
]

-- ---- the bytes of a file

undeleted_upload : (h : History) → IsLegal h → (f bytes : Bytes) → is_undeleted_after h f ≡ true → last_body_after h f ≡ bytes
    → HasOwnersUpload h f bytes
undeleted_upload (begins user token) legal f bytes there last = absurd (false≢true there)
undeleted_upload (more h e) legal f bytes there last =
    elim (uploads_or_was h e.actor e.call.token e.call.at (project_of f) legal.2 f refl e.call.request legal.1 bytes there last) [
      | inl now ↦ inl now
      | inr was ↦ inr (undeleted_upload h legal.0 f bytes was.0 was.1)
    ]

pub serves_owners_uploads : (h : History) → IsLegal h → ServesOwnersUploads h
serves_owners_uploads h legal f bytes is = by (is_undeleted_after h f) refl is
  where
    by : (b : Bool) → is_undeleted_after h f ≡ b → cond b (Some (last_body_after h f)) None ≡ Some bytes → HasOwnersUpload h f bytes
    by true there is = let last : last_body_after h f ≡ bytes = cc in undeleted_upload h legal f bytes there last
    by false gone is = absurd cc
