-- The open cases after an accepted call are those of the history with it.
use Rattle.index_rules.proofs.Words.{◌≡◌, ℕ, Bool, true, false, cond, refl, sym, ap, ◌∙◌, [], Option, Some, None, is_some, is_none}
use Rattle.index_rules.proofs.Words.{option_map, option_and_then, unwrap_or, get, remove, true≢false, false≢true, not-false, read_name}
use Rattle.index_rules.proofs.Words.{project_of, CaseKind, Attempt, attempt_of, tally_of, attempts_are_counted, BadFileName, BadName}
use Rattle.index_rules.proofs.Words.{NameHeld, NoCase, Call, Request, Claim, AddOwner, RemoveOwner, Upload, Delete, Yank, Unyank}
use Rattle.index_rules.proofs.Words.{Relinquish, Prohibit, Allow, OpenCase, RecordAttempt, Transfer, CloseCase, AnswerCase, CaseRecord}
use Rattle.index_rules.proofs.Words.{Bytes, Tables, read_file, bearer_in, caller_of, facts_in, Accept, verdict_now, is_held, or_empty}
use Rattle.index_rules.proofs.Words.{no_case, tables_with_call, IsSound, History, more, is_read_as, Case, case_after, with_attempt}
use Rattle.index_rules.proofs.Words.{name_after, case_record_after, record_of_case}
use Rattle.index_retention.specs.declared.attempts.Means.{Means}
use Rattle.index_rules.specs.Effect.{with_attempt_noted}
use Rattle.index_rules.proofs.SoundLemmas.{no_project_at}
use Rattle.index_rules.proofs.PutLemmas.{each_put, each_without, without_found}
use Rattle.index_rules.proofs.Accepted.{accepted, and_not}
use Rattle.index_rules.proofs.PastReading.{read_key, read_itself, at_key, at_other}

module _ (T : Tables) (h : History) (sound : IsSound T) (names : (name : Bytes)
    → get T.names name ≡ name_after h name) (stands : (name : Bytes) → get T.cases name ≡ case_record_after h name)
    (at : ℕ) (token actor : Bytes) (acts : or_empty (option_map (λ caller. caller.user) (option_map caller_of (bearer_in T token))) ≡ actor)
  where
    abbrev of : Request → Call
    of request = record { at = at; token = token; request = request }

    abbrev then : Request → History
    then request = more h (record { actor = actor; call = of request })

    -- a case that ends
    ended : (read : Option Bytes) (n : Bytes) → read ≡ Some n → (q : Bytes)
        → get (remove T.cases n) q ≡ option_map record_of_case (cond (is_read_as read q) None (case_after h q))
    ended read n reads = each_without T.cases n (λ q found. found
        ≡ option_map record_of_case (cond (is_read_as read q) None (case_after h q)))
        (sym (ap (option_map record_of_case) (at_key read n reads None (case_after h n))))
        (λ q other. stands q ∙ sym (ap (option_map record_of_case) (at_other read n reads None (case_after h q) q other)))

    ended_by : (read : Option Bytes) → is_none read ≡ false → (q : Bytes)
        → get (remove T.cases (or_empty read)) q ≡ option_map record_of_case (cond (is_read_as read q) None (case_after h q))
    ended_by read unread = ended read (or_empty read) (read_key read unread)

    -- a free name has none
    none_of_free : (n : Bytes) → is_held (get T.names n) ≡ false → (q : Bytes) → get (remove T.cases n) q ≡ case_record_after h q
    none_of_free n free = each_without T.cases n (λ q found. found ≡ case_record_after h q)
        (sym (by (get T.cases n) (sound.cases n)) ∙ stands n) (λ q _. stands q)
      where
        by : (found : Option CaseRecord) → (is_some found ≡ true → is_held (get T.names n) ≡ true) → found ≡ None
        by None held = refl
        by (Some case) held = absurd (false≢true (sym free ∙ held refl))

    opened : (name : Bytes) (kind : CaseKind) (contact work why : Bytes) → is_none (read_name name) ≡ false
        → (q : Bytes) → get (tables_with_call T (of (OpenCase name kind contact work why))).cases q
        ≡ case_record_after (then (OpenCase name kind contact work why)) q
    opened name kind contact work why unread =
        let n : Bytes = or_empty (read_name name) in
        let reads : read_name name ≡ Some n = read_key (read_name name) unread in
        let case : Case = record {
          kind = kind;
          candidate = actor;
          contact = contact;
          work = work;
          why = why;
          opened = at;
          attempts = [];
        } in
        each_put T.cases n (record {
          kind = kind;
          candidate = or_empty (option_map (λ caller. caller.user) (option_map caller_of (bearer_in T token)));
          contact = contact;
          work = work;
          why = why;
          opened = at;
          state = tally_of [];
        })
        (λ q found. found ≡ case_record_after (then (OpenCase name kind contact work why)) q)
        ((λ i. Some (record {
          kind = kind;
          candidate = acts i;
          contact = contact;
          work = work;
          why = why;
          opened = at;
          state = tally_of [];
        }))
        ∙ sym (ap (option_map record_of_case) (at_key (read_name name) n reads (Some case) (case_after h n))))
        (λ q other. stands q ∙ sym (ap (option_map record_of_case)
        (at_other (read_name name) n reads (Some case) (case_after h q) q other)))

    recorded : (name : Bytes) (means : Means) (sent : Bool) → is_none (read_name name) ≡ false
        → is_none (option_and_then (get T.cases) (read_name name)) ≡ false
        → (q : Bytes) → get (tables_with_call T (of (RecordAttempt name means sent))).cases q
        ≡ case_record_after (then (RecordAttempt name means sent)) q
    recorded name means sent unread missing =
        let n : Bytes = or_empty (read_name name) in
        let reads : read_name name ≡ Some n = read_key (read_name name) unread in
        let attempt : Attempt = attempt_of means sent at in
        let found : option_and_then (get T.cases) (read_name name) ≡ case_record_after h n =
        ap (option_and_then (get T.cases)) reads ∙ stands n in
        each_put T.cases n (with_attempt_noted attempt (unwrap_or (option_and_then (get T.cases) (read_name name)) no_case))
        (λ q found. found ≡ case_record_after (then (RecordAttempt name means sent)) q)
        (ap (λ o. Some (with_attempt_noted attempt (unwrap_or o no_case))) found
        ∙ by attempt (case_after h n) (sym (ap is_none found) ∙ missing)
        ∙ sym (ap (option_map record_of_case) (at_key (read_name name) n reads (option_map (with_attempt attempt) (case_after h n))
        (case_after h n))))
        (λ q other. stands q ∙ sym (ap (option_map record_of_case)
        (at_other (read_name name) n reads (option_map (with_attempt attempt) (case_after h q)) (case_after h q) q other)))
      where
        by : (attempt : Attempt) (case : Option Case) → is_none (option_map record_of_case case) ≡ false
            → Some (with_attempt_noted attempt (unwrap_or (option_map record_of_case case) no_case))
            ≡ option_map record_of_case (option_map (with_attempt attempt) case)
        by attempt None missing = absurd (true≢false missing)
        by attempt (Some case) missing = λ i. Some
            (record (record_of_case case) { state = sym (attempts_are_counted attempt case.attempts) i })

    pub step_of_cases : (request : Request) → verdict_now T (of request) ≡ Accept → (q : Bytes)
        → get (tables_with_call T (of request)).cases q ≡ case_record_after (then request) q
    step_of_cases (Claim name) accepts =
        let all = accepted (of (Claim name)) (facts_in T (of (Claim name))) accepts in
        let n : Bytes = or_empty (read_name name) in
        let reads : read_name name ≡ Some n = read_key (read_name name) (all.not_refused BadName refl) in
        none_of_free n (sym (ap (λ r. is_held (option_and_then (get T.names) r)) reads)
        ∙ and_not _ _ (all.not_refused NameHeld refl) all.not_already)
    step_of_cases (AddOwner name user) accepts =
        ended_by (read_name name) ((accepted (of (AddOwner name user)) (facts_in T (of (AddOwner name user))) accepts).not_refused BadName
        refl)
    step_of_cases (RemoveOwner name user) accepts =
        ended_by (read_name name) ((accepted (of (RemoveOwner name user)) (facts_in T (of (RemoveOwner name user))) accepts).not_refused
        BadName refl)
    step_of_cases (Upload file digest body requires) accepts =
        let all = accepted (of (Upload file digest body requires)) (facts_in T (of (Upload file digest body requires))) accepts in
        let read : Option Bytes = option_map project_of (read_file file) in
        let reads : read ≡ Some (project_of file) = ap (option_map project_of) (read_itself file (all.not_refused BadFileName refl)) in
        λ q. ap (λ cases. get cases q) (without_found T.cases read (project_of file) reads) ∙ ended read (project_of file) reads q
    step_of_cases (Delete file) accepts =
        let all = accepted (of (Delete file)) (facts_in T (of (Delete file))) accepts in
        ended (option_map project_of (read_file file)) (project_of file)
        (ap (option_map project_of) (read_itself file (all.not_refused BadFileName refl)))
    step_of_cases (Yank name release reason) accepts =
        ended_by (read_name name) ((accepted (of (Yank name release reason)) (facts_in T (of (Yank name release reason)))
        accepts).not_refused
        BadName refl)
    step_of_cases (Unyank name release) accepts =
        ended_by (read_name name) ((accepted (of (Unyank name release)) (facts_in T (of (Unyank name release))) accepts).not_refused BadName
        refl)
    step_of_cases (Relinquish name) accepts = ended_by (read_name name)
        ((accepted (of (Relinquish name)) (facts_in T (of (Relinquish name))) accepts).not_refused BadName refl)
    step_of_cases (Prohibit name) accepts = ended_by (read_name name)
        ((accepted (of (Prohibit name)) (facts_in T (of (Prohibit name))) accepts).not_refused BadName refl)
    step_of_cases (Allow name) accepts =
        let all = accepted (of (Allow name)) (facts_in T (of (Allow name))) accepts in
        none_of_free (or_empty (read_name name)) (ap is_some (no_project_at T (read_name name) (not-false _ all.not_already)))
    step_of_cases (OpenCase name kind contact work why) accepts =
        opened name kind contact work why ((accepted (of (OpenCase name kind contact work why))
        (facts_in T (of (OpenCase name kind contact work why))) accepts).not_refused BadName refl)
    step_of_cases (RecordAttempt name means sent) accepts =
        let all = accepted (of (RecordAttempt name means sent)) (facts_in T (of (RecordAttempt name means sent))) accepts in
        recorded name means sent (all.not_refused BadName refl) (all.not_refused NoCase refl)
    step_of_cases (Transfer name quiet) accepts =
        ended_by (read_name name) ((accepted (of (Transfer name quiet)) (facts_in T (of (Transfer name quiet))) accepts).not_refused BadName
        refl)
    step_of_cases (CloseCase name) accepts = ended_by (read_name name)
        ((accepted (of (CloseCase name)) (facts_in T (of (CloseCase name))) accepts).not_refused BadName refl)
    step_of_cases (AnswerCase name) accepts = ended_by (read_name name)
        ((accepted (of (AnswerCase name)) (facts_in T (of (AnswerCase name))) accepts).not_refused BadName refl)
    step_of_cases request accepts = stands
