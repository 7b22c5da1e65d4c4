-- The names after an accepted call are those of the history with it, once their numbers are.
use Rattle.index_rules.proofs.Words.{◌≡◌, ℕ, Bool, true, false, cond, not, refl, sym, ap, ◌∙◌, subst, Option, Some, None, is_some, is_none}
use Rattle.index_rules.proofs.Words.{option_map, option_and_then, unwrap_or, length, [], ◌∷◌, option_map_or, get, insert, remove}
use Rattle.index_rules.proofs.Words.{false≢true, not-false, read_name, project_of, BadFileName, BadName, NoProject, Call, Request, SetQuota}
use Rattle.index_rules.proofs.Words.{Claim, Upload, Delete, BanFile, Relinquish, Prohibit, Allow, NameRecord, Project, first_quota, Bytes}
use Rattle.index_rules.proofs.Words.{Tables, read_file, facts_in, Accept, verdict_now, held_project, is_held, is_undeleted, or_empty}
use Rattle.index_rules.proofs.Words.{no_project, the_file, with_file, without_file, with_project, tables_with_call, History, more}
use Rattle.index_rules.proofs.Words.{is_read_as, State, Free, Held, Prohibited, state_after, shown_after, quota_after, uploads_after}
use Rattle.index_rules.proofs.Words.{greatest, last_upload_after, record_of_state, project_after, name_after}
use Rattle.std.proofs.Common.{max}
use Rattle.index_rules.specs.declared.records.NameRecord.TheVariants as name_record
use Rattle.index_rules.specs.Effect.{later}
use Rattle.index_rules.proofs.PutLemmas.{each_put, each_without}
use Rattle.index_rules.proofs.Accepted.{accepted}
use Rattle.index_rules.proofs.PastReading.{read_key, read_itself, at_key, at_other}

-- the record has this state, and a held name is shown so and has this quota and this latest upload
abbrev pub IsShaped : Option NameRecord → State → Bytes → ℕ → Option ℕ → Type 0
IsShaped found Free shown quota last = found ≡ None
IsShaped found Held shown quota last =
    (project : Project) × (found ≡ Some (name_record.Held project)) × (project.shown ≡ shown) × (project.quota ≡ quota)
    × (project.last_upload ≡ last)
IsShaped found Prohibited shown quota last = found ≡ Some name_record.Prohibited

abbrev pub IsNamed : History → Bytes → Option NameRecord → Type 0
IsNamed h n found = IsShaped found (state_after h n) (shown_after h n) (quota_after h n) (last_upload_after h n)

IsShaped-by : (s : State) (project : Project) (found : Option NameRecord) → found ≡ record_of_state s project
    → IsShaped found s project.shown project.quota project.last_upload
IsShaped-by Free project found is = is
IsShaped-by Held project found is = (project, is, refl, refl, refl)
IsShaped-by Prohibited project found is = is

IsShaped-same : (found : Option NameRecord) (s s' : State) (shown shown' : Bytes) (quota quota' : ℕ) (last last' : Option ℕ)
    → s ≡ s' → shown ≡ shown' → quota ≡ quota' → last ≡ last' → IsShaped found s shown quota last → IsShaped found s' shown' quota' last'
IsShaped-same found s s' shown shown' quota quota' last last' e f g k is =
    subst (λ (x : State × Bytes × ℕ × Option ℕ). IsShaped found x.0 x.1 x.2 x.3) (λ i. (e i, f i, g i, k i)) is

IsShaped-held : (s : State) (shown : Bytes) (quota : ℕ) (last : Option ℕ) (project : Project)
    → s ≡ Held → project.shown ≡ shown → project.quota ≡ quota → project.last_upload ≡ last
    → IsShaped (Some (name_record.Held project)) s shown quota last
IsShaped-held s shown quota last project e f g k =
    subst (λ s. IsShaped (Some (name_record.Held project)) s shown quota last) (sym e) (project, refl, f, g, k)

-- the later of the latest upload and a moment is the greatest with it
later-greatest : (at : ℕ) (before : Option ℕ) → Some (later before at) ≡ Some (option_map_or (max at) before at)
later-greatest at None = refl
later-greatest at (Some moment) = refl

-- of a name that is held the history says so, and has its numbers
pub record IsHeldAt (T : Tables) (h : History) (n : Bytes) : Type 0 where
  pub state : state_after h n ≡ Held
  pub project : held_project (get T.names n) ≡ Some (project_after h n)

pub held_at : (T : Tables) (h : History) (n : Bytes) → get T.names n ≡ name_after h n → is_held (get T.names n) ≡ true → IsHeldAt T h n
held_at T h n stands held = by (state_after h n) refl (sym (ap is_held stands) ∙ held)
  where
    by : (s : State) → state_after h n ≡ s → is_held (record_of_state (state_after h n) (project_after h n)) ≡ true → IsHeldAt T h n
    by Free is held = absurd (false≢true (ap (λ s. is_held (record_of_state s (project_after h n))) (sym is) ∙ held))
    by Held is held = record {
      state = is;
      project =
          ap held_project stands ∙ ap (λ s. held_project (record_of_state s (project_after h n))) is;
    }
    by Prohibited is held = absurd (false≢true (ap (λ s. is_held (record_of_state s (project_after h n))) (sym is) ∙ held))

module _ (T : Tables) (h : History) (stands : (name : Bytes) → get T.names name ≡ name_after h name) (at : ℕ) (token actor : Bytes) where
  abbrev of : Request → Call
  of request = record { at = at; token = token; request = request }

  abbrev then : Request → History
  then request = more h (record { actor = actor; call = of request })

  before : (n : Bytes) → IsNamed h n (get T.names n)
  before n = IsShaped-by (state_after h n) (project_after h n) (get T.names n) (stands n)

  -- what the facts have of the name of a request
  pub held_by : (read : Option Bytes) (n : Bytes) → read ≡ Some n → not (is_held (option_and_then (get T.names) read)) ≡ false
      → IsHeldAt T h n × (unwrap_or (held_project (option_and_then (get T.names) read)) no_project ≡ project_after h n)
  held_by read n reads missing =
      let found : option_and_then (get T.names) read ≡ get T.names n = ap (option_and_then (get T.names)) reads in
      let there = held_at T h n (stands n) (sym (ap is_held found) ∙ not-false _ missing) in
      (there, ap (λ o. unwrap_or (held_project o) no_project) found ∙ ap (λ o. unwrap_or o no_project) there.project)

  quota_set : (name : Bytes) (quota : ℕ) → verdict_now T (of (SetQuota name quota)) ≡ Accept → (q : Bytes)
      → IsNamed (then (SetQuota name quota)) q (get (tables_with_call T (of (SetQuota name quota))).names q)
  quota_set name quota accepts =
      let all = accepted (of (SetQuota name quota)) (facts_in T (of (SetQuota name quota))) accepts in
      let n : Bytes = or_empty (read_name name) in
      let reads : read_name name ≡ Some n = read_key (read_name name) (all.not_refused BadName refl) in
      let held = held_by (read_name name) n reads (all.not_refused NoProject refl) in
      let project : Project = unwrap_or (held_project (option_and_then (get T.names) (read_name name))) no_project in
      each_put T.names n (name_record.Held (record project { quota = quota })) (IsNamed (then (SetQuota name quota)))
      (IsShaped-held (state_after h n) (shown_after h n) (quota_after (then (SetQuota name quota)) n) (last_upload_after h n)
      (record project { quota = quota }) held.0.state (λ i. (held.1 i).shown)
      (sym (at_key (read_name name) n reads quota (quota_after h n)))
      (λ i. (held.1 i).last_upload))
      (λ q other. IsShaped-same (get T.names q) _ _ _ _ _ _ _ _ refl refl
      (sym (at_other (read_name name) n reads quota (quota_after h q) q other)) refl (before q))

  claimed : (name : Bytes) → is_none (read_name name) ≡ false → (q : Bytes)
      → IsNamed (then (Claim name)) q (get (tables_with_call T (of (Claim name))).names q)
  claimed name unread =
      let n : Bytes = or_empty (read_name name) in
      let reads : read_name name ≡ Some n = read_key (read_name name) unread in
      let project : Project = record { shown = name; quota = first_quota; charge = 0; undeleted = 0; last_upload = None } in
      each_put T.names n (name_record.Held project) (IsNamed (then (Claim name)))
      (IsShaped-held _ _ _ _ project (at_key (read_name name) n reads Held (state_after h n))
      (sym (at_key (read_name name) n reads name (shown_after h n)))
      (sym (at_key (read_name name) n reads first_quota (quota_after h n)))
      (sym (ap greatest (at_key (read_name name) n reads [] (uploads_after h n)))))
      (λ q other. IsShaped-same (get T.names q) _ _ _ _ _ _ _ _
      (sym (at_other (read_name name) n reads Held (state_after h q) q other))
      (sym (at_other (read_name name) n reads name (shown_after h q) q other))
      (sym (at_other (read_name name) n reads first_quota (quota_after h q) q other))
      (sym (ap greatest (at_other (read_name name) n reads [] (uploads_after h q) q other))) (before q))

  -- a held name with other numbers
  numbered : (n : Bytes) (project : Project) → state_after h n ≡ Held → project.shown ≡ shown_after h n → project.quota ≡ quota_after h n
      → project.last_upload ≡ last_upload_after h n
      → (q : Bytes) → IsNamed h q (get (insert T.names n (name_record.Held project)) q)
  numbered n project held shown quota last =
      each_put T.names n (name_record.Held project) (IsNamed h)
      (IsShaped-held (state_after h n) (shown_after h n) (quota_after h n) (last_upload_after h n) project held shown quota last)
      (λ q other. before q)

  -- a name that goes, or is prohibited
  freed : (read : Option Bytes) → is_none read ≡ false → (q : Bytes)
      → IsShaped (get (remove T.names (or_empty read)) q) (cond (is_read_as read q) Free (state_after h q)) (shown_after h q)
      (quota_after h q) (last_upload_after h q)
  freed read unread =
      let reads : read ≡ Some (or_empty read) = read_key read unread in
      each_without T.names (or_empty read) (λ q found. IsShaped found (cond (is_read_as read q) Free (state_after h q)) (shown_after h q)
      (quota_after h q) (last_upload_after h q))
      (IsShaped-same None _ _ _ _ _ _ _ _ (sym (at_key read (or_empty read) reads Free (state_after h (or_empty read))))
      refl refl refl refl)
      (λ q other. IsShaped-same (get T.names q) _ _ _ _ _ _ _ _ (sym (at_other read (or_empty read) reads Free (state_after h q) q other))
      refl refl refl (before q))

  prohibited : (name : Bytes) → is_none (read_name name) ≡ false → (q : Bytes)
      → IsNamed (then (Prohibit name)) q (get (tables_with_call T (of (Prohibit name))).names q)
  prohibited name unread =
      let n : Bytes = or_empty (read_name name) in
      let reads : read_name name ≡ Some n = read_key (read_name name) unread in
      each_put T.names n name_record.Prohibited (IsNamed (then (Prohibit name)))
      (IsShaped-same (Some name_record.Prohibited) _ _ _ _ _ _ _ _ (sym (at_key (read_name name) n reads Prohibited (state_after h n)))
      refl refl refl refl)
      (λ q other. IsShaped-same (get T.names q) _ _ _ _ _ _ _ _
      (sym (at_other (read_name name) n reads Prohibited (state_after h q) q other)) refl refl refl (before q))

  uploaded : (file digest body requires : Bytes) → read_file file ≡ Some file
      → not (is_held (option_and_then (get T.names) (option_map project_of (read_file file)))) ≡ false
      → (q : Bytes) → IsNamed (then (Upload file digest body requires)) q
      (get (tables_with_call T (of (Upload file digest body requires))).names q)
  uploaded file digest body requires is_file missing =
      let n : Bytes = project_of file in
      let read : Option Bytes = option_map project_of (read_file file) in
      let reads : read ≡ Some n = ap (option_map project_of) is_file in
      let held = held_by read n reads missing in
      let project : Project = unwrap_or (held_project (option_and_then (get T.names) read)) no_project in
      each_put T.names n (name_record.Held (with_file at (length body) project)) (IsNamed (then (Upload file digest body requires)))
      (IsShaped-held (state_after h n) (shown_after h n) (quota_after h n) (last_upload_after (then (Upload file digest body requires)) n)
      (with_file at (length body) project) held.0.state (λ i. (held.1 i).shown) (λ i. (held.1 i).quota)
      ((λ i. Some (later (held.1 i).last_upload at)) ∙ later-greatest at (last_upload_after h n)
      ∙ sym (ap greatest (at_key read n reads (at ∷ uploads_after h n) (uploads_after h n)))))
      (λ q other. IsShaped-same (get T.names q) _ _ _ _ _ _ _ _ refl refl refl
      (sym (ap greatest (at_other read n reads (at ∷ uploads_after h q) (uploads_after h q) q other))) (before q))

  -- a name that loses a file, if it is held
  left : (n : Bytes) (size : ℕ) (found : Option Project) (undeleted : Bool)
      → ((project : Project) → found ≡ Some project → IsHeldAt T h n × (project ≡ project_after h n))
      → (q : Bytes) → IsNamed h q (get (with_project n (cond undeleted (option_map (without_file size) found) None) T.names) q)
  left n size None true held = before
  left n size None false held = before
  left n size (Some project) false held = before
  left n size (Some project) true held =
      let at = held project refl in
      numbered n (without_file size project) at.0.state (λ i. (at.1 i).shown) (λ i. (at.1 i).quota) (λ i. (at.1 i).last_upload)

  pub step_of_names : (request : Request) → verdict_now T (of request) ≡ Accept → (q : Bytes)
      → IsNamed (then request) q (get (tables_with_call T (of request)).names q)
  step_of_names (SetQuota name quota) accepts = quota_set name quota accepts
  step_of_names (Claim name) accepts = claimed name
      ((accepted (of (Claim name)) (facts_in T (of (Claim name))) accepts).not_refused BadName refl)
  step_of_names (Upload file digest body requires) accepts =
      let all = accepted (of (Upload file digest body requires)) (facts_in T (of (Upload file digest body requires))) accepts in
      uploaded file digest body requires (read_itself file (all.not_refused BadFileName refl)) (all.not_refused NoProject refl)
  step_of_names (Delete file) accepts =
      let all = accepted (of (Delete file)) (facts_in T (of (Delete file))) accepts in
      let held = held_by (option_map project_of (read_file file)) (project_of file)
      (ap (option_map project_of) (read_itself file (all.not_refused BadFileName refl))) (all.not_refused NoProject refl) in
      let size : ℕ = (the_file (facts_in T (of (Delete file)))).size in
      numbered (project_of file) _ held.0.state (λ i. (without_file size (held.1 i)).shown) (λ i. (without_file size (held.1 i)).quota)
      (λ i. (held.1 i).last_upload)
  step_of_names (BanFile file) accepts =
      let reads = read_itself file ((accepted (of (BanFile file)) (facts_in T (of (BanFile file))) accepts).not_refused BadFileName refl) in
      let read : Option Bytes = option_map project_of (read_file file) in
      let found : Option Project = held_project (option_and_then (get T.names) read) in
      left (project_of file) (the_file (facts_in T (of (BanFile file)))).size found
      (is_undeleted (option_and_then (get T.files) (read_file file))) (λ project is.
      let held = held_by read (project_of file) (ap (option_map project_of) reads) (ap (λ o. not (is_some o)) is) in
      (held.0, sym (ap (λ o. unwrap_or o no_project) is) ∙ held.1))
  step_of_names (Relinquish name) accepts = freed (read_name name)
      ((accepted (of (Relinquish name)) (facts_in T (of (Relinquish name))) accepts).not_refused BadName refl)
  step_of_names (Prohibit name) accepts = prohibited name
      ((accepted (of (Prohibit name)) (facts_in T (of (Prohibit name))) accepts).not_refused BadName refl)
  step_of_names (Allow name) accepts = freed (read_name name)
      ((accepted (of (Allow name)) (facts_in T (of (Allow name))) accepts).not_refused BadName refl)
  step_of_names request accepts = before
