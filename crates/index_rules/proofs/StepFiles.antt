-- The files, the bodies and the bans after an accepted call are those of the history with it.
use Rattle.index_rules.proofs.Words.{◌≡◌, ℕ, Bool, true, false, cond, not, refl, sym, ap, ◌∙◌, Option, Some, None, is_some, is_none}
use Rattle.index_rules.proofs.Words.{option_map, option_and_then, unwrap_or, length, option_or, option_map_or, get, true≢false, false≢true}
use Rattle.index_rules.proofs.Words.{not-false, and_parts, eqb-true, read_name, project_of, release_of, read_digest, BadDigest, BadFileName}
use Rattle.index_rules.proofs.Words.{BadName, FileNameTaken, NoFile, Call, Request, Upload, Delete, BanFile, Prohibit, FileRecord, Bytes}
use Rattle.index_rules.proofs.Words.{same, Tables, read_file, facts_in, is_banned_in, Accept, verdict_now, is_other_file, or_empty, no_file}
use Rattle.index_rules.proofs.Words.{as_deleted, as_deleted_of, is_file_of, tables_with_call, History, more, is_read_as, first_upload_after}
use Rattle.index_rules.proofs.Words.{is_undeleted_after, is_banned_after, requires_after, last_body_after, file_of_upload, file_after}
use Rattle.index_rules.proofs.Words.{body_after}
use Rattle.index_rules.proofs.OwnerLists.{same-is}
use Rattle.index_rules.proofs.KeyLemmas.{get-without, get-kept, get-change_values}
use Rattle.index_rules.proofs.PutLemmas.{each_put}
use Rattle.index_rules.proofs.Accepted.{accepted}
use Rattle.index_rules.proofs.PastReading.{read_key, read_itself, at_key, at_other, by_key}
use Rattle.index_rules.proofs.PastWords.{undeleted_known}
use Rattle.index_rules.proofs.StepOwners.{flip}

-- what was known before, else what is new
or_old : {A : Type 0} (o : Option A) → option_or o None ≡ o
or_old None = refl
or_old (Some x) = refl

module _ (T : Tables) (h : History) (files : (file : Bytes) → get T.files file ≡ file_after h file) (at : ℕ) (token actor : Bytes) where
  abbrev of : Request → Call
  of request = record { at = at; token = token; request = request }

  abbrev then : Request → History
  then request = more h (record { actor = actor; call = of request })

  -- ---- an upload

  module _ (file sha256 body requires : Bytes) (reads : read_file file ≡ Some file) where
    abbrev upload : Request
    upload = Upload file sha256 body requires

    abbrev first : Bytes × ℕ
    first = (or_empty (read_digest sha256), length body)

    known-other : (q : Bytes) → same q file ≡ false → first_upload_after (then upload) q ≡ first_upload_after h q
    known-other q other = ap (option_or (first_upload_after h q)) (at_other (read_file file) file reads (Some first) None q other)
        ∙ or_old (first_upload_after h q)

    -- if the file is known, it is so by this digest and size
    pub known-here : is_none (read_digest sha256) ≡ false
        → is_other_file (read_digest sha256) (length body) (option_and_then (get T.files) (read_file file)) ≡ false
        → first_upload_after (then upload) file ≡ Some first
    known-here unread other =
        ap (option_or (first_upload_after h file)) (at_key (read_file file) file reads (Some first) None)
        ∙ by (read_digest sha256) (first_upload_after h file) unread
        (sym (ap (is_other_file (read_digest sha256) (length body)) (ap (option_and_then (get T.files)) reads ∙ files file)) ∙ other)
      where
        by : (declared : Option Bytes) (k : Option (Bytes × ℕ)) → is_none declared ≡ false
            → is_other_file declared (length body) (option_map (file_of_upload file (requires_after h file) (is_undeleted_after h file)) k)
            ≡ false → option_or k (Some (or_empty declared, length body)) ≡ Some (or_empty declared, length body)
        by None k unread other = absurd (true≢false unread)
        by (Some digest) None unread other = refl
        by (Some digest) (Some k) unread other =
            let parts = and_parts _ _ (not-false _ other) in
            λ i. Some (sym (same-is digest k.0 parts.0) i, sym (eqb-true (length body) k.1 parts.1) i)

    file_uploaded : first_upload_after (then upload) file ≡ Some first → (q : Bytes)
        → get (tables_with_call T (of upload)).files q ≡ file_after (then upload) q
    file_uploaded is =
        each_put T.files file (record {
          project = project_of file;
          release = release_of file;
          digest = or_empty (read_digest sha256);
          size = length body;
          requires_python = requires;
          is_undeleted = true;
        }) (λ q found. found ≡ file_after (then upload) q)
        (λ i. option_map (file_of_upload file (sym (at_key (read_file file) file reads requires (requires_after h file)) i)
        (sym (at_key (read_file file) file reads true (is_undeleted_after h file)) i)) (sym is i))
        (λ q other. files q ∙ (λ i. option_map
        (file_of_upload q (sym (at_other (read_file file) file reads requires (requires_after h q) q other) i)
        (sym (at_other (read_file file) file reads true (is_undeleted_after h q) q other) i)) (sym (known-other q other) i)))

    body_uploaded : ((q : Bytes) → get T.bodies q ≡ body_after h q) → (q : Bytes)
        → get (tables_with_call T (of upload)).bodies q ≡ body_after (then upload) q
    body_uploaded bodies =
        each_put T.bodies file body (λ q found. found ≡ body_after (then upload) q)
        (λ i. cond (sym (at_key (read_file file) file reads true (is_undeleted_after h file)) i)
        (Some (sym (at_key (read_file file) file reads body (last_body_after h file)) i)) None)
        (λ q other. bodies q ∙ (λ i. cond (sym (at_other (read_file file) file reads true (is_undeleted_after h q) q other) i)
        (Some (sym (at_other (read_file file) file reads body (last_body_after h q) q other) i)) None))

  -- ---- a delete

  module _ (file : Bytes) (reads : read_file file ≡ Some file) where
    file_deleted : is_none (option_and_then (get T.files) (read_file file)) ≡ false → (q : Bytes)
        → get (tables_with_call T (of (Delete file))).files q ≡ file_after (then (Delete file)) q
    file_deleted missing =
        let found : option_and_then (get T.files) (read_file file) ≡ file_after h file =
        ap (option_and_then (get T.files)) reads ∙ files file in
        each_put T.files file (as_deleted (unwrap_or (option_and_then (get T.files) (read_file file)) no_file))
        (λ q found. found ≡ file_after (then (Delete file)) q)
        (ap (λ o. Some (as_deleted (unwrap_or o no_file))) found ∙ by (first_upload_after h file) (sym (ap is_none found) ∙ missing)
        ∙ (λ i. option_map (file_of_upload file (requires_after h file)
        (sym (at_key (read_file file) file reads false (is_undeleted_after h file)) i)) (first_upload_after h file)))
        (λ q other. files q ∙ (λ i. option_map
        (file_of_upload q (requires_after h q) (sym (at_other (read_file file) file reads false (is_undeleted_after h q) q other) i))
        (first_upload_after h q)))
      where
        by : (k : Option (Bytes × ℕ)) → is_none (option_map (file_of_upload file (requires_after h file) (is_undeleted_after h file)) k)
            ≡ false
            → Some (as_deleted (unwrap_or (option_map (file_of_upload file (requires_after h file) (is_undeleted_after h file)) k) no_file))
            ≡ option_map (file_of_upload file (requires_after h file) false) k
        by None missing = absurd (true≢false missing)
        by (Some k) missing = refl

    body_deleted : ((q : Bytes) → get T.bodies q ≡ body_after h q) → (q : Bytes)
        → get (tables_with_call T (of (Delete file))).bodies q ≡ body_after (then (Delete file)) q
    body_deleted bodies q =
        get-without T.bodies file q ∙ ap (cond (same q file) None) (bodies q) ∙ by (same q file) (is_undeleted_after h q)
        ∙ (λ i. cond (sym (by_key (read_file file) file reads false (is_undeleted_after h q) q) i) (Some (last_body_after h q)) None)
      where
        by : (b u : Bool) → cond b None (cond u (Some (last_body_after h q)) None) ≡ cond (cond b false u) (Some (last_body_after h q)) None
        by true u = refl
        by false u = refl

  -- ---- a prohibition

  module _ (name : Bytes) (unread : is_none (read_name name) ≡ false) where
    abbrev n : Bytes
    n = or_empty (read_name name)

    -- whether a file is one of the name
    of_name : (q : Bytes) → same n (project_of q) ≡ is_read_as (read_name name) (project_of q)
    of_name q = flip n (project_of q) ∙ sym (ap (λ r. is_read_as r (project_of q)) (read_key (read_name name) unread))

    files_prohibited : (q : Bytes) → get (tables_with_call T (of (Prohibit name))).files q ≡ file_after (then (Prohibit name)) q
    files_prohibited q =
        get-change_values (as_deleted_of n) T.files q ∙ ap (option_map (as_deleted_of n)) (files q) ∙ by (first_upload_after h q)
        ∙ (λ i. option_map (file_of_upload q (requires_after h q) (cond (of_name q i) false (is_undeleted_after h q)))
        (first_upload_after h q))
      where
        either : (b : Bool) (k : Bytes × ℕ) → cond b (file_of_upload q (requires_after h q) false k)
            (file_of_upload q (requires_after h q) (is_undeleted_after h q) k)
            ≡ file_of_upload q (requires_after h q) (cond b false (is_undeleted_after h q)) k
        either true k = refl
        either false k = refl

        by : (k : Option (Bytes × ℕ)) → option_map (as_deleted_of n)
            (option_map (file_of_upload q (requires_after h q) (is_undeleted_after h q)) k)
            ≡ option_map (file_of_upload q (requires_after h q) (cond (same n (project_of q)) false (is_undeleted_after h q))) k
        by None = refl
        by (Some k) = ap Some (either (same n (project_of q)) k)

    bodies_prohibited : ((q : Bytes) → get T.bodies q ≡ body_after h q) → (q : Bytes)
        → get (tables_with_call T (of (Prohibit name))).bodies q ≡ body_after (then (Prohibit name)) q
    bodies_prohibited bodies q =
        get-kept T.bodies (λ file. not (is_file_of T.files n file)) q
        ∙ (λ i. cond (not (option_map_or (λ (known : FileRecord). same n known.project) (files q i) false)) (bodies q i) None)
        ∙ by (first_upload_after h q) (is_undeleted_after h q) (undeleted_known h q)
        ∙ (λ i. cond (cond (of_name q i) false (is_undeleted_after h q)) (Some (last_body_after h q)) None)
      where
        left : (b u : Bool) (x : Option Bytes) → cond (not b) (cond u x None) None ≡ cond (cond b false u) x None
        left true u x = refl
        left false u x = refl

        absent : (b u : Bool) (x : Option Bytes) → (u ≡ true → false ≡ true) → cond u x None ≡ cond (cond b false u) x None
        absent b true x unknown = absurd (false≢true (unknown refl))
        absent true false x unknown = refl
        absent false false x unknown = refl

        by : (k : Option (Bytes × ℕ)) (u : Bool) → (u ≡ true → is_some k ≡ true)
            → cond (not (option_map_or (λ (known : FileRecord). same n known.project)
            (option_map (file_of_upload q (requires_after h q) (is_undeleted_after h q)) k) false))
            (cond u (Some (last_body_after h q)) None) None
            ≡ cond (cond (same n (project_of q)) false u) (Some (last_body_after h q)) None
        by None u is_known = absent (same n (project_of q)) u (Some (last_body_after h q)) is_known
        by (Some k) u is_known = left (same n (project_of q)) u (Some (last_body_after h q))

  pub step_of_files : (request : Request) → verdict_now T (of request) ≡ Accept → (q : Bytes)
      → get (tables_with_call T (of request)).files q ≡ file_after (then request) q
  step_of_files (Upload file digest body requires) accepts =
      let all = accepted (of (Upload file digest body requires)) (facts_in T (of (Upload file digest body requires))) accepts in
      let reads : read_file file ≡ Some file = read_itself file (all.not_refused BadFileName refl) in
      file_uploaded file digest body requires reads
      (known-here file digest body requires reads (all.not_refused BadDigest refl) (all.not_refused FileNameTaken refl))
  step_of_files (Delete file) accepts =
      let all = accepted (of (Delete file)) (facts_in T (of (Delete file))) accepts in
      file_deleted file (read_itself file (all.not_refused BadFileName refl)) (all.not_refused NoFile refl)
  step_of_files (BanFile file) accepts =
      let all = accepted (of (BanFile file)) (facts_in T (of (BanFile file))) accepts in
      file_deleted file (read_itself file (all.not_refused BadFileName refl)) (all.not_refused NoFile refl)
  step_of_files (Prohibit name) accepts = files_prohibited name
      ((accepted (of (Prohibit name)) (facts_in T (of (Prohibit name))) accepts).not_refused BadName refl)
  step_of_files request accepts = files

  pub step_of_bodies : ((q : Bytes) → get T.bodies q ≡ body_after h q) → (request : Request) → verdict_now T (of request) ≡ Accept
      → (q : Bytes) → get (tables_with_call T (of request)).bodies q ≡ body_after (then request) q
  step_of_bodies bodies (Upload file digest body requires) accepts =
      body_uploaded file digest body requires (read_itself file
      ((accepted (of (Upload file digest body requires)) (facts_in T (of (Upload file digest body requires))) accepts).not_refused
      BadFileName refl)) bodies
  step_of_bodies bodies (Delete file) accepts =
      body_deleted file (read_itself file ((accepted (of (Delete file)) (facts_in T (of (Delete file))) accepts).not_refused BadFileName
      refl)) bodies
  step_of_bodies bodies (BanFile file) accepts =
      body_deleted file (read_itself file ((accepted (of (BanFile file)) (facts_in T (of (BanFile file))) accepts).not_refused BadFileName
      refl)) bodies
  step_of_bodies bodies (Prohibit name) accepts =
      bodies_prohibited name ((accepted (of (Prohibit name)) (facts_in T (of (Prohibit name))) accepts).not_refused BadName refl) bodies
  step_of_bodies bodies request accepts = bodies

  banned : (bans : (q : Bytes) → is_banned_in T q ≡ is_banned_after h q) (file : Bytes) → read_file file ≡ Some file → (q : Bytes)
      → is_banned_in (tables_with_call T (of (BanFile file))) q ≡ is_banned_after (then (BanFile file)) q
  banned bans file reads =
      each_put T.bans file tt (λ q found. is_some found ≡ is_banned_after (then (BanFile file)) q)
      (sym (at_key (read_file file) file reads true (is_banned_after h file)))
      (λ q other. bans q ∙ sym (at_other (read_file file) file reads true (is_banned_after h q) q other))

  pub bans_after : ((q : Bytes) → is_banned_in T q ≡ is_banned_after h q) → (request : Request) → verdict_now T (of request) ≡ Accept
      → (q : Bytes) → is_banned_in (tables_with_call T (of request)) q ≡ is_banned_after (then request) q
  bans_after bans (BanFile file) accepts = banned bans file
      (read_itself file ((accepted (of (BanFile file)) (facts_in T (of (BanFile file))) accepts).not_refused BadFileName refl))
  bans_after bans request accepts = bans
