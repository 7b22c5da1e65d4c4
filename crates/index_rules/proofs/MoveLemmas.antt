-- In a legal history each entry moves the charges, the states and the owners as its request says.
use Rattle.index_rules.proofs.Words.{◌≡◌, ℕ, ◌+◌, Bool, true, false, cond, ◌&&◌, inl, inr, refl, sym, ap, ◌∙◌, subst, Option, Some, None}
use Rattle.index_rules.proofs.Words.{length, option_map, option_and_then, unwrap_or, arith, option_map_or, get, entries, and-false}
use Rattle.index_rules.proofs.Words.{and-true, not-false, read_name, project_of, release_of, read_digest, BadFileName, BadName, NoFile}
use Rattle.index_rules.proofs.Words.{Call, Request, Claim, AddOwner, RemoveOwner, Upload, Delete, BanFile, Relinquish, Prohibit, Allow}
use Rattle.index_rules.proofs.Words.{Transfer, FileRecord, Bytes, same, change_values, read_user, Tables, read_file, facts_in, Accept}
use Rattle.index_rules.proofs.Words.{verdict_now, is_undeleted, or_empty, no_file, as_deleted, as_deleted_of, tables_with_call, IsSound}
use Rattle.index_rules.proofs.Words.{charged_size, charge_in, History, Entry, begins, more, is_read_as, State, Free, Held, Prohibited}
use Rattle.index_rules.proofs.Words.{state_by, state_after, is_held_now, is_given_by, is_given_after, candidate_after, first_upload_after}
use Rattle.index_rules.proofs.Words.{is_undeleted_after, requires_after, size_after, StandsFor, file_of_upload, file_after, IsLegal}
use Rattle.index_rules.proofs.Words.{may_move_owners}
use Rattle.index_rules.specs.Laws.{MovesCharge, UploadsAnew, may_move_state, Moves, MovesAsRecorded}
use Rattle.index_rules.proofs.KeyLemmas.{cases_same}
use Rattle.index_rules.proofs.PutLemmas.{each_changed}
use Rattle.index_rules.proofs.Totals.{total_of, total-zero}
use Rattle.index_rules.proofs.FileTotals.{total-upload, total-delete, total-delete_all}
use Rattle.index_rules.proofs.Accepted.{accepted}
use Rattle.index_rules.proofs.SoundBans.{file_stays}
use Rattle.index_rules.proofs.SoundLemmas.{file_there, undeleted_there}
use Rattle.index_rules.proofs.PastWords.{is_undeleted-file_at}
use Rattle.index_rules.proofs.PastReading.{read_key, read_itself, at_key, at_other}
use Rattle.index_rules.proofs.PastTotals.{charge_agrees}
use Rattle.index_rules.proofs.StandsOn.{tables_of, verdict_agrees, legal_made}

-- ---- the charge

-- if all files of a name are deleted, they weigh nothing for it
none-charged : (T : Tables) (name : Bytes) → total_of (charged_size name) (entries (change_values (as_deleted_of name) T.files)) ≡ 0
none-charged T name = total-zero (charged_size name) _
    (each_changed (as_deleted_of name) T.files (λ _ known. charged_size name known ≡ 0) (λ _ known _.
    elim (same name known.project) as (λ b. same name known.project ≡ b → charged_size name (cond b (as_deleted known) known) ≡ 0) [
      | true ↦ λ _. refl
      | false ↦ λ other. ap (λ b. cond (known.is_undeleted && b) known.size 0) other
          ∙ ap (λ b. cond b known.size 0) (and-false known.is_undeleted)
    ] refl))

-- the size in the record of a file is the one of the history
size-file_at : (h : History) (f : Bytes) → (unwrap_or (file_after h f) no_file).size ≡ size_after h f
size-file_at h f = by (first_upload_after h f)
  where
    by : (k : Option (Bytes × ℕ)) → (unwrap_or (option_map (file_of_upload f (requires_after h f) (is_undeleted_after h f)) k) no_file).size
        ≡ option_map_or (λ first. first.1) k 0
    by None = refl
    by (Some first) = refl

module _ (T : Tables) (h : History) (sound : IsSound T) (stands : StandsFor T h) (at : ℕ) (token : Bytes) where
  abbrev of : Request → Call
  of request = record { at = at; token = token; request = request }

  charge-upload : (file digest body requires : Bytes) → verdict_now T (of (Upload file digest body requires)) ≡ Accept → (n : Bytes)
      → MovesCharge (Upload file digest body requires) h n (charge_in T n)
      (charge_in (tables_with_call T (of (Upload file digest body requires))) n)
  charge-upload file digest body requires accepts n =
      let all = accepted (of (Upload file digest body requires)) (facts_in T (of (Upload file digest body requires))) accepts in
      let reads : read_file file ≡ Some file = read_itself file (all.not_refused BadFileName refl) in
      total-upload (λ known. known.size) T file
      (record {
        project = project_of file;
        release = release_of file;
        digest = or_empty (read_digest digest);
        size = length body;
        requires_python = requires;
        is_undeleted = true;
      })
      refl (sym (ap (λ read. is_undeleted (option_and_then (get T.files) read)) reads) ∙ all.not_already) n
      ∙ ap (λ read. charge_in T n + cond (is_read_as (option_map project_of read) n) (length body) 0) (sym reads)

  charge-delete : (file : Bytes) → verdict_now T (of (Delete file)) ≡ Accept → (n : Bytes)
      → MovesCharge (Delete file) h n (charge_in T n) (charge_in (tables_with_call T (of (Delete file))) n)
  charge-delete file accepts n =
      let all = accepted (of (Delete file)) (facts_in T (of (Delete file))) accepts in
      let reads : read_file file ≡ Some file = read_itself file (all.not_refused BadFileName refl) in
      let found : option_and_then (get T.files) (read_file file) ≡ get T.files file = ap (option_and_then (get T.files)) reads in
      let known : FileRecord = unwrap_or (option_and_then (get T.files) (read_file file)) no_file in
      let undeleted = undeleted_there (option_and_then (get T.files) (read_file file)) (not-false _ all.not_already) in
      let there : get T.files file ≡ Some known = sym found ∙ undeleted.0 in
      let project : known.project ≡ project_of file = (sound.spelled file known there).project in
      let size : known.size ≡ size_after h file = ap (λ o. (unwrap_or o no_file).size) (found ∙ stands.files file) ∙ size-file_at h file in
      let left : ℕ = charge_in (tables_with_call T (of (Delete file))) n in
      (λ i. left + cond (is_read_as (option_map project_of (reads i)) n) (size_after h (or_empty (reads i))) 0)
      ∙ (λ i. left + cond (same n (sym project i)) (sym size i) 0)
      ∙ total-delete (λ known. known.size) T file known undeleted.1 there n

  charge-ban : (file : Bytes) → verdict_now T (of (BanFile file)) ≡ Accept → (n : Bytes)
      → MovesCharge (BanFile file) h n (charge_in T n) (charge_in (tables_with_call T (of (BanFile file))) n)
  charge-ban file accepts n =
      let all = accepted (of (BanFile file)) (facts_in T (of (BanFile file))) accepts in
      let reads : read_file file ≡ Some file = read_itself file (all.not_refused BadFileName refl) in
      let found : option_and_then (get T.files) (read_file file) ≡ get T.files file = ap (option_and_then (get T.files)) reads in
      let known : FileRecord = unwrap_or (option_and_then (get T.files) (read_file file)) no_file in
      let there : get T.files file ≡ Some known =
      sym found ∙ file_there (option_and_then (get T.files) (read_file file)) (all.not_refused NoFile refl) in
      let project : known.project ≡ project_of file = (sound.spelled file known there).project in
      let size : known.size ≡ size_after h file = ap (λ o. (unwrap_or o no_file).size) (found ∙ stands.files file) ∙ size-file_at h file in
      let is : known.is_undeleted ≡ is_undeleted_after h file =
      sym (ap is_undeleted there) ∙ ap is_undeleted (stands.files file) ∙ is_undeleted-file_at h file in
      let left : ℕ = charge_in (tables_with_call T (of (BanFile file))) n in
      (λ i. left + cond (is_read_as (option_map project_of (reads i)) n && is_undeleted_after h (or_empty (reads i)))
      (size_after h (or_empty (reads i))) 0)
      ∙ (λ i. left + cond (same n (sym project i) && sym is i) (sym size i) 0)
      ∙ elim known.is_undeleted as (λ b. known.is_undeleted ≡ b → left + cond (same n known.project && b) known.size 0 ≡ charge_in T n) [
        | true ↦ λ there_now. ap (λ b. left + cond b known.size 0) (and-true (same n known.project))
            ∙ total-delete (λ known. known.size) T file known there_now there n
        | false ↦ λ gone. ap (λ b. left + cond b known.size 0) (and-false (same n known.project))
            ∙ ap (λ files. total_of (charged_size n) (entries files) + 0) (file_stays T file known there gone) ∙ omega arith
      ] refl

  charge-prohibit : (name : Bytes) → verdict_now T (of (Prohibit name)) ≡ Accept → (n : Bytes)
      → MovesCharge (Prohibit name) h n (charge_in T n) (charge_in (tables_with_call T (of (Prohibit name))) n)
  charge-prohibit name accepts n =
      let read : Option Bytes = read_name name in
      let reads : read ≡ Some (or_empty read) =
      read_key read ((accepted (of (Prohibit name)) (facts_in T (of (Prohibit name))) accepts).not_refused BadName refl) in
      elim (cases_same n (or_empty read)) [
        | inl is ↦
            ap (charge_in (tables_with_call T (of (Prohibit name)))) is ∙ none-charged T (or_empty read)
            ∙ sym (ap (λ q. cond (is_read_as read q) 0 (charge_in T n)) is ∙ at_key read (or_empty read) reads 0 (charge_in T n))
        | inr other ↦ total-delete_all (λ known. known.size) T (or_empty read) n other
            ∙ sym (at_other read (or_empty read) reads 0 (charge_in T n) n other)
      ]

  charge-moves : (r : Request) → verdict_now T (of r) ≡ Accept → (n : Bytes)
      → MovesCharge r h n (charge_in T n) (charge_in (tables_with_call T (of r)) n)
  charge-moves (Upload file digest body requires) accepts n = charge-upload file digest body requires accepts n
  charge-moves (Delete file) accepts n = charge-delete file accepts n
  charge-moves (BanFile file) accepts n = charge-ban file accepts n
  charge-moves (Prohibit name) accepts n = charge-prohibit name accepts n
  charge-moves r accepts n = refl

  uploads_anew : (r : Request) → verdict_now T (of r) ≡ Accept → UploadsAnew r h
  uploads_anew (Upload file digest body requires) accepts =
      let all = accepted (of (Upload file digest body requires)) (facts_in T (of (Upload file digest body requires))) accepts in
      let reads : read_file file ≡ Some file = read_itself file (all.not_refused BadFileName refl) in
      ap (λ read. is_undeleted_after h (or_empty read)) reads ∙ sym (is_undeleted-file_at h file)
      ∙ sym (ap is_undeleted (ap (option_and_then (get T.files)) reads ∙ stands.files file)) ∙ all.not_already
  uploads_anew r accepts = tt

-- ---- the state and the owners

state_kept : (r : Request) (n : Bytes) (before : State) → may_move_state r n ≡ false → state_by r n before ≡ before
state_kept (Claim name) n before other = ap (λ b. cond b Held before) other
state_kept (Relinquish name) n before other = ap (λ b. cond b Free before) other
state_kept (Prohibit name) n before other = ap (λ b. cond b Prohibited before) other
state_kept (Allow name) n before other = ap (λ b. cond b Free before) other
state_kept r n before other = refl

given_kept : (r : Request) (actor : Bytes) (candidate : Option Bytes) (n u : Bytes) (before : Bool) → may_move_owners r n ≡ false
    → is_given_by r actor candidate n u before ≡ before
given_kept (Claim name) actor candidate n u before other = ap (λ b. cond b (same u actor) before) other
given_kept (AddOwner name user) actor candidate n u before other = ap (λ b. cond (b && is_read_as (read_user user) u) true before) other
given_kept (RemoveOwner name user) actor candidate n u before other = ap (λ b. cond (b && is_read_as (read_user user) u) false before) other
given_kept (Transfer name quiet) actor candidate n u before other = ap (λ b. cond b (is_read_as candidate u) before) other
given_kept r actor candidate n u before other = refl

-- what doesn't change the owners doesn't change the state
state_with_owners : (r : Request) (n : Bytes) → may_move_owners r n ≡ false → may_move_state r n ≡ false
state_with_owners (AddOwner name user) n other = refl
state_with_owners (RemoveOwner name user) n other = refl
state_with_owners (Transfer name quiet) n other = refl
state_with_owners r n other = other

pub owners_kept : (r : Request) (actor : Bytes) (candidate : Option Bytes) (n u : Bytes) (state : State) (given : Bool)
    → may_move_owners r n ≡ false
    → (is_held_now (state_by r n state) && is_given_by r actor candidate n u given) ≡ (is_held_now state && given)
owners_kept r actor candidate n u state given other =
    λ i. is_held_now (state_kept r n state (state_with_owners r n other) i) && given_kept r actor candidate n u given other i

-- ---- each entry

moves : (h : History) (e : Entry) → IsLegal (more h e) → Moves h e
moves h e legal =
    let T : Tables = tables_of h in
    let made = legal_made h legal.0 in
    let made_then = legal_made (more h e) legal in
    let accepts : verdict_now T e.call ≡ Accept = verdict_agrees T h made.sound made.stands e.call ∙ legal.1 in
    record {
      charge = λ n. subst (λ (charges : ℕ × ℕ). MovesCharge e.call.request h n charges.0 charges.1)
          (λ i. (charge_agrees T h made.stands.files n i, charge_agrees (tables_with_call T e.call) (more h e) made_then.stands.files n i))
          (charge-moves T h made.sound made.stands e.call.at e.call.token e.call.request accepts n);
      anew = uploads_anew T h made.sound made.stands e.call.at e.call.token e.call.request accepts;
      state = λ n other. state_kept e.call.request n (state_after h n) other;
      owners = λ n u other. owners_kept e.call.request e.actor (candidate_after h n) n u (state_after h n) (is_given_after h n u) other;
    }

pub moves_as_recorded : (h : History) → IsLegal h → MovesAsRecorded h
moves_as_recorded (begins user token) legal = tt
moves_as_recorded (more h e) legal = (moves_as_recorded h legal.0, moves h e legal)
