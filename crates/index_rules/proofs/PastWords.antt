-- What holds of every history: its uploaded files stand once each and are the known ones, and an undeleted file is known.
use Rattle.index_rules.proofs.Words.{◌≡◌, ℕ, Bool, true, false, cond, ◌&&◌, ◌||◌, inl, inr, refl, sym, ap, ◌∙◌, List, [], ◌∷◌, Option, Some}
use Rattle.index_rules.proofs.Words.{None, is_some, option_map, option_and_then, length, list_any, option_or, false≢true, or_left, or_right}
use Rattle.index_rules.proofs.Words.{cases_Bool, read_name, project_of, read_digest, Request, Claim, AddOwner, RemoveOwner, Upload, Delete}
use Rattle.index_rules.proofs.Words.{BanFile, Prohibit, Transfer, Bytes, same, read_user, read_file, or_empty, is_undeleted, History}
use Rattle.index_rules.proofs.Words.{begins, more, is_read_as, with_read, is_given_by, is_given_after, receivers_after, candidate_after}
use Rattle.index_rules.proofs.Words.{first_upload_after, first_upload_by, is_undeleted_after, is_undeleted_by, requires_after}
use Rattle.index_rules.proofs.Words.{uploaded_files_after, file_of_upload, file_after}
use Rattle.index_rules.specs.PastNames.{receivers_by}
use Rattle.index_rules.specs.PastFiles.{uploaded_files_by, once_more}
use Rattle.index_rules.proofs.KeyLemmas.{same-refl, cases_same}

abbrev pub has : List Bytes → Bytes → Bool
has xs f = list_any (same f) xs

-- each stands once
abbrev pub Apart : List Bytes → Type 0
Apart [] = Unit {0}
Apart (x ∷ xs) = (has xs x ≡ false) × Apart xs

-- ---- the uploaded files

Apart-once_more : (read : Option Bytes) (files : List Bytes) → Apart files → Apart (once_more read files)
Apart-once_more None files apart = apart
Apart-once_more (Some f) files apart = elim (has files f) as (λ b. has files f ≡ b → Apart (cond b files (f ∷ files))) [
  | true ↦ λ _. apart
  | false ↦ λ gone. (gone, apart)
] refl

Apart_by : (r : Request) (files : List Bytes) → Apart files → Apart (uploaded_files_by r files)
Apart_by (Upload file sha256 body requires) files apart = Apart-once_more (read_file file) files apart
Apart_by r files apart = apart

-- each uploaded file is listed once
pub Apart-uploaded : (h : History) → Apart (uploaded_files_after h)
Apart-uploaded (begins user token) = tt
Apart-uploaded (more h e) = Apart_by e.call.request (uploaded_files_after h) (Apart-uploaded h)

has-once_more : (read : Option Bytes) (files : List Bytes) (f : Bytes) → has (once_more read files) f ≡ (is_read_as read f || has files f)
has-once_more None files f = refl
has-once_more (Some g) files f = elim (has files g) as (λ b. has files g ≡ b
    → has (cond b files (g ∷ files)) f ≡ (same f g || has files f)) [
      | true ↦ λ there. elim (cases_same f g) [
        | inl is ↦ ap (has files) is ∙ there ∙ sym (or_left _ _ (ap (λ x. same x g) is ∙ same-refl g))
        | inr other ↦ ap (λ b. b || has files f) (sym other)
      ]
      | false ↦ λ _. refl
    ] refl

is_some-or : (b c : Bool) (o : Option (Bytes × ℕ)) (x : Bytes × ℕ) → is_some o ≡ b → is_some (option_or o (cond c (Some x) None)) ≡ (c || b)
is_some-or b c (Some y) x is = elim c as (λ c. true ≡ (c || b)) [ true ↦ refl | false ↦ is ]
is_some-or b true None x is = refl
is_some-or b false None x is = is

known_is_uploaded_by : (r : Request) (f : Bytes) (before : Option (Bytes × ℕ)) (files : List Bytes) → is_some before ≡ has files f
    → is_some (first_upload_by r f before) ≡ has (uploaded_files_by r files) f
known_is_uploaded_by (Upload file sha256 body requires) f before files is =
    is_some-or (has files f) (is_read_as (read_file file) f) before (or_empty (read_digest sha256), length body) is
    ∙ sym (has-once_more (read_file file) files f)
known_is_uploaded_by r f before files is = is

-- a file is known exactly if it was uploaded
pub known_is_uploaded : (h : History) (f : Bytes) → is_some (first_upload_after h f) ≡ has (uploaded_files_after h) f
known_is_uploaded (begins user token) f = refl
known_is_uploaded (more h e) f = known_is_uploaded_by e.call.request f (first_upload_after h f) (uploaded_files_after h)
    (known_is_uploaded h f)

-- ---- the undeleted files

-- what is so after something went was so before
still : (gone before : Bool) → cond gone false before ≡ true → before ≡ true
still true before is = absurd (false≢true is)
still false before is = is

known_after : (r : Request) (f : Bytes) (b : Bool) (before : Option (Bytes × ℕ)) → (b ≡ true → is_some before ≡ true)
    → is_undeleted_by r f b ≡ true → is_some (first_upload_by r f before) ≡ true
known_after (Upload file sha256 body requires) f b before there is = by (is_read_as (read_file file) f) before there is
  where
    by : (t : Bool) (o : Option (Bytes × ℕ)) → (b ≡ true → is_some o ≡ true) → cond t true b ≡ true
        → is_some (option_or o (cond t (Some (or_empty (read_digest sha256), length body)) None)) ≡ true
    by t (Some first) there is = refl
    by true None there is = refl
    by false None there is = there is
known_after (Delete file) f b before there is = there (still (is_read_as (read_file file) f) b is)
known_after (BanFile file) f b before there is = there (still (is_read_as (read_file file) f) b is)
known_after (Prohibit name) f b before there is = there (still (is_read_as (read_name name) (project_of f)) b is)
known_after r f b before there is = there is

-- an undeleted file is known
pub undeleted_known : (h : History) (f : Bytes) → is_undeleted_after h f ≡ true → is_some (first_upload_after h f) ≡ true
undeleted_known (begins user token) f is = absurd (false≢true is)
undeleted_known (more h e) f is = known_after e.call.request f (is_undeleted_after h f) (first_upload_after h f) (undeleted_known h f) is

-- the record of a file says whether it is undeleted
pub is_undeleted-file_at : (h : History) (f : Bytes) → is_undeleted (file_after h f) ≡ is_undeleted_after h f
is_undeleted-file_at h f = by (first_upload_after h f) (is_undeleted_after h f) (undeleted_known h f)
  where
    by : (o : Option (Bytes × ℕ)) (b : Bool) → (b ≡ true → is_some o ≡ true)
        → is_undeleted (option_map (file_of_upload f (requires_after h f) b) o) ≡ b
    by None true there = there refl
    by None false there = refl
    by (Some first) b there = refl

-- ---- those to whom a name was given

has-with_read : (read : Option Bytes) (users : List Bytes) (v : Bytes) → is_read_as read v ≡ true → has (with_read read users) v ≡ true
has-with_read None users v is = absurd (false≢true is)
has-with_read (Some user) users v is = or_left _ _ is

still_has : (read : Option Bytes) (users : List Bytes) (v : Bytes) → has users v ≡ true → has (with_read read users) v ≡ true
still_has None users v there = there
still_has (Some user) users v there = or_right _ _ there

received_by : (r : Request) (actor : Bytes) (candidate : Bytes → Option Bytes) (n v : Bytes) (b : Bool) (users : List Bytes)
    → (b ≡ true → has users v ≡ true)
    → is_given_by r actor (candidate n) n v b ≡ true → has (receivers_by r actor candidate users) v ≡ true
received_by (Claim name) actor candidate n v b users there is = by (is_read_as (read_name name) n) is
  where
    by : (t : Bool) → cond t (same v actor) b ≡ true → has (actor ∷ users) v ≡ true
    by true is = or_left _ _ is
    by false is = or_right _ _ (there is)
received_by (AddOwner name user) actor candidate n v b users there is = elim (cases_Bool (is_read_as (read_user user) v)) [
  | inl here ↦ has-with_read (read_user user) users v here
  | inr other ↦ still_has (read_user user) users v (there (by (is_read_as (read_name name) n) (is_read_as (read_user user) v) other is))
]
  where
    by : (t s : Bool) → s ≡ false → cond (t && s) true b ≡ true → b ≡ true
    by true true other is = absurd (false≢true (sym other))
    by true false other is = is
    by false s other is = is
received_by (RemoveOwner name user) actor candidate n v b users there is =
    there (still (is_read_as (read_name name) n && is_read_as (read_user user) v) b is)
received_by (Transfer name quiet) actor candidate n v b users there is = by (read_name name) is
  where
    by : (read : Option Bytes) → cond (is_read_as read n) (is_read_as (candidate n) v) b ≡ true
        → has (with_read (option_and_then candidate read) users) v ≡ true
    by None is = there is
    by (Some m) is = elim (cases_same n m) [
      | inl e ↦ has-with_read (candidate m) users v
          (ap (λ x. is_read_as (candidate x) v) (sym e)
          ∙ sym (ap (λ t. cond t (is_read_as (candidate n) v) b) (ap (same n) (sym e) ∙ same-refl n)) ∙ is)
      | inr other ↦ still_has (candidate m) users v (there (sym (ap (λ t. cond t (is_read_as (candidate n) v) b) other) ∙ is))
    ]
received_by r actor candidate n v b users there is = there is

-- a user to whom a name is given is one of those to whom any was
pub received : (h : History) (n v : Bytes) → is_given_after h n v ≡ true → has (receivers_after h) v ≡ true
received (begins user token) n v is = is
received (more h e) n v is = received_by e.call.request e.actor (candidate_after h) n v (is_given_after h n v) (receivers_after h)
    (received h n v) is
