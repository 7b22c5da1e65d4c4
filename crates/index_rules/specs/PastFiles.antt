-- What a history makes of a file name: whether it is known, undeleted and banned, and what its
-- project is charged. Whether bytes are a file name, and of which project and release, depends on
-- the bytes alone (PEP 427, PEP 625).
use Rattle.std.specs.Prelude.{ℕ, Bool, true, false, ◌&&◌, if◌then◌else◌, List, [], ◌∷◌, length}
use Rattle.std.specs.Prelude.{Option, Some, None, sum_by}
use Rattle.std.specs.Option.{option_map_or, option_or}
use Rattle.std.specs.List.{list_any}
use Rattle.index_names.specs.Project.{read_name}
use Rattle.index_names.specs.FileName.{project_of, release_of}
use Rattle.index_digest.specs.Digest.{read_digest}
use Rattle.index_rules.specs.declared.call.Request.{Request}
use Rattle.index_rules.specs.declared.call.Request.TheVariants.{Upload, Delete, BanFile, Prohibit}
use Rattle.index_rules.specs.Maps.{Bytes, same}
use Rattle.index_rules.specs.Requests.{read_file}
use Rattle.index_rules.specs.Effect.{or_empty}
use Rattle.index_rules.specs.History.{History, begins, more, is_read_as}

-- ---- known

-- the digest and the size of a file's first upload, after one request more: no request takes them
-- away
abbrev pub first_upload_by : Request → Bytes → Option (Bytes × ℕ) → Option (Bytes × ℕ)
first_upload_by (Upload file sha256 body requires) f before =
    option_or before
    (if is_read_as (read_file file) f
    then Some (or_empty (read_digest sha256), length body)
    else None)
first_upload_by request f before = before

-- the digest and the size of the first upload of the file in the whole history; the digest is the
-- declared one (FIPS 180-4), since an upload with another is refused as DigestMismatch
abbrev pub first_upload_after : History → Bytes → Option (Bytes × ℕ)
first_upload_after (begins user token) f = None
first_upload_after (more h e) f = first_upload_by e.call.request f (first_upload_after h f)

-- ---- undeleted

-- whether a file is undeleted, after one request more
abbrev pub is_undeleted_by : Request → Bytes → Bool → Bool
is_undeleted_by (Upload file sha256 body requires) f before =
    if is_read_as (read_file file) f then true else before
is_undeleted_by (Delete file) f before = if is_read_as (read_file file) f then false else before
is_undeleted_by (BanFile file) f before = if is_read_as (read_file file) f then false else before
is_undeleted_by (Prohibit name) f before =
    if is_read_as (read_name name) (project_of f) then false else before
is_undeleted_by request f before = before

-- whether a file is undeleted: of its uploads, deletes and bans, and the prohibits of its project,
-- the last is an upload
abbrev pub is_undeleted_after : History → Bytes → Bool
is_undeleted_after (begins user token) f = false
is_undeleted_after (more h e) f = is_undeleted_by e.call.request f (is_undeleted_after h f)

-- ---- banned

-- whether a file is banned, after one request more: no request takes a ban away
abbrev pub is_banned_by : Request → Bytes → Bool → Bool
is_banned_by (BanFile file) f before = if is_read_as (read_file file) f then true else before
is_banned_by request f before = before

-- whether some entry bans the file
abbrev pub is_banned_after : History → Bytes → Bool
is_banned_after (begins user token) f = false
is_banned_after (more h e) f = is_banned_by e.call.request f (is_banned_after h f)

-- ---- the last upload

-- what is declared of a file, after one request more
abbrev pub requires_by : Request → Bytes → Bytes → Bytes
requires_by (Upload file sha256 body requires) f before =
    if is_read_as (read_file file) f then requires else before
requires_by request f before = before

-- the Python versions that the last upload of the file declared
abbrev pub requires_after : History → Bytes → Bytes
requires_after (begins user token) f = []
requires_after (more h e) f = requires_by e.call.request f (requires_after h f)

-- the bytes of a file, after one request more
abbrev pub last_body_by : Request → Bytes → Bytes → Bytes
last_body_by (Upload file sha256 body requires) f before =
    if is_read_as (read_file file) f then body else before
last_body_by request f before = before

-- the bytes of the last upload of the file
abbrev pub last_body_after : History → Bytes → Bytes
last_body_after (begins user token) f = []
last_body_after (more h e) f = last_body_by e.call.request f (last_body_after h f)

-- ---- the charge

-- a list of files with one more, unless the list has it
abbrev pub once_more : Option Bytes → List Bytes → List Bytes
once_more None files = files
once_more (Some file) files = if list_any (same file) files then files else file ∷ files

-- the file names in uploads, after one request more
abbrev pub uploaded_files_by : Request → List Bytes → List Bytes
uploaded_files_by (Upload file sha256 body requires) files = once_more (read_file file) files
uploaded_files_by request files = files

-- the file names that occur in uploads, each once
abbrev pub uploaded_files_after : History → List Bytes
uploaded_files_after (begins user token) = []
uploaded_files_after (more h e) = uploaded_files_by e.call.request (uploaded_files_after h)

-- the size of the first upload of a file, in bytes
abbrev pub size_after : History → Bytes → ℕ
size_after h f = option_map_or (λ digest_and_size. digest_and_size.1) (first_upload_after h f) 0

-- whether a project is charged for a file: the file is undeleted, and its name spells the project
abbrev pub is_charged_after : History → Bytes → Bytes → Bool
is_charged_after h n f = is_undeleted_after h f && same n (project_of f)

-- the sum of the sizes of the files that a project is charged for
abbrev pub charge_after : History → Bytes → ℕ
charge_after h n =
    sum_by (λ f. if is_charged_after h n f then size_after h f else 0) (uploaded_files_after h)

-- the number of files that a project is charged for
abbrev pub undeleted_count_after : History → Bytes → ℕ
undeleted_count_after h n =
    sum_by (λ f. if is_charged_after h n f then 1 else 0) (uploaded_files_after h)

-- whether one of the files that a project is charged for is of the release
abbrev pub has_release_after : History → Bytes → Bytes → Bool
has_release_after h n r =
    list_any (λ f. is_charged_after h n f && same r (release_of f)) (uploaded_files_after h)
