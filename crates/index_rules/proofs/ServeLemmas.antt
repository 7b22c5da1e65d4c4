-- What is served of a file is an upload of it, and so bound.
use Rattle.index_rules.proofs.Words.{◌≡◌, ◌⊎◌, ℕ, Bool, true, false, cond, inl, inr, sym, ap, Option, Some, None, length, refl, subst}
use Rattle.index_rules.proofs.Words.{true≢false, sha256, project_of, read_name, Request, Upload, Delete, BanFile, Prohibit, Bytes}
use Rattle.index_rules.proofs.Words.{read_file, History, begins, more, is_read_as, is_undeleted_after, is_undeleted_by, last_body_after}
use Rattle.index_rules.proofs.Words.{last_body_by, body_after, IsLegal, IsUploadOf, HasUpload}
use Rattle.index_rules.specs.Laws.{IsFrontOf, ServesBound, ServesUploads}
use Rattle.index_rules.proofs.OwnerLists.{same-is}
use Rattle.index_rules.proofs.BindLemmas.{binds_files}

-- what was read is the text
pub is_read : (read : Option Bytes) (f : Bytes) → is_read_as read f ≡ true → read ≡ Some f
is_read None f is = absurd (true≢false (sym is))
is_read (Some x) f is = ap Some (sym (same-is f x is))

-- what was taken away isn't there
pub still : (b before : Bool) → cond b false before ≡ true → before ≡ true
still true before is = absurd (true≢false (sym is))
still false before is = is

-- these are the digest and the size of bytes
abbrev IsOf : Bytes → Bytes × ℕ → Type 0
IsOf body first = (sha256 body, length body) ≡ first

-- a file that is undeleted after a request was so before, with these bytes, or the request uploads it
uploads_or_was : (r : Request) (f : Bytes) (before : Bool) (body : Bytes) → is_undeleted_by r f before ≡ true
    → IsUploadOf r f (sha256 (last_body_by r f body), length (last_body_by r f body)) ⊎ ((before ≡ true) × (last_body_by r f body ≡ body))
uploads_or_was (Upload file declared bytes requires) f before body is = by (is_read_as (read_file file) f) refl is
  where
    by : (b : Bool) → is_read_as (read_file file) f ≡ b → cond b true before ≡ true
        → ((read_file file ≡ Some f) × IsOf (cond b bytes body) (sha256 bytes, length bytes))
        ⊎ ((before ≡ true) × (cond b bytes body ≡ body))
    by true read is = inl (is_read (read_file file) f read, refl)
    by false read is = inr (is, refl)
uploads_or_was (Delete file) f before body is = inr (still (is_read_as (read_file file) f) before is, refl)
uploads_or_was (BanFile file) f before body is = inr (still (is_read_as (read_file file) f) before is, refl)
uploads_or_was (Prohibit name) f before body is = inr (still (is_read_as (read_name name) (project_of f)) before is, refl)
uploads_or_was r f before body is = inr (is, refl)

-- the bytes of an undeleted file are those of an upload
undeleted_upload : (h : History) (f : Bytes) → is_undeleted_after h f ≡ true
    → HasUpload h f (sha256 (last_body_after h f), length (last_body_after h f))
undeleted_upload (begins user token) f is = true≢false (sym is)
undeleted_upload (more h e) f is = elim (uploads_or_was e.call.request f (is_undeleted_after h f) (last_body_after h f) is) [
  | inl now ↦ inl now
  | inr was ↦ inr (subst (λ body. HasUpload h f (sha256 body, length body)) (sym was.1) (undeleted_upload h f was.0))
]

-- so are the bytes that are served
served_upload : (h : History) (f body : Bytes) → body_after h f ≡ Some body → HasUpload h f (sha256 body, length body)
served_upload h f body is = by (is_undeleted_after h f) refl is
  where
    by : (b : Bool) → is_undeleted_after h f ≡ b → cond b (Some (last_body_after h f)) None ≡ Some body
        → HasUpload h f (sha256 body, length body)
    by true there is =
        let same : last_body_after h f ≡ body = cc in
        subst (λ body. HasUpload h f (sha256 body, length body)) same (undeleted_upload h f there)
    by false gone is = absurd cc

-- an upload of a front is one of the whole
of_front : (h one : History) (f : Bytes) (first : Bytes × ℕ) → IsFrontOf one h → HasUpload one f first → HasUpload h f first
of_front (begins user token) one f first front has = subst (λ h. HasUpload h f first) front has
of_front (more h e) one f first (inl is) has = subst (λ h. HasUpload h f first) is has
of_front (more h e) one f first (inr front) has = inr (of_front h one f first front has)

pub serves_uploads : (h : History) → ServesUploads h
serves_uploads h at front f body is = served_upload at f body is

pub serves_bound : (h : History) → IsLegal h → ServesBound h
serves_bound h legal one other front front' f first second is is' =
    let same = binds_files h legal f (sha256 first, length first) (sha256 second, length second)
    (of_front h one f (sha256 first, length first) front (served_upload one f first is))
    (of_front h other f (sha256 second, length second) front' (served_upload other f second is')) in
    (ap (λ it. it.0) same, ap (λ it. it.1) same)
