-- In a legal history a file name is bound to the digest and the size of its first upload, and a ban of it is for good.
use Rattle.index_rules.proofs.Words.{◌≡◌, ℕ, Bool, true, false, cond, inl, inr, sym, ap, ◌∙◌, [], Option, Some, None, is_none, length, refl}
use Rattle.index_rules.proofs.Words.{option_or, option_map_or, get, false≢true, true≢false, read_digest, sha256, BadDigest, BadFileName}
use Rattle.index_rules.proofs.Words.{DigestMismatch, FileBanned, FileNameTaken, Call, Request, Upload, BanFile, Bytes, Tables, read_file}
use Rattle.index_rules.proofs.Words.{facts_in, Accept, verdict_now, or_empty, History, begins, more, is_read_as, first_upload_after}
use Rattle.index_rules.proofs.Words.{first_upload_by, is_banned_by, is_banned_after, file_after, IsLegal, verdict_after, facts_after}
use Rattle.index_rules.proofs.Words.{IsUploadOf, HasUpload}
use Rattle.index_rules.specs.Laws.{BindsFiles, DeclaresBodies, DeclaresBody, IsBanOf, HasBan, KeepsBans}
use Rattle.index_rules.proofs.KeyLemmas.{same-refl}
use Rattle.index_rules.proofs.Accepted.{accepted}
use Rattle.index_rules.proofs.PastReading.{read_itself}
use Rattle.index_rules.proofs.SoundLemmas.{digest_is}
use Rattle.index_rules.proofs.StepFiles.{known-here}
use Rattle.index_rules.proofs.StandsOn.{tables_of, verdict_agrees, legal_made}

-- what was known stays so
known_before : (r : Request) (f : Bytes) (before : Option (Bytes × ℕ)) (first : Bytes × ℕ) → before ≡ Some first
    → first_upload_by r f before ≡ Some first
known_before (Upload file sha256 body requires) f before first is =
    ap (λ o. option_or o (cond (is_read_as (read_file file) f) (Some (or_empty (read_digest sha256), length body)) None)) is
known_before r f before first is = is

-- the digest and the size of an accepted upload's body are known after it
known_now : (T : Tables) (h : History) → ((file : Bytes) → get T.files file ≡ file_after h file)
    → (at : ℕ) (token : Bytes) (r : Request) (f : Bytes) (first : Bytes × ℕ)
    → verdict_now T (record { at = at; token = token; request = r }) ≡ Accept → IsUploadOf r f first
    → first_upload_by r f (first_upload_after h f) ≡ Some first
known_now T h files at token (Upload file declared body requires) f first accepts is =
    let c : Call = record { at = at; token = token; request = Upload file declared body requires } in
    let all = accepted c (facts_in T c) accepts in
    let reads : read_file file ≡ Some file = read_itself file (all.not_refused BadFileName refl) in
    let both : Some f ≡ Some file = sym is.0 ∙ reads in
    let here : f ≡ file = cc in
    let digest : sha256 body ≡ or_empty (read_digest declared) =
    digest_is (read_digest declared) body (all.not_refused BadDigest refl) (all.not_refused DigestMismatch refl) in
    (λ i. first_upload_by (Upload file declared body requires) (here i) (first_upload_after h (here i)))
    ∙ known-here T h files at token [] file declared body requires reads (all.not_refused BadDigest refl)
    (all.not_refused FileNameTaken refl)
    ∙ ap (λ known. Some (known, length body)) (sym digest)
    ∙ ap Some (sym is.1)
known_now T h files at token r f first accepts is = absurd is

-- the digest and the size of each upload's body are known
pub known_upload : (h : History) → IsLegal h → (f : Bytes) (first : Bytes × ℕ) → HasUpload h f first → first_upload_after h f ≡ Some first
known_upload (begins user token) legal f first is = absurd is
known_upload (more h e) legal f first (inl is) =
    let made = legal_made h legal.0 in
    known_now (tables_of h) h made.stands.files e.call.at e.call.token e.call.request f first
    (verdict_agrees (tables_of h) h made.sound made.stands e.call ∙ legal.1) is
known_upload (more h e) legal f first (inr is) =
    known_before e.call.request f (first_upload_after h f) first (known_upload h legal.0 f first is)

pub binds_files : (h : History) → IsLegal h → BindsFiles h
binds_files h legal f first second one other =
    let both : Some first ≡ Some second = sym (known_upload h legal f first one) ∙ known_upload h legal f second other in cc

-- ---- what an upload declares

is_declared : (declared : Option Bytes) (body : Bytes) → is_none declared ≡ false → sha256 body ≡ or_empty declared
    → declared ≡ Some (sha256 body)
is_declared None body unread is = absurd (true≢false unread)
is_declared (Some digest) body unread is = ap Some (sym is)

pub declares_body : (h : History) (at : ℕ) (token : Bytes) (r : Request)
    → verdict_after h (record { at = at; token = token; request = r }) ≡ Accept → DeclaresBody r
declares_body h at token (Upload file declared body requires) accepts =
    let c : Call = record { at = at; token = token; request = Upload file declared body requires } in
    let all = accepted c (facts_after h c) accepts in
    is_declared (read_digest declared) body (all.not_refused BadDigest refl)
    (digest_is (read_digest declared) body (all.not_refused BadDigest refl) (all.not_refused DigestMismatch refl))
declares_body h at token r accepts = tt

pub declares_bodies : (h : History) → IsLegal h → DeclaresBodies h
declares_bodies (begins user token) legal = tt
declares_bodies (more h e) legal = (declares_bodies h legal.0, declares_body h e.call.at e.call.token e.call.request legal.1)

-- ---- bans

-- what a ban makes banned, and what was banned stays so
banned_now : (r : Request) (f : Bytes) (before : Bool) → IsBanOf r f → is_banned_by r f before ≡ true
banned_now (BanFile file) f before is = ap (λ read. cond (is_read_as read f) true before) is ∙ ap (λ b. cond b true before) (same-refl f)
banned_now r f before is = absurd is

banned_before : (r : Request) (f : Bytes) (before : Bool) → before ≡ true → is_banned_by r f before ≡ true
banned_before (BanFile file) f before is = by (is_read_as (read_file file) f)
  where
    by : (b : Bool) → cond b true before ≡ true
    by true = refl
    by false = is
banned_before r f before is = is

-- a file that some entry bans is banned
banned_file : (h : History) (f : Bytes) → HasBan h f → is_banned_after h f ≡ true
banned_file (begins user token) f has = absurd has
banned_file (more h e) f (inl is) = banned_now e.call.request f (is_banned_after h f) is
banned_file (more h e) f (inr is) = banned_before e.call.request f (is_banned_after h f) (banned_file h f is)

-- no upload of a banned file is accepted
no_upload : (h : History) (at : ℕ) (token : Bytes) (r : Request) → verdict_after h (record { at = at; token = token; request = r }) ≡ Accept
    → (f : Bytes) (first : Bytes × ℕ) → IsUploadOf r f first → is_banned_after h f ≡ true → ⊥
no_upload h at token (Upload file sha256 body requires) accepts f first is banned =
    let c : Call = record { at = at; token = token; request = Upload file sha256 body requires } in
    let no_ban = (accepted c (facts_after h c) accepts).not_refused FileBanned refl in
    false≢true (sym no_ban ∙ ap (λ read. option_map_or (is_banned_after h) read false) is.0 ∙ banned)
no_upload h at token r accepts f first is banned = is

pub keeps_bans : (h : History) → IsLegal h → KeepsBans h
keeps_bans (begins user token) legal = tt
keeps_bans (more h e) legal = (
  keeps_bans h legal.0,
  λ f first is has. no_upload h e.call.at e.call.token e.call.request legal.1 f first is (banned_file h f has),
)
