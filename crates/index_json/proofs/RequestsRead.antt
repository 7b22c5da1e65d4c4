-- What is read of an object is the request whose keys it has.
use Rattle.std.proofs.Common.{◌≡◌, ◌∙◌, ℕ, ◌-◌, ◌<◌, Bool, true, false, List, Option, Some, None, if◌then◌else◌, subst, ap, refl, arith}
use Rattle.std.proofs.Common.{codes}
use Rattle.std.specs.Prelude.{bytes_eq}
use Rattle.std.proofs.lemmas.Option.{none-some, same_Some}
use Rattle.std.proofs.lemmas.Slice.Eq.{bytes_eq-Decides}
use Rattle.serde_json.specs.Data.{Data}
use Rattle.index_retention.specs.declared.attempts.CaseKind.{CaseKind}
use Rattle.index_retention.specs.declared.attempts.CaseKind.TheVariants.{Continue, Reuse}
use Rattle.index_retention.specs.declared.attempts.Means.{Means}
use Rattle.index_retention.specs.declared.attempts.Means.TheVariants.{Profile, Author, Pages}
use Rattle.index_rules.specs.declared.call.Request.{Request}
use Rattle.index_rules.specs.declared.call.Request.TheVariants.{AddUser, SetToken, SetQuota, Claim, AddOwner, RemoveOwner, Upload, Delete}
use Rattle.index_rules.specs.declared.call.Request.TheVariants.{BanFile, Yank, Unyank, Relinquish, Prohibit, Allow, OpenCase, RecordAttempt}
use Rattle.index_rules.specs.declared.call.Request.TheVariants.{Transfer, CloseCase, AnswerCase}
use Rattle.index_json.specs.Json.{flag_at, hex_bytes, number_at, text_at}
use Rattle.index_json.specs.Keys.{distinct_key_count, members_of, means_text, SaysEach}
use Rattle.index_json.specs.Object.{Object}
use Rattle.index_json.specs.Reading.{Reading, ◌>>=◌, always, flag, maybe, number, text, texts}
use Rattle.index_json.specs.Requests.{add_user_row, ban_file_row, request_on_case, delete_row, request_on_file, case_kind_of, means_of}
use Rattle.index_json.specs.Requests.{name_request, request_on_name, open_case_row, owner_request, request_on_owner, record_attempt_row}
use Rattle.index_json.specs.Requests.{set_quota_row, set_token_row, transfer_row, unyank_row, upload_row, request_on_user, yank_row}
use Rattle.index_json.specs.StandingText.{kind_text}
use Rattle.index_json.proofs.RequestsFound.{left_of}

-- these stand at the keys of a request, of which a row took so many of an object that `after` are left
pub record Read (value : Data) (left : ℕ) (asked : Request) (after : ℕ) : Type 0 where
  pub each : SaysEach value (members_of asked)
  pub few : after ≡ 0 → left < distinct_key_count (members_of asked)

-- ---- rows of one key, of two and of three

-- what holds of each end of a row holds of this one
ends : (P : Request → ℕ → Type 0) (request asked : Request) (after end : Object)
    → ◌≡◌ {A = Option (Request × Object)} (Some (request, end)) (Some (asked, after)) → P request end.left → P asked after.left
ends P request asked after end is holds =
    subst (λ (p : Request × Object). P p.0 p.1.left) (same_Some {A = Request × Object} (request, end) (asked, after) is) holds

never : {P : Type 0} (end : Request × Object) → ◌≡◌ {A = Option (Request × Object)} None (Some end) → P
never end is = absurd (none-some end is)

module _ (value : Data) (left : ℕ) (P : Request → ℕ → Type 0) (asked : Request) (after : Object) where
  -- a text
  one_text : (k : List ℕ) (make : List ℕ → Request) → ((x : List ℕ) → text_at k value ≡ Some x → P (make x) (left - 1))
      → (a : Option (List ℕ)) → text_at k value ≡ a
      → (text k >>= λ x. always (make x)) (left_of value left) ≡ Some (asked, after) → P asked after.left
  one_text k make holds None is h = never (asked, after) (rw is at h)
  one_text k make holds (Some x) is h = ends P (make x) asked after (left_of value (left - 1)) (rw is at h) (holds x is)

  -- two texts
  two_texts : (k l : List ℕ) (make : List ℕ → List ℕ → Request)
      → ((x y : List ℕ) → text_at k value ≡ Some x → text_at l value ≡ Some y → P (make x y) (left - 1 - 1))
      → (a b : Option (List ℕ)) → text_at k value ≡ a → text_at l value ≡ b
      → (texts k l >>= λ found. always (make found.0 found.1)) (left_of value left) ≡ Some (asked, after) → P asked after.left
  two_texts k l make holds None b is other h = never (asked, after) (rw is at h)
  two_texts k l make holds (Some x) None is other h = never (asked, after) (rw (is, other) at h)
  two_texts k l make holds (Some x) (Some y) is other h =
      ends P (make x y) asked after (left_of value (left - 1 - 1)) (rw (is, other) at h) (holds x y is other)

  -- true or false, and a text
  flag_text : (k l : List ℕ) (make : Bool → List ℕ → Request)
      → ((t : Bool) (y : List ℕ) → flag_at k value ≡ Some t → text_at l value ≡ Some y → P (make t y) (left - 1 - 1))
      → (a : Option Bool) (b : Option (List ℕ)) → flag_at k value ≡ a → text_at l value ≡ b
      → (flag k >>= λ t. text l >>= λ y. always (make t y)) (left_of value left) ≡ Some (asked, after) → P asked after.left
  flag_text k l make holds None b is other h = never (asked, after) (rw is at h)
  flag_text k l make holds (Some t) None is other h = never (asked, after) (rw (is, other) at h)
  flag_text k l make holds (Some t) (Some y) is other h =
      ends P (make t y) asked after (left_of value (left - 1 - 1)) (rw (is, other) at h) (holds t y is other)

  -- a number and a text
  number_text : (k l : List ℕ) (make : ℕ → List ℕ → Request)
      → ((n : ℕ) (y : List ℕ) → number_at k value ≡ Some n → text_at l value ≡ Some y → P (make n y) (left - 1 - 1))
      → (a : Option ℕ) (b : Option (List ℕ)) → number_at k value ≡ a → text_at l value ≡ b
      → (number k >>= λ n. text l >>= λ y. always (make n y)) (left_of value left) ≡ Some (asked, after) → P asked after.left
  number_text k l make holds None b is other h = never (asked, after) (rw is at h)
  number_text k l make holds (Some n) None is other h = never (asked, after) (rw (is, other) at h)
  number_text k l make holds (Some n) (Some y) is other h =
      ends P (make n y) asked after (left_of value (left - 1 - 1)) (rw (is, other) at h) (holds n y is other)

  -- true or false, and two texts
  flag_texts : (k l m : List ℕ) (make : Bool → List ℕ → List ℕ → Request)
      → ((t : Bool) (x y : List ℕ) → flag_at k value ≡ Some t → text_at l value ≡ Some x → text_at m value ≡ Some y
      → P (make t x y) (left - 1 - 1 - 1))
      → (a : Option Bool) (b c : Option (List ℕ)) → flag_at k value ≡ a → text_at l value ≡ b → text_at m value ≡ c
      → (flag k >>= λ t. texts l m >>= λ found. always (make t found.0 found.1)) (left_of value left) ≡ Some (asked, after)
      → P asked after.left
  flag_texts k l m make holds None b c one two three h = never (asked, after) (rw one at h)
  flag_texts k l m make holds (Some t) None c one two three h = never (asked, after) (rw (one, two) at h)
  flag_texts k l m make holds (Some t) (Some x) None one two three h = never (asked, after) (rw (one, two, three) at h)
  flag_texts k l m make holds (Some t) (Some x) (Some y) one two three h =
      ends P (make t x y) asked after (left_of value (left - 1 - 1 - 1)) (rw (one, two, three) at h) (holds t x y one two three)

  -- three texts, the first of them read first
  three_texts : (k l m : List ℕ) (make : List ℕ → List ℕ → List ℕ → Request)
      → ((x y z : List ℕ) → text_at k value ≡ Some x → text_at l value ≡ Some y → text_at m value ≡ Some z
      → P (make x y z) (left - 1 - 1 - 1))
      → (a b c : Option (List ℕ)) → text_at k value ≡ a → text_at l value ≡ b → text_at m value ≡ c
      → (text k >>= λ x. texts l m >>= λ found. always (make x found.0 found.1)) (left_of value left) ≡ Some (asked, after)
      → P asked after.left
  three_texts k l m make holds None b c one two three h = never (asked, after) (rw one at h)
  three_texts k l m make holds (Some x) None c one two three h = never (asked, after) (rw (one, two) at h)
  three_texts k l m make holds (Some x) (Some y) None one two three h = never (asked, after) (rw (one, two, three) at h)
  three_texts k l m make holds (Some x) (Some y) (Some z) one two three h =
      ends P (make x y z) asked after (left_of value (left - 1 - 1 - 1)) (rw (one, two, three) at h) (holds x y z one two three)

  -- four texts
  four_texts : (k l m n : List ℕ) (make : List ℕ → List ℕ → List ℕ → List ℕ → Request)
      → ((x y z w : List ℕ) → text_at k value ≡ Some x → text_at l value ≡ Some y → text_at m value ≡ Some z → text_at n value ≡ Some w
      → P (make x y z w) (left - 1 - 1 - 1 - 1))
      → (a b c d : Option (List ℕ)) → text_at k value ≡ a → text_at l value ≡ b → text_at m value ≡ c → text_at n value ≡ d
      → (texts k l >>= λ found. texts m n >>= λ more. always (make found.0 found.1 more.0 more.1)) (left_of value left)
      ≡ Some (asked, after) → P asked after.left
  four_texts k l m n make holds None b c d one two three four h = never (asked, after) (rw one at h)
  four_texts k l m n make holds (Some x) None c d one two three four h = never (asked, after) (rw (one, two) at h)
  four_texts k l m n make holds (Some x) (Some y) None d one two three four h = never (asked, after) (rw (one, two, three) at h)
  four_texts k l m n make holds (Some x) (Some y) (Some z) None one two three four h =
      never (asked, after) (rw (one, two, three, four) at h)
  four_texts k l m n make holds (Some x) (Some y) (Some z) (Some w) one two three four h =
      ends P (make x y z w) asked after (left_of value (left - 1 - 1 - 1 - 1)) (rw (one, two, three, four) at h)
      (holds x y z w one two three four)

-- ---- how many keys were taken

few_1 : (n : ℕ) → n - 1 ≡ 0 → n < 2
few_1 n none = omega (arith, none)

few_2 : (n : ℕ) → n - 1 - 1 ≡ 0 → n < 3
few_2 n none = omega (arith, none)

few_3 : (n : ℕ) → n - 1 - 1 - 1 ≡ 0 → n < 4
few_3 n none = omega (arith, none)

few_4 : (n : ℕ) → n - 1 - 1 - 1 - 1 ≡ 0 → n < 5
few_4 n none = omega (arith, none)

few_5 : (n : ℕ) → n - 1 - 1 - 1 - 1 - 1 ≡ 0 → n < 6
few_5 n none = omega (arith, none)

-- ---- words

-- what follows on either side of a test of a word
by_word : {A P : Type 0} (word this : List ℕ) (t : Bool) (first second : Option A) (end : A) → (t ≡ true → word ≡ this)
    → (if t then first else second) ≡ Some end → (word ≡ this → first ≡ Some end → P) → (second ≡ Some end → P) → P
by_word word this true first second end same h here there = here (same refl) h
by_word word this false first second end same h here there = there h

-- the word of a kind of case, and that of a means
kind_word : (word : List ℕ) (kind : CaseKind) → case_kind_of word ≡ Some kind → word ≡ kind_text kind
kind_word word kind h =
    by_word word (codes "continue") (bytes_eq word (codes "continue")) (Some Continue) _ kind (bytes_eq-Decides word (codes "continue")).0 h
    (λ same is. same ∙ ap kind_text (same_Some Continue kind is)) (λ h.
    by_word word (codes "reuse") (bytes_eq word (codes "reuse")) (Some Reuse) None kind (bytes_eq-Decides word (codes "reuse")).0 h
    (λ same is. same ∙ ap kind_text (same_Some Reuse kind is)) (λ h. absurd (none-some kind h)))

means_word : (word : List ℕ) (means : Means) → means_of word ≡ Some means → word ≡ means_text means
means_word word means h =
    by_word word (codes "profile") (bytes_eq word (codes "profile")) (Some Profile) _ means (bytes_eq-Decides word (codes "profile")).0 h
    (λ same is. same ∙ ap means_text (same_Some Profile means is)) (λ h.
    by_word word (codes "author") (bytes_eq word (codes "author")) (Some Author) _ means (bytes_eq-Decides word (codes "author")).0 h
    (λ same is. same ∙ ap means_text (same_Some Author means is)) (λ h.
    by_word word (codes "pages") (bytes_eq word (codes "pages")) (Some Pages) None means (bytes_eq-Decides word (codes "pages")).0 h
    (λ same is. same ∙ ap means_text (same_Some Pages means is)) (λ h. absurd (none-some means h))))

-- ---- keys whose text is read further

-- what was read at a key, of a text that says it, and then the rest
module _ {A P : Type 0} (value : Data) (left : ℕ) (key : List ℕ) (read : List ℕ → Option A) (next : A
    → Reading Request) (end : Request × Object) where
  further_of : (word : List ℕ) (a : Option A) → text_at key value ≡ Some word → read word ≡ a
      → ((text key >>= λ word. maybe (read word)) >>= next) (left_of value left) ≡ Some end
      → ((this : A) → read word ≡ Some this → next this (left_of value (left - 1)) ≡ Some end → P) → P
  further_of word None is other h go = never end (rw (is, other) at h)
  further_of word (Some this) is other h go = go this other (rw (is, other) at h)

  further : (a : Option (List ℕ)) → text_at key value ≡ a
      → ((text key >>= λ word. maybe (read word)) >>= next) (left_of value left) ≡ Some end
      → ((word : List ℕ) (this : A) → text_at key value ≡ Some word → read word ≡ Some this
      → next this (left_of value (left - 1)) ≡ Some end → P) → P
  further None is h go = never end (rw is at h)
  further (Some word) is h go = further_of word (read word) is refl h (λ this other. go word this is other)

-- ---- the rows, from the last file to the first

module _ (value : Data) (left : ℕ) (asked : Request) (after : Object) where
  -- it is the request of a row, of this word
  abbrev IsRow : List ℕ → Type 0
  IsRow word = text_at (codes "do") value ≡ Some word → Read value left asked after.left

  open_case : open_case_row (left_of value left) ≡ Some (asked, after) → IsRow (codes "open_case")
  open_case h = λ at_do.
      further value left (codes "kind") case_kind_of
      (λ kind. texts (codes "name") (codes "contact") >>= λ found. texts (codes "work") (codes "why") >>= λ more. always
      (OpenCase found.0 kind found.1 more.0 more.1)) (asked, after) _ refl h (λ word kind at_kind is_kind h.
      four_texts value (left - 1) (Read value left) asked after (codes "name") (codes "contact") (codes "work") (codes "why")
      (λ name contact work why. OpenCase name kind contact work why)
      (λ name contact work why at_name at_contact at_work at_why. record {
        each = (at_do, (at_name, (at_kind ∙ ap Some (kind_word word kind is_kind), (at_contact, (at_work, (at_why, tt))))));
        few = few_5 left;
      }) _ _ _ _ refl refl refl refl h)

  record_attempt : record_attempt_row (left_of value left) ≡ Some (asked, after) → IsRow (codes "record_attempt")
  record_attempt h = λ at_do.
      further value left (codes "means") means_of
      (λ means. flag (codes "sent") >>= λ sent. text (codes "name") >>= λ name. always (RecordAttempt name means sent)) (
        asked,
        after,
      ) _ refl h (λ word means at_means is_means h.
      flag_text value (left - 1) (Read value left) asked after (codes "sent") (codes "name") (λ sent name. RecordAttempt name means sent)
      (λ sent name at_sent at_name. record {
        each = (at_do, (at_name, (at_means ∙ ap Some (means_word word means is_means), (at_sent, tt))));
        few = few_3 left;
      }) _ _ refl refl h)

  upload : upload_row (left_of value left) ≡ Some (asked, after) → IsRow (codes "upload")
  upload h = λ at_do.
      further value left (codes "hex") hex_bytes
      (λ body. text (codes "requires_python") >>= λ requires. texts (codes "file") (codes "sha256") >>= λ found. always
      (Upload found.0 found.1 body requires)) (asked, after) _ refl h (λ digits body at_hex is_hex h.
      three_texts value (left - 1) (Read value left) asked after (codes "requires_python") (codes "file") (codes "sha256")
      (λ requires file sha256. Upload file sha256 body requires)
      (λ requires file sha256 at_requires at_file at_sha256. record {
        each = (at_do, (at_file, (at_sha256, ((digits, at_hex, is_hex), (at_requires, tt)))));
        few = few_4 left;
      }) _ _ _ refl refl refl h)

  -- a row of a text alone
  of_one : (word k : List ℕ) (make : List ℕ → Request)
      → ((x : List ℕ) → text_at k value ≡ Some x → text_at (codes "do") value ≡ Some word → SaysEach value (members_of (make x)))
      → ((x : List ℕ) → distinct_key_count (members_of (make x)) ≡ 2)
      → (text k >>= λ x. always (make x)) (left_of value left) ≡ Some (asked, after) → IsRow word
  of_one word k make each two h = λ at_do.
      one_text value left (Read value left) asked after k make
      (λ x at_x. record { each = each x at_x at_do; few = λ none. rw (two x) (few_1 left none) }) _ refl h

  -- a row of two texts
  of_two : (word k l : List ℕ) (make : List ℕ → List ℕ → Request)
      → ((x y : List ℕ) → text_at k value ≡ Some x → text_at l value ≡ Some y → text_at (codes "do") value ≡ Some word
      → SaysEach value (members_of (make x y)))
      → ((x y : List ℕ) → distinct_key_count (members_of (make x y)) ≡ 3)
      → (texts k l >>= λ found. always (make found.0 found.1)) (left_of value left) ≡ Some (asked, after) → IsRow word
  of_two word k l make each three h = λ at_do.
      two_texts value left (Read value left) asked after k l make
      (λ x y at_x at_y. record { each = each x y at_x at_y at_do; few = λ none. rw (three x y) (few_2 left none) }) _ _ refl refl h

  transfer : transfer_row (left_of value left) ≡ Some (asked, after) → IsRow (codes "transfer")
  transfer h = λ at_do.
      flag_text value left (Read value left) asked after (codes "quiet") (codes "name") (λ quiet name. Transfer name quiet)
      (λ quiet name at_quiet at_name. record { each = (at_do, (at_name, (at_quiet, tt))); few = few_2 left }) _ _ refl refl h

  set_quota : set_quota_row (left_of value left) ≡ Some (asked, after) → IsRow (codes "set_quota")
  set_quota h = λ at_do.
      number_text value left (Read value left) asked after (codes "quota") (codes "name") (λ quota name. SetQuota name quota)
      (λ quota name at_quota at_name. record { each = (at_do, (at_name, (at_quota, tt))); few = few_2 left }) _ _ refl refl h

  add_user : add_user_row (left_of value left) ≡ Some (asked, after) → IsRow (codes "add_user")
  add_user h = λ at_do.
      flag_texts value left (Read value left) asked after (codes "office") (codes "user") (codes "token_sha256")
      (λ office user token. AddUser user office token)
      (λ office user token at_office at_user at_token. record { each = (at_do, (at_user, (at_office, (at_token, tt)))); few = few_3 left })
      _ _ _ refl refl refl h

  yank : yank_row (left_of value left) ≡ Some (asked, after) → IsRow (codes "yank")
  yank h = λ at_do.
      three_texts value left (Read value left) asked after (codes "reason") (codes "name") (codes "release")
      (λ reason name release. Yank name release reason)
      (λ reason name release at_reason at_name at_release. record {
        each = (at_do, (at_name, (at_release, (at_reason, tt))));
        few = few_3 left;
      }) _ _ _ refl refl refl h

  -- ---- the word of a row

  module _ (word : List ℕ) (at_do : text_at (codes "do") value ≡ Some word) where
    abbrev Row : Type 0
    Row = Read value left asked after.left

    -- the row of this word, or one of the others
    first_of_rows : (this : List ℕ) (first second : Option (Request × Object))
        → (if bytes_eq word this then first else second) ≡ Some (asked, after)
        → (first ≡ Some (asked, after) → IsRow this) → (second ≡ Some (asked, after) → Row) → Row
    first_of_rows this first second h here there =
        by_word word this (bytes_eq word this) first second (
          asked,
          after,
        ) (bytes_eq-Decides word this).0 h (λ same is. here is (at_do ∙ ap Some same)) there

    case_read : request_on_case word (left_of value left) ≡ Some (asked, after) → Row
    case_read h =
        first_of_rows (codes "open_case") (open_case_row (left_of value left)) _ h open_case (λ h.
        first_of_rows (codes "record_attempt") (record_attempt_row (left_of value left)) _ h record_attempt (λ h.
        first_of_rows (codes "transfer") (transfer_row (left_of value left)) _ h transfer (λ h.
        first_of_rows (codes "close_case") (name_request CloseCase (left_of value left)) _ h
        (of_one (codes "close_case") (codes "name") CloseCase (λ x at_x at_do. (at_do, (at_x, tt))) (λ x. refl)) (λ h.
        first_of_rows (codes "answer_case") (name_request AnswerCase (left_of value left)) _ h
        (of_one (codes "answer_case") (codes "name") AnswerCase (λ x at_x at_do. (at_do, (at_x, tt))) (λ x. refl)) (λ h.
        never (asked, after) h)))))

    file_read : request_on_file word (left_of value left) ≡ Some (asked, after) → Row
    file_read h =
        first_of_rows (codes "upload") (upload_row (left_of value left)) _ h upload (λ h.
        first_of_rows (codes "delete") (delete_row (left_of value left)) _ h
        (of_one (codes "delete") (codes "file") Delete (λ x at_x at_do. (at_do, (at_x, tt))) (λ x. refl)) (λ h.
        first_of_rows (codes "ban_file") (ban_file_row (left_of value left)) _ h
        (of_one (codes "ban_file") (codes "file") BanFile (λ x at_x at_do. (at_do, (at_x, tt))) (λ x. refl)) (λ h.
        first_of_rows (codes "yank") (yank_row (left_of value left)) _ h yank (λ h.
        first_of_rows (codes "unyank") (unyank_row (left_of value left)) _ h
        (of_two (codes "unyank") (codes "name") (codes "release") Unyank (λ x y at_x at_y at_do. (at_do, (at_x, (at_y, tt))))
        (λ x y. refl)) (λ h.
        case_read h)))))

    owner_read : request_on_owner word (left_of value left) ≡ Some (asked, after) → Row
    owner_read h =
        first_of_rows (codes "claim") (name_request Claim (left_of value left)) _ h
        (of_one (codes "claim") (codes "name") Claim (λ x at_x at_do. (at_do, (at_x, tt))) (λ x. refl)) (λ h.
        first_of_rows (codes "relinquish") (name_request Relinquish (left_of value left)) _ h
        (of_one (codes "relinquish") (codes "name") Relinquish (λ x at_x at_do. (at_do, (at_x, tt))) (λ x. refl)) (λ h.
        first_of_rows (codes "add_owner") (owner_request AddOwner (left_of value left)) _ h
        (of_two (codes "add_owner") (codes "name") (codes "user") AddOwner (λ x y at_x at_y at_do. (at_do, (at_x, (at_y, tt))))
        (λ x y. refl)) (λ h.
        first_of_rows (codes "remove_owner") (owner_request RemoveOwner (left_of value left)) _ h
        (of_two (codes "remove_owner") (codes "name") (codes "user") RemoveOwner (λ x y at_x at_y at_do. (at_do, (at_x, (at_y, tt))))
        (λ x y. refl)) (λ h.
        file_read h))))

    name_read : request_on_name word (left_of value left) ≡ Some (asked, after) → Row
    name_read h =
        first_of_rows (codes "set_quota") (set_quota_row (left_of value left)) _ h set_quota (λ h.
        first_of_rows (codes "prohibit") (name_request Prohibit (left_of value left)) _ h
        (of_one (codes "prohibit") (codes "name") Prohibit (λ x at_x at_do. (at_do, (at_x, tt))) (λ x. refl)) (λ h.
        first_of_rows (codes "allow") (name_request Allow (left_of value left)) _ h
        (of_one (codes "allow") (codes "name") Allow (λ x at_x at_do. (at_do, (at_x, tt))) (λ x. refl)) (λ h.
        owner_read h)))

    pub user_read : request_on_user word (left_of value left) ≡ Some (asked, after) → Row
    user_read h =
        first_of_rows (codes "add_user") (add_user_row (left_of value left)) _ h add_user (λ h.
        first_of_rows (codes "set_token") (set_token_row (left_of value left)) _ h
        (of_two (codes "set_token") (codes "user") (codes "token_sha256") SetToken (λ x y at_x at_y at_do. (at_do, (at_x, (at_y, tt))))
        (λ x y. refl)) (λ h.
        name_read h))
