-- An object with the keys of a request is read as that request.
use Rattle.std.proofs.Common.{◌≡◌, ℕ, ◌-◌, ◌≤◌, false, List, Some, refl, arith, codes}
use Rattle.std.specs.Prelude.{bytes_eq}
use Rattle.serde_json.specs.Data.{Data}
use Rattle.index_retention.specs.declared.attempts.CaseKind.{CaseKind}
use Rattle.index_retention.specs.declared.attempts.CaseKind.TheVariants.{Continue, Reuse}
use Rattle.index_retention.specs.declared.attempts.Means.{Means}
use Rattle.index_retention.specs.declared.attempts.Means.TheVariants.{Profile, Author, Pages}
use Rattle.index_rules.specs.declared.call.Request.{Request}
use Rattle.index_rules.specs.declared.call.Request.TheVariants.{AddUser, SetToken, SetQuota, Claim, AddOwner, RemoveOwner, Upload, Delete}
use Rattle.index_rules.specs.declared.call.Request.TheVariants.{BanFile, Yank, Unyank, Relinquish, Prohibit, Allow, OpenCase, RecordAttempt}
use Rattle.index_rules.specs.declared.call.Request.TheVariants.{Transfer, CloseCase, AnswerCase}
use Rattle.index_json.specs.Json.{text_at}
use Rattle.index_json.specs.Keys.{distinct_key_count, members_of, means_text, SaysEach}
use Rattle.index_json.specs.Object.{Object}
use Rattle.index_json.specs.Requests.{case_kind_of, means_of, request_on_user}
use Rattle.index_json.specs.StandingText.{kind_text}

-- an object of which so many keys are left to read
abbrev pub left_of : Data → ℕ → Object
left_of value left = record { left = left; value = value }

-- the word at which a request is read, and the object behind its row
pub record Found (value : Data) (left : ℕ) (asked : Request) : Type 0 where
  pub word : List ℕ
  pub after : Object
  pub is : text_at (codes "do") value ≡ Some word
  pub row : request_on_user word (left_of value left) ≡ Some (asked, after)
  pub other : bytes_eq word (codes "standing") ≡ false
  pub none_left : after.left ≡ 0

-- the kind and the means that words of theirs say
kind_of-text : (kind : CaseKind) → case_kind_of (kind_text kind) ≡ Some kind
kind_of-text Continue = refl
kind_of-text Reuse = refl

means_of-text : (means : Means) → means_of (means_text means) ≡ Some means
means_of-text Profile = refl
means_of-text Author = refl
means_of-text Pages = refl

-- rows of so many keys leave none of as few
none_1 : (n : ℕ) → n ≤ 1 → n - 1 ≡ 0
none_1 n few = omega (arith, few)

none_2 : (n : ℕ) → n ≤ 2 → n - 1 - 1 ≡ 0
none_2 n few = omega (arith, few)

none_3 : (n : ℕ) → n ≤ 3 → n - 1 - 1 - 1 ≡ 0
none_3 n few = omega (arith, few)

none_4 : (n : ℕ) → n ≤ 4 → n - 1 - 1 - 1 - 1 ≡ 0
none_4 n few = omega (arith, few)

none_5 : (n : ℕ) → n ≤ 5 → n - 1 - 1 - 1 - 1 - 1 ≡ 0
none_5 n few = omega (arith, few)

-- each request, by its keys in the order in which its row is read
pub found : (asked : Request) (value : Data) (left : ℕ) → SaysEach value (members_of asked)
    → left ≤ distinct_key_count (members_of asked) - 1
    → Found value left asked
found (AddUser user office token) value left keys few = record {
  word = codes "add_user";
  after = left_of value (left - 1 - 1 - 1);
  is = keys.0;
  row = rw (keys.1.1.0, keys.1.0, keys.1.1.1.0) refl;
  other = refl;
  none_left = none_3 left few;
}
found (SetToken user token) value left keys few = record {
  word = codes "set_token";
  after = left_of value (left - 1 - 1);
  is = keys.0;
  row = rw (keys.1.0, keys.1.1.0) refl;
  other = refl;
  none_left = none_2 left few;
}
found (SetQuota name quota) value left keys few = record {
  word = codes "set_quota";
  after = left_of value (left - 1 - 1);
  is = keys.0;
  row = rw (keys.1.1.0, keys.1.0) refl;
  other = refl;
  none_left = none_2 left few;
}
found (Claim name) value left keys few = record {
  word = codes "claim";
  after = left_of value (left - 1);
  is = keys.0;
  row = rw (keys.1.0) refl;
  other = refl;
  none_left = none_1 left few;
}
found (Relinquish name) value left keys few = record {
  word = codes "relinquish";
  after = left_of value (left - 1);
  is = keys.0;
  row = rw (keys.1.0) refl;
  other = refl;
  none_left = none_1 left few;
}
found (Prohibit name) value left keys few = record {
  word = codes "prohibit";
  after = left_of value (left - 1);
  is = keys.0;
  row = rw (keys.1.0) refl;
  other = refl;
  none_left = none_1 left few;
}
found (Allow name) value left keys few = record {
  word = codes "allow";
  after = left_of value (left - 1);
  is = keys.0;
  row = rw (keys.1.0) refl;
  other = refl;
  none_left = none_1 left few;
}
found (AddOwner name user) value left keys few = record {
  word = codes "add_owner";
  after = left_of value (left - 1 - 1);
  is = keys.0;
  row = rw (keys.1.0, keys.1.1.0) refl;
  other = refl;
  none_left = none_2 left few;
}
found (RemoveOwner name user) value left keys few = record {
  word = codes "remove_owner";
  after = left_of value (left - 1 - 1);
  is = keys.0;
  row = rw (keys.1.0, keys.1.1.0) refl;
  other = refl;
  none_left = none_2 left few;
}
found (Upload file sha256 body requires) value left keys few = record {
  word = codes "upload";
  after = left_of value (left - 1 - 1 - 1 - 1);
  is = keys.0;
  row = rw (keys.1.1.1.0.1, keys.1.1.1.0.2, keys.1.1.1.1.0, keys.1.0, keys.1.1.0) refl;
  other = refl;
  none_left = none_4 left few;
}
found (Delete file) value left keys few = record {
  word = codes "delete";
  after = left_of value (left - 1);
  is = keys.0;
  row = rw (keys.1.0) refl;
  other = refl;
  none_left = none_1 left few;
}
found (BanFile file) value left keys few = record {
  word = codes "ban_file";
  after = left_of value (left - 1);
  is = keys.0;
  row = rw (keys.1.0) refl;
  other = refl;
  none_left = none_1 left few;
}
found (Yank name release reason) value left keys few = record {
  word = codes "yank";
  after = left_of value (left - 1 - 1 - 1);
  is = keys.0;
  row = rw (keys.1.1.1.0, keys.1.0, keys.1.1.0) refl;
  other = refl;
  none_left = none_3 left few;
}
found (Unyank name release) value left keys few = record {
  word = codes "unyank";
  after = left_of value (left - 1 - 1);
  is = keys.0;
  row = rw (keys.1.0, keys.1.1.0) refl;
  other = refl;
  none_left = none_2 left few;
}
found (OpenCase name kind contact work why) value left keys few = record {
  word = codes "open_case";
  after = left_of value (left - 1 - 1 - 1 - 1 - 1);
  is = keys.0;
  row = rw (keys.1.1.0, kind_of-text kind, keys.1.0, keys.1.1.1.0, keys.1.1.1.1.0, keys.1.1.1.1.1.0) refl;
  other = refl;
  none_left = none_5 left few;
}
found (RecordAttempt name means sent) value left keys few = record {
  word = codes "record_attempt";
  after = left_of value (left - 1 - 1 - 1);
  is = keys.0;
  row = rw (keys.1.1.0, means_of-text means, keys.1.1.1.0, keys.1.0) refl;
  other = refl;
  none_left = none_3 left few;
}
found (Transfer name quiet) value left keys few = record {
  word = codes "transfer";
  after = left_of value (left - 1 - 1);
  is = keys.0;
  row = rw (keys.1.1.0, keys.1.0) refl;
  other = refl;
  none_left = none_2 left few;
}
found (CloseCase name) value left keys few = record {
  word = codes "close_case";
  after = left_of value (left - 1);
  is = keys.0;
  row = rw (keys.1.0) refl;
  other = refl;
  none_left = none_1 left few;
}
found (AnswerCase name) value left keys few = record {
  word = codes "answer_case";
  after = left_of value (left - 1);
  is = keys.0;
  row = rw (keys.1.0) refl;
  other = refl;
  none_left = none_1 left few;
}
