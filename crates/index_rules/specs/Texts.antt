-- Texts and token digests that requests bring.
use Rattle.std.specs.Prelude.{ℕ, Bool, IsTrue, not, ◌&&◌, nat_le, [], length, Option, Some, None}
use Rattle.std.specs.Prelude.{option_and_then, if◌then◌else◌}
use Rattle.std.specs.Char.{is_control}
use Rattle.std.specs.List.{list_any}
use Rattle.std.specs.Str.{is_utf8, chars}
use Rattle.index_digest.specs.Digest.{read_digest, sha256}
use Rattle.index_rules.specs.Maps.{Bytes, same}

-- the most bytes of a text
abbrev pub longest_text : ℕ
longest_text = 512

-- whether bytes are a text: 0 to 512 bytes of UTF-8 without control characters (the code points 0
-- to 31 and 127 to 159)
unfoldable pub is_text : Bytes → Bool
is_text x = nat_le (length x) longest_text && is_utf8 x && not (list_any is_control (chars x))

-- whether bytes are a text of one byte or more, as the three texts of a case are
abbrev pub is_evidence : Bytes → Bool
is_evidence x = nat_le 1 (length x) && is_text x

-- the three texts of a case
pub record AreEvidence (contact work why : Bytes) : Type 0 where
  pub contact_is : IsTrue (is_evidence contact)
  pub work_is : IsTrue (is_evidence work)
  pub why_is : IsTrue (is_evidence why)

-- the digest of a token that a text spells; the empty text is not a token
unfoldable pub read_token : Bytes → Option Bytes
read_token text =
    option_and_then (λ digest. if same digest (sha256 []) then None else Some digest)
    (read_digest text)
