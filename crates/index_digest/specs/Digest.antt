-- SHA-256 digests as lists of bytes, and the texts that they are written in.
use Rattle.std.specs.Prelude.{◌≡◌, ℕ, ◌==◌, ◌&&◌, Bool, if◌then◌else◌, List, length, codes, Option}
use Rattle.std.specs.Prelude.{None}
use Rattle.std.specs.List.{list_all, list_any}
use Rattle.std.specs.Result.{result_ok}
use Rattle.hex.specs.Hex.{IsBytes, decode_of, encode_lower}
use Rattle.sha2.specs.Sha256 as standard

-- the SHA-256 of a message (FIPS 180-4, section 6.2)
unfoldable pub sha256 : List ℕ → List ℕ
sha256 message = standard.sha256 message

-- how many bytes a digest has
abbrev pub digest_length : ℕ
digest_length = 32

-- how many digits a digest's text has
abbrev pub digest_text_length : ℕ
digest_text_length = 64

-- a digest is 32 bytes (FIPS 180-4, figure 1)
pub record IsDigest (digest : List ℕ) : Type 0 where
  pub size : length digest ≡ digest_length
  pub bytes : IsBytes digest

-- the sixteen digits of a digest's text, by their values
abbrev pub text_digits : List ℕ
text_digits = codes "0123456789abcdef"

-- whether a byte is a digit of `0-9`, or a letter of `a-f`
unfoldable pub is_text_digit : ℕ → Bool
is_text_digit c = list_any (λ digit. digit == c) text_digits

-- whether a text is that of a digest: 64 digits
abbrev pub is_digest_text : List ℕ → Bool
is_digest_text text = (length text == digest_text_length) && list_all is_text_digit text

-- the text of a digest: two digits for each byte, that of the high four bits first
unfoldable pub text_of : List ℕ → List ℕ
text_of digest = encode_lower digest

-- the digest that a text is of, or none of any other text
unfoldable pub read_digest : List ℕ → Option (List ℕ)
read_digest text = if is_digest_text text then result_ok (decode_of text) else None
