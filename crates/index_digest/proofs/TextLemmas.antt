-- Which texts are a digest's, and that they read as it.
use Rattle.std.proofs.Common.{◌≡◌, ℕ, ◌+◌, ◌*◌, ◌/◌, ◌%◌, ◌<◌, ◌==◌, ◌&&◌, zero, suc, true, false, List, [], ◌∷◌, length, slice_index, Some}
use Rattle.std.proofs.Common.{None, Ok, inl, inr, refl, rules, subst, ap, ◌∙◌, arith}
use Rattle.std.specs.List.{list_all, list_any}
use Rattle.std.specs.Result.{result_ok}
use Rattle.std.proofs.lemmas.Bool.{and_parts, or_cases, eqb-true}
use Rattle.std.proofs.lemmas.List.Folds.{list_any_at}
use Rattle.hex.specs.Hex.{IsBytes, decode_of, decode_sized, encode_lower, encode_with, lower_digits}
use Rattle.hex.proofs.HexLemmas.{decode_of-encode_lower, decode_sized-encode_lower, length-encode_with}
use Rattle.index_digest.specs.Digest.{IsDigest, read_digest, is_digest_text, is_text_digit, text_digits, text_of}

-- the place of a byte in a list that has it
place : (c : ℕ) (digits : List ℕ) → list_any (λ digit. digit == c) digits ≡ true
    → (k : ℕ) × (k < length digits) × (slice_index digits k ≡ c)
place c [] h = cc h
place c (d ∷ digits) h =
    elim (or_cases (d == c) (list_any (λ digit. digit == c) digits) h) [
      | inl here ↦ (0, omega arith, eqb-true d c here)
      | inr later ↦
          let rest = place c digits later in
          (suc rest.0, omega arith, rest.2)
    ]

-- the value of a digit
value : (c : ℕ) → is_text_digit c ≡ true → (k : ℕ) × (k < 16) × (slice_index lower_digits k ≡ c)
unfolding is_text_digit
value c h = place c text_digits h

encode_lower-nil : encode_lower [] ≡ []
unfolding encode_with
encode_lower-nil = refl

-- two digits and the rest are the text of one byte more
pair_text : (high low a b : ℕ) (bytes rest : List ℕ) → high < 16 → low < 16
    → slice_index lower_digits high ≡ a → slice_index lower_digits low ≡ b → encode_lower bytes ≡ rest
    → encode_lower ((high * 16 + low) ∷ bytes) ≡ a ∷ b ∷ rest
unfolding encode_with
pair_text high low a b bytes rest h l ea eb same =
    let upper : (high * 16 + low) / 16 ≡ high = omega arith in
    let lower : (high * 16 + low) % 16 ≡ low = omega arith in
    rw (upper, lower, ea, eb, same) refl

IsBytes-cons : (x : ℕ) (xs : List ℕ) → x < 256 → IsBytes xs → IsBytes (x ∷ xs)
IsBytes-cons x xs h fits zero = h
IsBytes-cons x xs h fits (suc i) = fits i

-- bytes with that text
record Encodes (text bytes : List ℕ) : Type 0 where
  same : encode_lower bytes ≡ text
  fits : IsBytes bytes

-- an even number of digits is the text of some bytes
encoded : (text : List ℕ) → length text % 2 ≡ 0 → list_all is_text_digit text ≡ true
    → (bytes : List ℕ) × Encodes text bytes
encoded [] even h = ([], record { same = encode_lower-nil; fits = λ i. omega arith })
encoded (a ∷ []) even h = absurd (omega arith)
encoded (a ∷ b ∷ rest) even h =
    let parts = and_parts (is_text_digit a) (is_text_digit b && list_all is_text_digit rest) h in
    let later = and_parts (is_text_digit b) (list_all is_text_digit rest) parts.1 in
    let high = value a parts.0 in
    let low = value b later.0 in
    let tail = encoded rest (omega arith) later.1 in (
      (high.0 * 16 + low.0) ∷ tail.0,
      record {
        same = pair_text high.0 low.0 a b tail.0 rest high.1 low.1 high.2 low.2 tail.1.same;
        fits = IsBytes-cons (high.0 * 16 + low.0) tail.0 (omega arith) tail.1.fits;
      },
    )

-- a digest's text is that of 32 bytes, and reads as them
pub record Reads (text digest : List ℕ) : Type 0 where
  pub is_digest : IsDigest digest
  pub same : text_of digest ≡ text
  pub sized : decode_sized text 32 ≡ Ok digest
  pub found : read_digest text ≡ Some digest

-- each digit that is written is one
is_text_digit-at : (k : ℕ) → k < 16 → is_text_digit (slice_index lower_digits k) ≡ true
unfolding is_text_digit
is_text_digit-at k h = list_any_at (λ digit. digit == slice_index lower_digits k) text_digits k 0 h (search rules)

list_all-encode_lower : (bytes : List ℕ) → IsBytes bytes → list_all is_text_digit (encode_lower bytes) ≡ true
unfolding encode_with
list_all-encode_lower [] fits = refl
list_all-encode_lower (b ∷ bytes) fits =
    let byte : b < 256 = fits 0 in
    rw (is_text_digit-at (b / 16) (omega arith), is_text_digit-at (b % 16) (omega arith)) (list_all-encode_lower bytes (λ i. fits (suc i)))

read_digest-digits : (text : List ℕ) → is_digest_text text ≡ true → read_digest text ≡ result_ok (decode_of text)
unfolding read_digest
read_digest-digits text h = rw h refl

-- what is no digest's text has none
pub read_digest-other : (text : List ℕ) → is_digest_text text ≡ false → read_digest text ≡ None
unfolding read_digest
read_digest-other text h = rw h refl

-- 32 bytes read from their text
pub reads_back : (digest : List ℕ) → IsDigest digest → Reads (text_of digest) digest
unfolding text_of
reads_back digest h =
    let size = length-encode_with lower_digits digest in
    let digits = list_all-encode_lower digest h.bytes in
    let long : length (encode_lower digest) ≡ 64 = omega (arith, size, h.size) in
    let found : is_digest_text (encode_lower digest) ≡ true = rw (long, digits) refl in
    record {
      is_digest = h;
      same = refl;
      sized = decode_sized-encode_lower digest 32 h.size h.bytes;
      found = read_digest-digits (encode_lower digest) found ∙ ap result_ok (decode_of-encode_lower digest h.bytes);
    }

-- each digest's text reads
pub reads : (text : List ℕ) → is_digest_text text ≡ true → (digest : List ℕ) × Reads text digest
unfolding text_of
reads text h =
    let parts = and_parts (length text == 64) (list_all is_text_digit text) h in
    let size = eqb-true (length text) 64 parts.0 in
    let bytes = encoded text (omega arith) parts.1 in
    let long = length-encode_with lower_digits bytes.0 in
    let same = bytes.1.same in
    let half : length bytes.0 ≡ 32 = omega (arith, long, size, ap length same) in
    (bytes.0, rw same at (reads_back bytes.0 (record { size = half; bytes = bytes.1.fits })))

-- what a digest's text decodes to is that digest
pub reads-decoded : (text digest : List ℕ) → is_digest_text text ≡ true → decode_sized text 32 ≡ Ok digest
    → Reads text digest
reads-decoded text digest h decoded =
    let found = reads text h in
    let same : found.0 ≡ digest = cc (found.1.sized, decoded) in
    subst (λ (d : List ℕ). Reads text d) same found.1
