-- Texts in JSON: bytes that need no escape stand for themselves.
use Rattle.index_pages.proofs.Words.{◌≡◌, ℕ, true, false, ◌==◌, [], ◌∷◌, length, refl, arith, Some, list_all, nat_tests, escape}
use Rattle.index_pages.proofs.Words.{escape_byte, is_plain, read_digest, Bytes}
use Rattle.std.proofs.lemmas.Bool.{and_parts, or_parts, not-true, eqb-false, ltb-false}
use Rattle.json.specs.Run.{is_stop}
use Rattle.json.proofs.Printed.Strings.{escape_byte_plain}
use Rattle.index_digest.specs.Digest.{is_digest_text, is_text_digit}

plain-stays : (c : ℕ) → is_plain c ≡ true → escape_byte c ≡ c ∷ []
plain-stays c plain =
    let none = or_parts _ _ (not-true (is_stop c) plain) in
    let tests = or_parts (c == 34) _ none.0 in
    escape_byte_plain c (eqb-false c 34 tests.0) (eqb-false c 92 tests.1) (ltb-false c 32 none.1)

-- a text without bytes to escape is its own escape
pub escape-plain : (text : Bytes) → list_all is_plain text ≡ true → escape text ≡ text
escape-plain [] plain = refl
escape-plain (c ∷ text) plain =
    let parts = and_parts (is_plain c) (list_all is_plain text) plain in
    rw (plain-stays c parts.0, escape-plain text parts.1) refl

-- ---- the text of a digest

digit-plain : (c : ℕ) → is_text_digit c ≡ true → is_plain c ≡ true
unfolding is_text_digit
digit-plain c is = grind (arith, nat_tests)

digits-plain : (text : Bytes) → list_all is_text_digit text ≡ true → list_all is_plain text ≡ true
digits-plain [] are = refl
digits-plain (c ∷ text) are =
    let parts = and_parts (is_text_digit c) (list_all is_text_digit text) are in
    rw (digit-plain c parts.0) (digits-plain text parts.1)

-- what a digest is read from has no byte to escape
pub digest-plain : (text digest : Bytes) → read_digest text ≡ Some digest → list_all is_plain text ≡ true
unfolding read_digest
digest-plain text digest reads =
    elim (is_digest_text text) as (λ b. is_digest_text text ≡ b → list_all is_plain text ≡ true) [
      | true ↦ λ is. digits-plain text (and_parts (length text == 64) (list_all is_text_digit text) is).1
      | false ↦ λ is_not. cc (rw is_not at reads)
    ] refl
