-- Texts that the index keeps.
use Rattle.index_rules.proofs.Words.{◌≡◌, ℕ, ◌≤◌, Bool, true, false, not, ◌&&◌, ◌∙◌, ap, refl, length, arith, list_any, IsUtf8, and_parts}
use Rattle.index_rules.proofs.Words.{and_from, nat_tests, Bytes}
use Rattle.std.proofs.Common.{nat_le}
use Rattle.std.specs.Char.{is_control}
use Rattle.std.specs.Str.{chars}
use Rattle.std.proofs.lemmas.Str.{is_utf8-from_IsUtf8, IsUtf8-from_is_utf8}
use Rattle.index_rules.specs.Texts.{is_text}

-- what makes a text
pub record IsText (x : Bytes) : Type 0 where
  pub size : length x ≤ 512
  pub utf8 : IsUtf8 x
  pub plain : not (list_any is_control (chars x)) ≡ true

within : (n : ℕ) → nat_le n 512 ≡ true → n ≤ 512
within n h = grind (arith, nat_tests)

is_within : (n : ℕ) → n ≤ 512 → nat_le n 512 ≡ true
is_within n h = grind (arith, nat_tests)

pub IsText-from_is_text : (x : Bytes) → is_text x ≡ true → IsText x
unfolding is_text
IsText-from_is_text x h =
    let parts = and_parts _ _ h in
    let front = and_parts _ _ parts.0 in
    record { size = within (length x) front.0; utf8 = IsUtf8-from_is_utf8 x front.1; plain = parts.1 }

pub is_text-from_IsText : (x : Bytes) → IsText x → is_text x ≡ true
unfolding is_text
is_text-from_IsText x text =
    and_from _ _ (and_from _ _ (is_within (length x) text.size) (is_utf8-from_IsUtf8 x text.utf8)) text.plain

-- of what is UTF-8
pub is_text-utf8 : (x : Bytes) → IsUtf8 x → is_text x ≡ (nat_le (length x) 512 && not (list_any is_control (chars x)))
unfolding is_text
is_text-utf8 x utf8 =
    ap (λ b. (nat_le (length x) 512 && b) && not (list_any is_control (chars x))) (is_utf8-from_IsUtf8 x utf8)
    ∙ ap (λ b. b && not (list_any is_control (chars x))) (and_true (nat_le (length x) 512))
  where
    and_true : (b : Bool) → (b && true) ≡ b
    and_true true = refl
    and_true false = refl

pub is_text-no_utf8 : (x : Bytes) → ¬ (IsUtf8 x) → false ≡ is_text x
is_text-no_utf8 x no_utf8 = elim (is_text x) as (λ b. is_text x ≡ b → false ≡ b) [
  | false ↦ λ _. refl
  | true ↦ λ passes. absurd (no_utf8 (IsText-from_is_text x passes).utf8)
] refl
