-- A release is a version text, and its own release.
use Rattle.std.proofs.Common.{◌≡◌, ℕ, ◌-◌, true, ◌&&◌, List, [], ◌∷◌, Some, map, length, get_or, refl, sym, ap, ◌∙◌, subst, arith, inl, inr}
use Rattle.std.proofs.Common.{nat_le}
use Rattle.std.specs.Char.{is_ascii_alphanumeric, to_ascii_lowercase}
use Rattle.std.specs.List.{list_all}
use Rattle.std.proofs.lemmas.Bool.{and_parts, and_from, cases_Bool, cond-true, cond-false}
use Rattle.std.proofs.lemmas.Bool.Decides.{nat_tests}
use Rattle.std.proofs.Math.ListN.{get_or-map}
use Rattle.std.proofs.lemmas.List.{length-map}
use Rattle.std.proofs.lemmas.Option.{none-some, same_Some}
use Rattle.std.proofs.lemmas.Str.Ascii.{lowercase-lowercase}
use Rattle.index_names.specs.Release.{is_version_byte, is_version_text, named_release, read_release, IsRelease}

version_byte-lower : (c : ℕ) → is_version_byte c ≡ true → is_version_byte (to_ascii_lowercase c) ≡ true
version_byte-lower c passes = grind (arith, nat_tests)

alphanumeric-lower : (c : ℕ) → is_ascii_alphanumeric c ≡ true → is_ascii_alphanumeric (to_ascii_lowercase c) ≡ true
alphanumeric-lower c passes = grind (arith, nat_tests)

version_bytes-lower : (x : List ℕ) → list_all is_version_byte x ≡ true → list_all is_version_byte (map to_ascii_lowercase x) ≡ true
version_bytes-lower [] passes = refl
version_bytes-lower (c ∷ x) passes =
    let parts = and_parts (is_version_byte c) (list_all is_version_byte x) passes in
    and_from _ _ (version_byte-lower c parts.0) (version_bytes-lower x parts.1)

release-release : (x : List ℕ) → named_release (named_release x) ≡ named_release x
release-release [] = refl
release-release (c ∷ x) = λ i. lowercase-lowercase c i ∷ release-release x i

pub version_text-release : (x : List ℕ) → is_version_text x ≡ true → is_version_text (named_release x) ≡ true
version_text-release x is_version =
    let to_last = and_parts _ (is_ascii_alphanumeric (get_or x (length x - 1) 0)) is_version in
    let to_first = and_parts _ (is_ascii_alphanumeric (get_or x 0 0)) to_last.0 in
    let to_bytes = and_parts _ (list_all is_version_byte x) to_first.0 in
    let same : length (named_release x) ≡ length x = length-map x to_ascii_lowercase in
    let sizes = ap (λ n. nat_le 1 n && nat_le n 64) same ∙ to_bytes.0 in
    let first = ap is_ascii_alphanumeric (get_or-map to_ascii_lowercase x 0 0) ∙ alphanumeric-lower (get_or x 0 0) to_first.1 in
    let last = ap (λ n. is_ascii_alphanumeric (get_or (named_release x) (n - 1) 0)) same
    ∙ ap is_ascii_alphanumeric (get_or-map to_ascii_lowercase x (length x - 1) 0)
    ∙ alphanumeric-lower (get_or x (length x - 1) 0) to_last.1 in
    and_from _ _ (and_from _ _ (and_from _ _ sizes (version_bytes-lower x to_bytes.1)) first) last

-- ---- what a version text is read as is read as itself

pub read_release-version : (x : List ℕ) → is_version_text x ≡ true → read_release x ≡ Some (named_release x)
unfolding read_release
read_release-version x is_version = cond-true _ _ _ is_version

pub version_text-read_release : (x release : List ℕ) → read_release x ≡ Some release → is_version_text x ≡ true
unfolding read_release
version_text-read_release x release reads = elim (cases_Bool (is_version_text x)) [
  | inl is_version ↦ is_version
  | inr no_version ↦ absurd (none-some release (sym (cond-false _ _ _ no_version) ∙ reads))
]

pub IsRelease-named_release : (x : List ℕ) → is_version_text x ≡ true → IsRelease (named_release x)
IsRelease-named_release x is_version =
    read_release-version (named_release x) (version_text-release x is_version) ∙ ap (λ y. Some y) (release-release x)

pub IsRelease-read_release : (x release : List ℕ) → read_release x ≡ Some release → IsRelease release
IsRelease-read_release x release reads =
    let is_version : is_version_text x ≡ true = version_text-read_release x release reads in
    let same : named_release x ≡ release = same_Some _ release (sym (read_release-version x is_version) ∙ reads) in
    subst IsRelease same (IsRelease-named_release x is_version)

pub ruleset releases = (IsRelease-named_release)
