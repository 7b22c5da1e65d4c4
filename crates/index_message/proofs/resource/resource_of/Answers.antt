use Rattle.std.proofs.Common.{◌≡◌, List, ℕ, Bool, true, false, refl, sym}
use Rattle.std.specs.Str.{is_utf8, IsUtf8}
use Rattle.std.proofs.lemmas.Str.{is_utf8-from_IsUtf8, IsUtf8-from_is_utf8}
use Rattle.index_message.specs.Resources.{resource_of}
use Rattle.index_message.proofs.resource.resource_of.Goals as goal

false_where : (t : Bool) → (t ≡ true → ⊥) → t ≡ false
false_where true refuted = absurd (refuted refl)
false_where false refuted = refl

-- what is refused as UTF-8 is none
not_text : (bytes : List ℕ) → ¬ (IsUtf8 bytes) → is_utf8 bytes ≡ false
not_text bytes refuted = false_where (is_utf8 bytes) (λ e. refuted (IsUtf8-from_is_utf8 bytes e))

pub returns-in_default-clause-found : goal.returns-in_default-clause-found
unfolding resource_of
returns-in_default-clause-found c = rw (not_text _ c.in_default.ensures.cases.0) refl

pub returns-clause-found : goal.returns-clause-found
unfolding resource_of
returns-clause-found c =
    let text = is_utf8-from_IsUtf8 _ c.in-Ok.ensures.cases.1 in
    rw (text, sym c.in-Ok.ensures.cases.0, sym c.cut_at.ensures.before) c.resource_at.ensures.found
