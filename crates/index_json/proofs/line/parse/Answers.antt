use Rattle.std.proofs.Common.{◌≡◌, List, ℕ, Bool, true, false, Option, None, if◌then◌else◌, refl, rules}
use Rattle.std.proofs.lemmas.Str.{is_utf8-from_IsUtf8, IsUtf8-from_is_utf8}
use Rattle.std.specs.Str.{is_utf8, IsUtf8}
use Rattle.serde_json.specs.Data.{Data}
use Rattle.serde_json.specs.Read.{read}
use Rattle.index_json.specs.Json.{json_of}
use Rattle.index_json.proofs.line.parse.Goals as goal

none_where : (t : Bool) (o : Option Data) → (t ≡ true → o ≡ None) → (if t then o else None) ≡ None
none_where true o h = h refl
none_where false o h = refl

-- what is refused as UTF-8 is no JSON
refused : (bytes : List ℕ) → (IsUtf8 bytes → read bytes ≡ None) → json_of bytes ≡ None
refused bytes h = none_where (is_utf8 bytes) (read bytes) (λ e. h (IsUtf8-from_is_utf8 bytes e))

pub returns-in-Ok : goal.returns-in-Ok
returns-in-Ok c = let text = is_utf8-from_IsUtf8 _ c.in-Ok.ensures.ok.0 in (rw text c.in-Ok.ensures.ok.1, search rules)

pub returns-in-Err-2 : goal.returns-in-Err-2
returns-in-Err-2 c = (tt, λ _. refused _ (c.in-Err.ensures.err (search rules)))
