-- What is read of bytes is what they say.
use Rattle.std.proofs.Common.{◌≡◌, ◌∙◌, ◌+◌, ◌-◌, ◌==◌, ◌≤◌, ◌<◌, ℕ, Bool, true, false, List, Option, Some, None, refl, sym, subst, ap}
use Rattle.std.proofs.Common.{arith, codes}
use Rattle.std.specs.Prelude.{if◌then◌else◌, bytes_eq, option_and_then}
use Rattle.std.proofs.lemmas.Bool.Decides.{nat_tests}
use Rattle.std.proofs.lemmas.Option.{cond_some, none-some}
use Rattle.std.proofs.lemmas.Slice.Eq.{bytes_eq-Decides}
use Rattle.serde_json.specs.Data.{Data}
use Rattle.index_digest.specs.Digest.{sha256}
use Rattle.index_rules.specs.declared.call.Request.{Request}
use Rattle.index_rules.specs.declared.call.Request.TheVariants.{Claim}
use Rattle.index_json.specs.Json.{json_of, key_count, number_at, text_at}
use Rattle.index_json.specs.Keys.{distinct_key_count, HasKeys, IsJson, IsLine, members_at, members_of, SaysLine, SaysRequest}
use Rattle.index_json.specs.Line.{call_row, line_of, line_row, standing_row}
use Rattle.index_json.specs.Object.{Object}
use Rattle.index_json.specs.Reading.{if_whole, read_whole}
use Rattle.index_json.specs.Requests.{request_of, request_row, request_on_user}
use Rattle.index_json.specs.declared.line.Line.{Line}
use Rattle.index_json.specs.declared.line.Line.TheVariants as line
use Rattle.index_json.proofs.RequestsFound.{found, left_of}
use Rattle.index_json.proofs.RequestsRead.{user_read}

one_less : (n m : ℕ) → n ≤ m → n - 1 ≤ m - 1
one_less n m few = omega (arith, few)

three_less : (n m : ℕ) → n ≤ m + 2 → n - 1 - 1 - 1 ≤ m - 1
three_less n m few = omega (arith, few)

one_more : (n m : ℕ) → n - 1 < m → n ≤ m
one_more n m few = omega (arith, few)

three_more : (n m : ℕ) → n - 1 - 1 - 1 < m → n ≤ m + 2
three_more n m few = omega (arith, few)

none_of_two : (n : ℕ) → n ≤ 2 → n - 1 - 1 ≡ 0
none_of_two n few = omega (arith, few)

two_at_most : (n : ℕ) → n - 1 - 1 ≡ 0 → n ≤ 2
two_at_most n none = omega (arith, none)

is_zero : (n : ℕ) → (n == 0) ≡ true → n ≡ 0
is_zero n is = grind (arith, nat_tests)

-- a call has two keys more than its request, and neither of them is a request's
two_more : (at : ℕ) (token : List ℕ) (request : Request)
    → distinct_key_count (members_at at token request) ≡ distinct_key_count (members_of request) + 2
two_more at token (Claim name) = refl
two_more at token request = refl

-- ---- an object

-- what was read whole of an object
module _ {A : Type 0} (this : A) where
  whole_of : (read : Option (A × Object)) → option_and_then if_whole read ≡ Some this
      → (end : A × Object) × (read ≡ Some end) × (end.1.left ≡ 0) × (end.0 ≡ this)
  whole_of None h = absurd (none-some this h)
  whole_of (Some end) h = let parts = cond_some (end.1.left == 0) end.0 this h in (end, refl, is_zero end.1.left parts.0, parts.1)

request_found : (value : Data) (request : Request) → HasKeys value (members_of request) → read_whole request_row value ≡ Some request
request_found value request keys =
    let it = found request value (key_count value - 1) keys.each (one_less _ _ keys.no_more) in
    rw (it.is, it.row, it.none_left) refl

request_read : (value : Data) (request : Request) (a : Option (List ℕ)) → text_at (codes "do") value ≡ a
    → read_whole request_row value ≡ Some request → HasKeys value (members_of request)
request_read value request None is h = absurd (none-some request (rw is at h))
request_read value request (Some word) is h =
    let (end, row, none, same) = whole_of request (request_on_user word (left_of value (key_count value - 1))) (rw is at h) in
    let it = user_read value (key_count value - 1) end.0 end.1 word is row in
    subst (λ (r : Request). HasKeys value (members_of r)) same (record { each = it.each; no_more = one_more _ _ (it.few none) })

-- ---- a line

line_found : (value : Data) (asked : Line) → IsLine value asked → read_whole line_row value ≡ Some asked
line_found value (line.Standing name) keys =
    rw (keys.each.0, keys.each.1.0, none_of_two (key_count value) keys.no_more) refl
line_found value (line.Call call) (token, digest, keys) =
    let few = subst (λ (n : ℕ). key_count value ≤ n) (two_more call.at token call.request) keys.no_more in
    let it = found call.request value (key_count value - 1 - 1 - 1) keys.each.1.1 (three_less _ _ few) in
    rw (it.is, it.other, keys.each.0, keys.each.1.0, it.row, sym digest, it.none_left) refl

-- what is left of an object of which one key was read
abbrev behind_word : Data → Object
behind_word value = left_of value (key_count value - 1)

standing_read : (value : Data) (asked : Line) → text_at (codes "do") value ≡ Some (codes "standing")
    → (a : Option (List ℕ)) → text_at (codes "name") value ≡ a
    → option_and_then if_whole (standing_row (behind_word value)) ≡ Some asked → IsLine value asked
standing_read value asked at_do None is h = absurd (none-some asked (rw is at h))
standing_read value asked at_do (Some name) is h =
    let parts = cond_some (key_count value - 1 - 1 == 0) (line.Standing name) asked (rw is at h) in
    subst (IsLine value) parts.1 (record { each = (at_do, (is, tt)); no_more = two_at_most _ (is_zero _ parts.0) })

call_read : (value : Data) (asked : Line) (word : List ℕ) → text_at (codes "do") value ≡ Some word
    → (a : Option ℕ) (b : Option (List ℕ)) (c : Option (Request × Object))
    → number_at (codes "at") value ≡ a → text_at (codes "token") value ≡ b
    → request_on_user word (left_of value (key_count value - 1 - 1 - 1)) ≡ c
    → option_and_then if_whole (call_row word (behind_word value)) ≡ Some asked → IsLine value asked
call_read value asked word at_do None b c at_at at_token row h = absurd (none-some asked (rw at_at at h))
call_read value asked word at_do (Some at) None c at_at at_token row h = absurd (none-some asked (rw (at_at, at_token) at h))
call_read value asked word at_do (Some at) (Some token) None at_at at_token row h =
    absurd (none-some asked (rw (at_at, at_token, row) at h))
call_read value asked word at_do (Some at) (Some token) (Some (request, after)) at_at at_token row h =
    let call : Line = line.Call (record { at = at; token = sha256 token; request = request }) in
    let parts = cond_some (after.left == 0) call asked (rw (at_at, at_token, row) at h) in
    let it = user_read value (key_count value - 1 - 1 - 1) request after word at_do row in
    let few = three_more _ _ (it.few (is_zero _ parts.0)) in
    subst (IsLine value) parts.1 (
      token,
      refl,
      record {
        each = (at_at, (at_token, it.each));
        no_more = subst (λ (n : ℕ). key_count value ≤ n) (sym (two_more at token request)) few;
      },
    )

line_of_word : (value : Data) (asked : Line) (word : List ℕ) → text_at (codes "do") value ≡ Some word
    → (t : Bool) → (t ≡ true → word ≡ codes "standing")
    → option_and_then if_whole (if t then standing_row (behind_word value) else call_row word (behind_word value)) ≡ Some asked
    → IsLine value asked
line_of_word value asked word at_do true same h = standing_read value asked (at_do ∙ ap Some (same refl)) _ refl h
line_of_word value asked word at_do false same h = call_read value asked word at_do _ _ _ refl refl refl h

line_read : (value : Data) (asked : Line) (a : Option (List ℕ)) → text_at (codes "do") value ≡ a
    → read_whole line_row value ≡ Some asked → IsLine value asked
line_read value asked None is h = absurd (none-some asked (rw is at h))
line_read value asked (Some word) is h =
    line_of_word value asked word is (bytes_eq word (codes "standing")) (bytes_eq-Decides word (codes "standing")).0 (rw is at h)

-- ---- bytes

-- what is read of bytes is read of their value
of_json : {A : Type 0} (read : Data → Option A) (this : A) (IsOne : Data → Type 0) (bytes : List ℕ) (a : Option Data) → json_of bytes ≡ a
    → ((value : Data) → read value ≡ Some this → IsOne value) → option_and_then read a ≡ Some this → IsJson bytes IsOne
of_json read this IsOne bytes None is holds h = absurd (none-some this h)
of_json read this IsOne bytes (Some value) is holds h = (value, is, holds value h)

pub says_request : (bytes : List ℕ) → SaysRequest bytes (request_of bytes)
unfolding request_of
says_request bytes request = (
  λ h. of_json (read_whole request_row) request _ bytes (json_of bytes) refl (λ value. request_read value request _ refl) h,
  λ it. rw it.1 (request_found it.0 request it.2),
)

pub says_line : (bytes : List ℕ) → SaysLine bytes (line_of bytes)
unfolding line_of
says_line bytes asked = (
  λ h. of_json (read_whole line_row) asked _ bytes (json_of bytes) refl (λ value. line_read value asked _ refl) h,
  λ it. rw it.1 (line_found it.0 asked it.2),
)

-- the same of what was read of them
pub request_says : (bytes : List ℕ) (read : Option Request) → request_of bytes ≡ read → SaysRequest bytes read
request_says bytes read is = subst (SaysRequest bytes) is (says_request bytes)

pub line_says : (bytes : List ℕ) (read : Option Line) → line_of bytes ≡ read → SaysLine bytes read
line_says bytes read is = subst (SaysLine bytes) is (says_line bytes)
