-- The length of a request's body (RFC 9112, section 6).
use Rattle.std.specs.Prelude.{ℕ, ◌&&◌, Bool, true, false, List, [], ◌∷◌, length, codes}
use Rattle.std.specs.Prelude.{if◌then◌else◌, nat_le, nat_lt, Option, Some, None, Result, Ok, Err}
use Rattle.std.specs.List.{list_all}
use Rattle.std.specs.Char.{is_ascii_digit}
use Rattle.std.specs.Str.Parse.{digits_value}
use Rattle.index_rules.specs.Maps.{Bytes}
use Rattle.index_message.specs.Fields.{Field, values_of}
use Rattle.index_message.specs.declared.fault.MessageFault.{MessageFault}
use Rattle.index_message.specs.declared.fault.MessageFault.TheVariants.{BadLength, NoLength}
use Rattle.index_message.specs.declared.fault.MessageFault.TheVariants.{BodyTooLarge}
use Rattle.index_message.specs.declared.resource.Method.{Method}
use Rattle.index_message.specs.declared.resource.Method.TheVariants.{Delete, Get, Head, Post, Put}

-- the most bytes of an uploaded file
abbrev pub longest_upload : ℕ
longest_upload = 16777216

-- the most bytes of a request in JSON
abbrev pub longest_request : ℕ
longest_request = 65536

-- 1 to 18 digits
abbrev pub is_length : Bytes → Bool
is_length value =
    nat_lt 0 (length value) && (nat_le (length value) 18 && list_all is_ascii_digit value)

-- the number of a text of 1 to 18 digits
abbrev pub length_value : Bytes → Option ℕ
length_value value = if is_length value then Some (digits_value 10 value) else None

-- a length that is not above the limit, or why it is not valid
abbrev pub at_most : ℕ → Option ℕ → Result ℕ MessageFault
at_most limit None = Err BadLength
at_most limit (Some n) = if nat_lt limit n then Err BodyTooLarge else Ok n

-- the length in the values of `Content-Length`, of which there may be one (RFC 9112, section 6.3)
abbrev pub length_by : ℕ → List Bytes → Result ℕ MessageFault
length_by limit [] = Err NoLength
length_by limit (value ∷ []) = at_most limit (length_value value)
length_by limit (value ∷ other ∷ more) = Err BadLength

-- there is no value
abbrev pub is_none : List Bytes → Bool
is_none [] = true
is_none (value ∷ more) = false

-- The length in the fields. `Transfer-Encoding` is not supported (RFC 9112, section 6.1).
abbrev pub length_in : ℕ → List Field → Result ℕ MessageFault
length_in limit fields =
    if is_none (values_of (codes "transfer-encoding") fields)
    then length_by limit (values_of (codes "content-length") fields)
    else Err BadLength

-- The length of the body that is read. Only `PUT` and `POST` have one.
unfoldable pub body_length : Method → List Field → Result ℕ MessageFault
body_length Put fields = length_in longest_upload fields
body_length Post fields = length_in longest_request fields
body_length Get fields = Ok 0
body_length Head fields = Ok 0
body_length Delete fields = Ok 0
