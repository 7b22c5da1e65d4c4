-- The JSON value of some bytes, and its members.
use Rattle.std.specs.Prelude.{ℕ, Bool, List, if◌then◌else◌, Option, None, option_map}
use Rattle.std.specs.Prelude.{option_and_then, unwrap_or}
use Rattle.std.specs.Str.{is_utf8}
use Rattle.std.specs.Result.{result_ok}
use Rattle.hex.specs.Hex.{decode_of}
use Rattle.serde_json.specs.Data.{Data}
use Rattle.serde_json.specs.Events.{members_len}
use Rattle.serde_json.specs.Read.{read}
use Rattle.serde_json.specs.Find.{get, as_object, as_str, as_bool, as_number, as_u64}

-- the value of a JSON text, which must be UTF-8 (RFC 8259, sections 2 and 8.1)
abbrev pub json_of : List ℕ → Option Data
json_of bytes = if is_utf8 bytes then read bytes else None

-- the number of an object's keys, which all differ; 0 for any other value
abbrev pub key_count : Data → ℕ
key_count value = unwrap_or (option_map members_len (as_object value)) 0

-- the text at a key, as UTF-8
abbrev pub text_at : List ℕ → Data → Option (List ℕ)
text_at key value = option_and_then as_str (get key value)

-- the whole number of 64 bits at a key
abbrev pub number_at : List ℕ → Data → Option ℕ
number_at key value = option_and_then as_u64 (option_and_then as_number (get key value))

-- true or false at a key
abbrev pub flag_at : List ℕ → Data → Option Bool
flag_at key value = option_and_then as_bool (get key value)

-- the bytes of a text of hex digits, in either case
abbrev pub hex_bytes : List ℕ → Option (List ℕ)
hex_bytes digits = result_ok (decode_of digits)
