-- User ids.
use Rattle.std.specs.Prelude.{◌≡◌, ℕ, Bool, ◌&&◌, ◌||◌, nat_le, length, Option, Some, None}
use Rattle.std.specs.Prelude.{if◌then◌else◌}
use Rattle.std.specs.List.{list_all}
use Rattle.std.specs.Str.{byte}
use Rattle.index_rules.specs.Maps.{Bytes}

-- whether a byte is a letter of `a-z`, or a digit
abbrev pub is_user_letter : ℕ → Bool
is_user_letter c =
    (nat_le (byte "a") c && nat_le c (byte "z")) || (nat_le (byte "0") c && nat_le c (byte "9"))

-- the most bytes of a user id
abbrev pub longest_user_id : ℕ
longest_user_id = 32

-- whether bytes are a user id: 1 to 32 letters of `a-z` and digits
abbrev pub is_user_id : Bytes → Bool
is_user_id x = nat_le 1 (length x) && nat_le (length x) longest_user_id && list_all is_user_letter x

-- the user id that bytes are
unfoldable pub read_user : Bytes → Option Bytes
read_user x = if is_user_id x then Some x else None

-- a user id: bytes that parse as themselves
abbrev pub IsUserId : Bytes → Type 0
IsUserId user = read_user user ≡ Some user
