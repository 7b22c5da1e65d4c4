-- Histories: the opening, and the calls that were accepted since. No history is stored anywhere.
use Rattle.std.specs.Prelude.{Bool, false, Option, Some, None}
use Rattle.index_rules.specs.declared.call.Call.{Call}
use Rattle.index_rules.specs.Maps.{Bytes, same}

-- an accepted call, with its request as it came and its moment, and the user who made it
pub record Entry : Type 0 where
  pub actor : Bytes
  pub call : Call

-- the opening, which adds the first user with the digest of a token, and then entries, the newest
-- outermost; they stand in the order of the calls, whatever their moments
pub data History : Type 0 where
  begins : Bytes → Bytes → History
  more : History → Entry → History

-- whether what was parsed of a request is this text: a request is about a name in any of its
-- spellings
abbrev pub is_read_as : Option Bytes → Bytes → Bool
is_read_as None x = false
is_read_as (Some read) x = same x read
