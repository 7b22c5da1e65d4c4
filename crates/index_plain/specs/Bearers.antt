-- Users by the digests of their tokens.
use Rattle.std.specs.Prelude.{◌≡◌, Bool, false, Option, option_map}
use Rattle.std.specs.Option.{option_map_or}
use Rattle.std.specs.BTreeMap.{BTreeMap}
use Rattle.std.specs.FinMap.{get, contains_key}
use Rattle.index_rules.specs.declared.records.UserRecord.{UserRecord}
use Rattle.index_rules.specs.Maps.{Bytes, Map, Pairs, bytes_cmp, same}
use Rattle.index_plain.specs.Pairs.{pairs_in}

-- whether this user is known, and the token has this digest
abbrev pub is_bearer : Map UserRecord → Bytes → Bytes → Bool
is_bearer users token user = option_map_or (λ known. same token known.token) (get users user) false

-- the digest of the token of a user who is known
abbrev pub token_in : Map UserRecord → Bytes → Option Bytes
token_in users user = option_map (λ known. known.token) (get users user)

-- the pairs are the digest of each user's token with that user, and no others
abbrev pub AreBearers : Map UserRecord → Pairs → Type 0
AreBearers users bearers =
    (token user : Bytes) → contains_key bearers (token, user) ≡ is_bearer users token user

-- the pairs of a digest and a user that a map of maps has
abbrev pub bearers_of : BTreeMap Bytes (BTreeMap Bytes (Unit {0})) → Pairs
bearers_of bearers = pairs_in bytes_cmp bytes_cmp bearers
