-- Each call keeps apart who bears which digest.
use Rattle.index_rules.proofs.Words.{◌≡◌, sym, subst, List, [], ◌∷◌, refl, BadDigest, BadUser, TokenTaken, Answer, Accepted, Already}
use Rattle.index_rules.proofs.Words.{Refused, Fault, Call, Request, AddUser, SetToken, Bytes, read_user, read_token, Tables, HasOneBearer}
use Rattle.index_rules.proofs.Words.{facts_in, Accept, verdict_now, or_empty, the_user, tables_with_call, Answers, Runs, tables_after}
use Rattle.std.specs.Prelude.{ℕ}
use Rattle.index_rules.proofs.Accepted.{accepted}
use Rattle.index_rules.proofs.SoundUsers.{HasOneBearer-put, not_taken}

module _ (T : Tables) (one : HasOneBearer T) (at : ℕ) (token : Bytes) where
  abbrev of : Request → Call
  of request = record { at = at; token = token; request = request }

  each_request : (request : Request) → verdict_now T (of request) ≡ Accept → HasOneBearer (tables_with_call T (of request))
  each_request (AddUser user office digest) accepts =
      let all = accepted (of (AddUser user office digest)) (facts_in T (of (AddUser user office digest))) accepts in
      HasOneBearer-put T one (or_empty (read_user user)) (record { office = office; token = or_empty (read_token digest) })
      (not_taken T one (read_token digest) (read_user user) (all.not_refused BadDigest refl) (all.not_refused BadUser refl)
      (all.not_refused TokenTaken refl))
  each_request (SetToken user digest) accepts =
      let all = accepted (of (SetToken user digest)) (facts_in T (of (SetToken user digest))) accepts in
      HasOneBearer-put T one (or_empty (read_user user))
      (record { office = (the_user (facts_in T (of (SetToken user digest)))).office; token = or_empty (read_token digest) })
      (not_taken T one (read_token digest) (read_user user) (all.not_refused BadDigest refl) (all.not_refused BadUser refl)
      (all.not_refused TokenTaken refl))
  each_request request accepts = one

pub HasOneBearer-tables_after : (T : Tables) → HasOneBearer T → (c : Call) (answer : Answer) → Answers (verdict_now T c) answer
    → HasOneBearer (tables_after T c answer)
HasOneBearer-tables_after T one c Accepted answers = each_request T one c.at c.token c.request answers
HasOneBearer-tables_after T one c Already answers = one
HasOneBearer-tables_after T one c (Refused refusal) answers = one
HasOneBearer-tables_after T one c (Fault fault) answers = one

-- and so do calls in a row
pub HasOneBearer-Runs : (T : Tables) → HasOneBearer T → (calls : List Call) (answers : List Answer) (T' : Tables) → Runs T calls answers T'
    → HasOneBearer T'
HasOneBearer-Runs T one [] [] T' run = subst HasOneBearer (sym run) one
HasOneBearer-Runs T one [] (answer ∷ answers) T' run = absurd run
HasOneBearer-Runs T one (call ∷ calls) [] T' run = absurd run
HasOneBearer-Runs T one (call ∷ calls) (answer ∷ answers) T' run =
    HasOneBearer-Runs (tables_after T call answer) (HasOneBearer-tables_after T one call answer run.0) calls answers T' run.1
