use Rattle.index.proofs.Words.{◌≡◌, true, inl, inr, rules}
use Rattle.std.proofs.Common.{is_some}
use Rattle.index.proofs.RefusedLemmas.{told_by_files, told_by_schema}
use Rattle.index.proofs.database.cause_of_refused.Goals as goal

pub returns-then-is_some : goal.returns-then-is_some
returns-then-is_some g c =
    let some : is_some c.unwrap_or-cause.result ≡ true = search rules in
    inl (told_by_schema _ _ _ c.cause_of_schema.ensures.told c.unwrap_or-cause.ensures some)

pub returns : goal.returns
returns g c = inr (
  c.into_store.result,
  record { quiet = c.into_store.ensures.quiet; sound = c.into_store.ensures.sound },
  told_by_files c.into_store.result _ _ _ _ _ c.close-files.ensures c.tally.ensures c.may_be_used.ensures c.cause_of_calls.ensures,
)
