use Rattle.index_sql_writes.proofs.Words.{refl}
use Rattle.index_sql_writes.proofs.NameLemmas.{uploads, uploads_in_case}
use Rattle.index_sql_writes.proofs.files.upload.Goals as goal

pub returns-then-ends_case : goal.returns-then-ends_case
returns-then-ends_case c =
    rw (
      c.then-then-ends_case.ensures,
      c.then-steps.ensures,
      c.then-2.ensures,
      c.then.ensures,
      c.first.ensures,
      c.if-ends_case.true,
      c.text.ensures.text,
      c.text-then-ends_case.ensures.text,
      c.bytes.ensures,
    )
    (uploads_in_case _ _ _ _ _, refl)

pub returns-else-ends_case : goal.returns-else-ends_case
returns-else-ends_case c =
    rw (
      c.then-steps.ensures,
      c.then-2.ensures,
      c.then.ensures,
      c.first.ensures,
      c.if-ends_case.false,
      c.text.ensures.text,
      c.bytes.ensures,
    ) (uploads _ _ _ _ _, refl)
