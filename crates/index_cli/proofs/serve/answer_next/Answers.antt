use Rattle.index_cli.proofs.Served.{closed_at_once}
use Rattle.index_cli.proofs.serve.answer_next.Goals as goal

-- there was no memory for it
pub returns-in-Ok-None-clause-answers : goal.returns-in-Ok-None-clause-answers
returns-in-Ok-None-clause-answers g c =
    let lost = rw c.in-Ok-None.field-0-is at c.in-Ok-None.ensures.lost in
    closed_at_once g.B.Books _ _ _ _ _ c.args.at lost
