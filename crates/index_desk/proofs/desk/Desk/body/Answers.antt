use Rattle.index_desk.proofs.Words.{rules, subst, sym, IfOk-weaker, AreBytesOf}
use Rattle.index_desk.proofs.BodyLemmas.{bytes-bound}
use Rattle.index_desk.proofs.LookLemmas.{looks_by}
use Rattle.index_desk.proofs.RulesLemmas.{body_by_history}
use Rattle.index_desk.proofs.desk.Desk.body.Goals as goal

pub returns-clause-looks : goal.returns-clause-looks
returns-clause-looks g c =
    looks_by _ _ _ _ _ (λ h stands. body_by_history h _ stands c.args.file.now)
    (λ honest. rw c.self.view_is at (c.bytes_of.ensures.found honest))
    (search rules)

pub returns-clause-bound : goal.returns-clause-bound
returns-clause-bound g c =
    let T = g.B.Books.tables c.args.self.now in
    let file = c.args.file.now in
    record {
      found = λ honest. IfOk-weaker c.bytes_of.result _ _ (λ body is sound. subst (AreBytesOf T file) (sym is) (bytes-bound T sound file))
          (rw c.self.view_is at (c.bytes_of.ensures.found honest));
      look = search rules;
    }
