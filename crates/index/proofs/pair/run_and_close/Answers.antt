use Rattle.index.proofs.Words.{IfErr, IfOk, subst, HasCleanDisk, IsClosed, IsCopied, file_state, AreClean, OpensAgain}
use Rattle.index.proofs.PairLemmas.{told_over}
use Rattle.index.proofs.pair.run_and_close.Goals as goal

pub returns : goal.returns
returns g c =
    let same = c.worked_on.ensures.same in
    record {
      last = c.run_over-conn.result.0;
      last_disk = c.run_over-conn.result.1;
      early = c.run_over-conn.result.2;
      worked = c.run_over-conn.ensures.worked;
      left = c.run_over-conn.ensures.kept;
      closed = c.close.result;
      copied = subst (λ held. IfOk c.close.result (λ it. AreClean g.D.Disk it.log it.db → IsCopied held it)) same c.close.ensures.copied;
      kept = subst (λ held. IfErr c.close.result (λ it. IsClosed held it.store)) same c.close.ensures.kept;
      honest = c.run_over-conn.ensures.honest;
      again = subst (λ held. HasCleanDisk (file_state held) → OpensAgain held.store) same
          (λ clean. (c.worked_on.ensures.numbered clean, c.worked_on.ensures.databases clean));
      told = told_over _ _ _ _ _ c.ended_by-ended.ensures.is c.let_go.ensures c.with_cause_of-told.ensures;
    }
