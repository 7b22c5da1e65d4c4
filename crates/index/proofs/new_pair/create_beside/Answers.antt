use Rattle.index.proofs.Words.{subst, sym, HasCleanDisk, file_state, OpensAgain, IsCreated, first_tables}
use Rattle.index.specs.NewPairs.{UnmadeLeadsOn}
use Rattle.index.proofs.InitLemmas.{stays_database, unmade_to_next}
use Rattle.index.proofs.UnusedLemmas.{LeavesCommitted}
use Rattle.index.proofs.new_pair.create_beside.Goals as goal

pub returns-in-Err : goal.returns-in-Err
returns-in-Err g c =
    let conn = c.args.conn in
    let now = c.worked_on.ensures in
    let user = c.args.user.now in
    let token = c.args.token in
    let again = subst (λ held. HasCleanDisk (file_state held) → OpensAgain held.store) now.same
    (λ clean. (now.numbered clean, now.databases clean)) in
    record {
      fault = c.in-Err.ensures.fault;
      leads = subst (λ held. UnmadeLeadsOn user token conn held) (sym now.same) (unmade_to_next user token conn conn again
          (stays_database (IsCreated 3 (first_tables user token)) conn (subst LeavesCommitted now.same now.settled)));
    }
