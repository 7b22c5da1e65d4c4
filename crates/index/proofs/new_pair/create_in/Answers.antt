use Rattle.index.proofs.Words.{◌≡◌, ◌∙◌, IfErr, IfOk, false, rules, subst, sym, HasCleanDisk, IsCopied, IsClosed, file_state, over_files}
use Rattle.index.proofs.Words.{AreClean, IsBadFirstUser, first_tables, has_any_of, index_schema, IsHonest, IsWorking, AreNew}
use Rattle.index.proofs.Words.{OpensAgain, FileStore, Unopened}
use Rattle.index.specs.NewPairs.{IsUnmadePlaced, MadePlaced, UnmadeLeadsOn}
use Rattle.index_rules.specs.FirstTables.{first_record}
use Rattle.index_sql_opening.specs.NewAsks.{asks_of_new}
use Rattle.index_tables.specs.Opened.{IsNotMade}
use Rattle.index.proofs.InitLemmas.{unclosed_to_next, unmade_database, unmade_to_next}
use Rattle.index.proofs.RunLemmas.{free_of}
use Rattle.index.proofs.VolumeRuns.{created_to_next}
use Rattle.index.proofs.UnusedLemmas.{LeavesCommitted}
use Rattle.index.proofs.new_pair.create_in.Goals as goal

pub returns-in-Ok : goal.returns-in-Ok
returns-in-Ok g c =
    let user : c.as_bytes.result.now ≡ c.args.user.now = search rules in
    let first = c.worked_on-first.result in
    let books = c.in-Ok.books in
    let same = c.worked_on-last.ensures.same ∙ c.into_connection.ensures.same in
    let schema = (file_state first).now.schema in
    let any_free : IfOk c.create-made.result (λ _. has_any_of schema index_schema.tables ≡ false) =
    free_of _ _ schema c.create-made.result c.create-made.ensures.bad_first_user c.create-made.ensures.not_empty in
    let free = rw c.in-Ok.is at any_free in
    let new = subst (λ u. AreNew 3 over_files (first_tables u c.args.token) first books) user c.in-Ok.ensures.made in
    let copied = subst (λ held. IfOk c.close.result (λ it. AreClean g.D.Disk it.log it.db → IsCopied held it)) same
    c.close.ensures.copied in
    let kept = subst (λ held. IfErr c.close.result (λ it. IsClosed held it.store)) same c.close.ensures.kept in
    let works = subst (λ held. IsWorking (file_state held) → IsHonest 3 (file_state held)) c.into_connection.ensures.same
    c.into_connection.ensures.honest in
    let again = subst (λ held. HasCleanDisk (file_state held) → OpensAgain held.store) same
    (λ clean. (c.worked_on-last.ensures.numbered clean, c.worked_on-last.ensures.databases clean)) in
    subst (λ held. MadePlaced c.args.user.now c.args.token held c.close.result) c.worked_on-first.ensures.same (record {
      books = books;
      new = new;
      free = free;
      copied = copied;
      kept = kept;
      fault = c.close.ensures.fault;
      leads = created_to_next _ _ first books new free works c.close.result copied;
      unclosed = unclosed_to_next _ _ first books new free again c.close.result kept;
    })

pub returns-in-Err : goal.returns-in-Err
returns-in-Err g c =
    let user : c.as_bytes.result.now ≡ c.args.user.now = search rules in
    let first = c.worked_on-first.result in
    let last = c.worked_on-conn.ensures in
    let T = first_tables c.args.user.now c.args.token in
    let refused = subst (λ u. IsNotMade 3 over_files (first_tables u c.args.token) (asks_of_new 3 u (first_record c.args.token)) first
    c.in-Err.left) user c.in-Err.ensures.refused in
    let settled = subst LeavesCommitted last.same last.settled in
    let again = subst (λ held. HasCleanDisk (file_state held) → OpensAgain held.store) last.same
    (λ clean. (last.numbered clean, last.databases clean)) in
    let leads = unmade_to_next c.args.user.now c.args.token first c.in-Err.left.conn again
    (unmade_database _ T first c.in-Err.left c.worked_on-first.ensures.settled settled refused) in
    let given : Unopened (FileStore g.row.D.Denot g.D.Disk) = record { why = c.in-Err.left.why; conn = c.worked_on-conn.result } in
    subst (λ held. IsUnmadePlaced c.args.user.now c.args.token held given) c.worked_on-first.ensures.same (record {
      bad_first_user = λ is. subst (λ u. IsBadFirstUser u c.args.token) user (c.in-Err.ensures.bad_first_user.0 is);
      leads = subst (λ held. UnmadeLeadsOn c.args.user.now c.args.token first held) (sym last.same) leads;
    })
