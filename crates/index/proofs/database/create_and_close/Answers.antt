use Rattle.index.proofs.Words.{IfErr, IfOk, refl, subst, sym, IfErr-weaker, IfOk-weaker, IsCopied, IsClosed, file_state, over_files}
use Rattle.index.proofs.Words.{AreClean, first_tables, IsCreated, IsUnmade, IsWhyUnmade, IsMadeNew}
use Rattle.index.proofs.RunLemmas.{clean_before, created_by, created_in_log_by, refused_by, was_clean_by, working_of}
use Rattle.index.proofs.database.create_and_close.Goals as goal

pub returns-in-Ok-clause-created : goal.returns-in-Ok-clause-created
returns-in-Ok-clause-created g c =
    let conn = c.in-Ok.conn in
    let made = c.in-Ok.ensures.made in
    let same = c.worked_on.ensures.same in
    IfOk-weaker c.close.result _ _ (λ files copied clean start first.
    let is = copied clean in
    let opening = first (made.was_working (working_of conn files is)).clean in
    created_by _ start c.args.conn conn files opening.0 opening.1 made is)
    (subst (λ held. IfOk c.close.result (λ it. AreClean g.D.Disk it.log it.db → IsCopied held it)) same c.close.ensures.copied)

pub returns-in-Ok-clause-unclosed : goal.returns-in-Ok-clause-unclosed
returns-in-Ok-clause-unclosed g c =
    let conn = c.worked_on.result in
    let first_state = file_state c.args.conn in
    let made = subst (λ held. IsMadeNew (first_tables c.args.user.now c.args.token) first_state (file_state held))
    (sym c.worked_on.ensures.same) c.in-Ok.ensures.made in
    IfErr-weaker c.close.result _ _ (λ it closed clean start first.
    let then = clean_before conn it.store closed clean in
    let opening = first (made.was_clean then) in
    created_in_log_by _ start c.args.conn conn it.store opening.0 opening.1 made
    then closed (c.worked_on.ensures.numbered then, c.worked_on.ensures.databases then))
    c.close.ensures.kept

pub returns-in-Ok-clause-was_clean : goal.returns-in-Ok-clause-was_clean
returns-in-Ok-clause-was_clean g c =
    let made = c.in-Ok.ensures.made in
    let copied = subst (λ held. IfOk c.close.result (λ it. AreClean g.D.Disk it.log it.db → IsCopied held it))
    c.worked_on.ensures.same c.close.ensures.copied in
    let kept = subst (λ held. IfErr c.close.result (λ it. IsClosed held it.store)) c.worked_on.ensures.same c.close.ensures.kept in
    was_clean_by c.args.conn c.in-Ok.conn c.close.result made copied kept

pub returns-in-Err-clause-refused : goal.returns-in-Err-clause-refused
returns-in-Err-clause-refused g c = λ start first.
    let T = first_tables c.args.user.now c.args.token in
    let again = c.worked_on-conn.ensures in (
      subst (λ held. IsUnmade T start (file_state held)) (sym again.same) (λ clean.
          let leaves = c.in-Err.ensures.refused clean in
          let opening = first leaves.was_clean in
          refused_by (IsCreated 2 T) start c.args.conn c.in-Err.left.conn opening.0 opening.1 leaves),
      (λ clean. (again.numbered clean, again.databases clean)),
    )

pub returns-in-Err-clause-why : goal.returns-in-Err-clause-why
returns-in-Err-clause-why g c = λ page_sums start first. (
  refl,
  (
    c.args.conn,
    first,
    subst (λ held. IsWhyUnmade c.args.user.now c.args.token over_files c.args.conn held c.in-Err.left.why)
        (sym c.worked_on-conn.ensures.same) c.in-Err.ensures.why,
  ),
)
