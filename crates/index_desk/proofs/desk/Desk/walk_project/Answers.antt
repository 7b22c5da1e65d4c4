use Rattle.index_desk.proofs.Words.{Some, arith, refl, rules, common_steps, project_rows_in}
use Rattle.index_desk.proofs.LookLemmas.{hands_over}
use Rattle.index_desk.proofs.RowLemmas.{AreProjectRowsAfter-project_rows_in}
use Rattle.index_desk.proofs.desk.Desk.walk_project.Goals as goal

pub returns-in_err-is_held : goal.returns-in_err-is_held
returns-in_err-is_held g c =
    let name = c.args.name.now in
    hands_over _ _ _ _ (λ S rules s. rules.ProjectRows s name) (λ T. project_rows_in T name) _ (λ T. refl)
    (λ h stands. AreProjectRowsAfter-project_rows_in h _ stands name) (grind (arith, common_steps)) (search rules)
    (search rules)

pub returns-in_err-walk_files : goal.returns-in_err-walk_files
returns-in_err-walk_files g c =
    let name = c.args.name.now in
    let given = c.in_err-walk_files.ensures.given in
    hands_over _ _ _ _ (λ S rules s. rules.ProjectRows s name) (λ T. project_rows_in T name) _ (λ T. refl)
    (λ h stands. AreProjectRowsAfter-project_rows_in h _ stands name) (grind (arith, common_steps)) (
      Some given.0,
      grind (arith, common_steps),
    ) (search rules)

pub returns : goal.returns
returns g c =
    let name = c.args.name.now in
    let given = c.in_ok-walk_files.ensures.given in
    hands_over _ _ _ _ (λ S rules s. rules.ProjectRows s name) (λ T. project_rows_in T name) _ (λ T. refl)
    (λ h stands. AreProjectRowsAfter-project_rows_in h _ stands name) (grind (arith, common_steps)) (
      Some given.0,
      (given.1, refl),
    ) (search rules)
