-- What tables answer is what a history answers for which they stand.
use Rattle.index_desk.proofs.Words.{sym, subst, ◌∙◌, List, Option, FileRow, Bytes, Tables, History, StandsFor, IsStandingAfter}
use Rattle.index_desk.proofs.Words.{AreHeldRowsAfter, AreProjectRowsAfter, by_history, by_tables}
use Rattle.index_rules.specs.declared.rows.NameRow.{NameRow}
use Rattle.index_rules.specs.declared.standing.Standing.{Standing}
use Rattle.index_desk.proofs.StandingLemmas.{IsStandingAfter-standing_in}
use Rattle.index_desk.proofs.RowLemmas.{AreHeldRowsAfter-held_rows_in, AreProjectRowsAfter-project_rows_in}

module _ (h : History) (T : Tables) (stands : StandsFor T h) where
  pub standing_by_history : (name : Bytes) (standing : Standing) → by_tables.Stands T name standing → by_history.Stands h name standing
  standing_by_history name standing is = subst (IsStandingAfter h name) (sym is) (IsStandingAfter-standing_in h T stands name)

  pub held_rows_by_history : (rows : List NameRow) → by_tables.HeldRows T rows → by_history.HeldRows h rows
  held_rows_by_history rows is = subst (AreHeldRowsAfter h) (sym is) (AreHeldRowsAfter-held_rows_in h T stands)

  pub project_rows_by_history : (name : Bytes) (rows : Option (List FileRow)) → by_tables.ProjectRows T name rows
      → by_history.ProjectRows h name rows
  project_rows_by_history name rows is = subst (AreProjectRowsAfter h name) (sym is) (AreProjectRowsAfter-project_rows_in h T stands name)

  pub body_by_history : (file : Bytes) (body : Option Bytes) → by_tables.Body T file body → by_history.Body h file body
  body_by_history file body is = is ∙ stands.bodies file
