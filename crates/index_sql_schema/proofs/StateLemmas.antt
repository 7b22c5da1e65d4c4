-- What a statement leaves, whatever its text is.
use Rattle.index_sql_schema.proofs.Words.{ℕ, List, subst, Row, understood, timed, State, Shown, ShowsRows, IsUnchanged, IsPlain}

-- a query changes nothing
pub shown_same : (sql : List ℕ) (params : Row) (old new : State) (rows : List Row) → IsPlain (understood old.now.schema sql)
    → Shown sql params old new rows → IsUnchanged old new
unfolding Shown
shown_same sql params old new rows plain h =
    let none = (subst IsPlain h.1.is plain).0 in
    (subst (ShowsRows old new sql h.0 (timed params h.0.formats h.1.now) rows) none h.2).3
