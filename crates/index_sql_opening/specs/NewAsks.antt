-- What the creation of an index asks of SQL.
use Rattle.std.specs.Prelude.{List, None, Result, Some, [], drop, map, pos, slice_get, suc, take, ℕ}
use Rattle.std.specs.Prelude.{◌++◌, ◌∷◌, ◌≡◌}
use Rattle.sqlite_value.specs.declared.value.Value.TheVariants.{Int}
use Rattle.sqlite.specs.declared.error.Error.{Error}
use Rattle.sqlite.specs.State.{State}
use Rattle.index_rules.specs.declared.records.UserRecord.{UserRecord}
use Rattle.index_rules.specs.Maps.{Bytes}
use Rattle.index_sql_schema.specs.CreateSteps.{IsStage, all_texts}
use Rattle.index_sql_schema.specs.OnStore.{TransactionStep}
use Rattle.index_sql_schema.specs.StatementTexts.{put_version_text}
use Rattle.index_sql_writes.specs.Asks.{Ask, SqlAnswersEachAsk, Statement}
use Rattle.index_sql_writes.specs.Statements.{put_user_ask}
use Rattle.index_sql_writes.specs.Steps.{ManyStepsMakeChange}
use Rattle.index_sql_writes.specs.Transaction.{IsUncommitted}
use Rattle.index_sql_opening.specs.Created.{Advances}

-- a statement without parameters
abbrev pub text_ask : List ℕ → Ask
text_ask text = Statement text []

-- the statements that make these tables, in turn
abbrev pub table_asks : ℕ → ℕ → List Ask
table_asks from to = map text_ask (drop from (take to all_texts))

-- the row of this version
abbrev pub put_version_ask : ℕ → Ask
put_version_ask version = Statement put_version_text (Int (pos version) ∷ [])

-- the tables, the first user and the version
abbrev pub asks_of_new : ℕ → Bytes → UserRecord → List Ask
asks_of_new version user account =
    table_asks 0 9 ++ (put_user_ask user account ∷ put_version_ask version ∷ [])

-- a state of this kind, in which no query has a limit on its steps
abbrev pub Unlimited : (State → Type 0) → State → Type 0
Unlimited Is s = Is s × (s.step_limit ≡ None)

-- steps on a transaction in a state of this kind, which change it in this way and ask these of SQL
abbrev pub StepsFrom : {S A : Type 0} → (State → Type 0)
    → (State → State → Type 0)
    → List Ask
    → TransactionStep S → Result A Error → Type 0
StepsFrom Begins Makes asks =
    ManyStepsMakeChange Begins Makes (Unlimited Begins) (SqlAnswersEachAsk asks)

-- the tables up to `to` are made in a transaction that has those up to `from`
abbrev pub CreatesTables : {S A : Type 0} → ℕ → ℕ → TransactionStep S → Result A Error → Type 0
CreatesTables from to = StepsFrom (IsStage from) (Advances to) (table_asks from to)

-- the next table is made by this statement; if the statement is refused, no table is made
pub record CreatesNext {S A : Type 0} (sql : List ℕ) (tx : TransactionStep S)
    (result : Result A Error) : Type 0 where
  pub uncommitted : IsUncommitted tx.store tx.old.conn tx.new.conn
  pub made : (n : ℕ) → slice_get all_texts n ≡ Some sql
      → StepsFrom (IsStage n) (Advances (suc n)) (text_ask sql ∷ []) tx result
