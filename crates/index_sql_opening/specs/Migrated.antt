-- The migration of a database of version 1.
use Rattle.std.specs.Prelude.{◌≡◌, true, List, [], ◌∷◌, IsTrue}
use Rattle.sqlite.specs.State.{State}
use Rattle.index_sql_opening.specs.NewAsks.{text_ask}
use Rattle.index_sql_schema.specs.FirstVersion.{IsFirstVersion}
use Rattle.index_sql_schema.specs.StatementTexts.{update_version_text}
use Rattle.index_sql_schema.specs.TableTexts.{bans_text}
use Rattle.index_sql_writes.specs.Asks.{Ask}

-- a transaction on a database of version 1 is in progress
pub record IsMigrating (s : State) : Type 0 where
  pub is_open : IsTrue s.is_open
  pub inside : s.in_transaction ≡ true
  pub first : IsFirstVersion s.now

-- what a migration asks of SQL: the table of the bans, and the number of the version
abbrev pub asks_of_migration : List Ask
asks_of_migration = text_ask bans_text ∷ text_ask update_version_text ∷ []
