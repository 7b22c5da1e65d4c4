-- Parts in which two tables are the same.
use Rattle.std.specs.Prelude.{◌≡◌}
use Rattle.sqlite_schema.specs.declared.schema.Table.{Table}

-- two tables have the same keys
pub record HaveSameKeys (first second : Table) : Type 0 where
  pub key : first.key ≡ second.key
  pub primary : first.primary ≡ second.primary
  pub uniques : first.uniques ≡ second.uniques
  pub orders : first.orders ≡ second.orders

-- two tables state the same of their rows
pub record HaveSameRules (first second : Table) : Type 0 where
  pub checks : first.checks ≡ second.checks
  pub references : first.references ≡ second.references
  pub computed : first.computed ≡ second.computed
  pub stamps : first.stamps ≡ second.stamps
  pub is_counted : first.is_counted ≡ second.is_counted
