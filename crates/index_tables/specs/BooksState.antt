-- The state of the books: a connection and counts.
use Rattle.std.specs.Prelude.{◌≡◌, ℕ, IsTrue, Some, refl}
use Rattle.std.specs.Coded.{Coded, code_by, coded×, coded_ℕ}
use Rattle.sqlite_trees.specs.Tree.{Trees}
use Rattle.sqlite_trees.specs.declared.store.Store.{Ghosts}
use Rattle.sqlite.specs.Held.{Held, held_code, state}
use Rattle.sqlite.specs.State.{State, HasCleanDisk}
use Rattle.index_sql_writes.specs.Changed.{HoldsIndex}
use Rattle.index_rules.specs.Tables.{Tables}
use Rattle.index_sql_schema.specs.Index.{IsIndex, version_in}
use Rattle.index_sql_schema.specs.Records.{tables_in}

-- a connection, how many calls failed, and how many of them with `Store`
pub record BooksState (S : Type 0) : Type 0 where
  pub conn : Held S
  pub failures : ℕ
  pub stores : ℕ

abbrev pub books_state_code : {S : Type 0} → Coded S → Coded (BooksState S)
books_state_code {S} store =
    code_by (Held S × (ℕ × ℕ)) (coded× (held_code store) (coded× coded_ℕ coded_ℕ))
    (λ kept. (kept.conn, (kept.failures, kept.stores)))
    (λ p. record { conn = p.0; failures = p.1.0; stores = p.1.1 })
    (λ _. refl)

-- the disk has returned what was written, and no fault has shut the connection
pub record IsWorking (s : State) : Type 0 where
  pub clean : HasCleanDisk s
  pub is_open : IsTrue s.is_open

-- on a clean disk, if the connection is open, its database has this version in meta
abbrev pub HasVersion : {S : Type 0} → ℕ → Ghosts S → Held S → Type 0
HasVersion number g held =
    HasCleanDisk (state g held) → IsTrue (state g held).is_open
    → version_in (state g held).now.trees ≡ Some number

-- the disk is clean and the connection open, to an index with this version in meta, all of it
-- committed
pub record IsHonest (number : ℕ) (s : State) : Type 0 where
  pub clean : HasCleanDisk s
  pub is_open : IsTrue s.is_open
  pub index : IsIndex s.now
  pub committed : s.now ≡ s.committed
  pub version : version_in s.now.trees ≡ Some number

-- the trees of an index with this version in meta
pub record AreCurrent (number : ℕ) (db : Trees) : Type 0 where
  pub index : HoldsIndex db
  pub version : version_in db ≡ Some number

-- The disk has returned what was written, and an open after a crash may find these tables. If it
-- may find no index of this version, any tables do: a clause on which tables are left also says
-- that an index is.
abbrev pub Leaves : ℕ → State → Tables → Type 0
Leaves number s T =
    HasCleanDisk s × ((db : Trees) × s.may_leave db × (AreCurrent number db → T ≡ tables_in db))
