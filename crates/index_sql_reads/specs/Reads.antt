-- How a row is read.
use Rattle.std.specs.Prelude.{◌≡◌, MatchOption, Option, Result, Err, IfOk, IsOk, IsOkUnless, IsSome}
use Rattle.sqlite_value.specs.declared.value.Value.{Value}
use Rattle.sqlite_value.specs.declared.value.Value.TheVariants.{Null, Text}
use Rattle.index_names.specs.FileName.{read_file_name}
use Rattle.index_names.specs.Project.{read_name}
use Rattle.index_names.specs.Release.{read_release}
use Rattle.index_rules.specs.declared.answer.Fault.{Fault}
use Rattle.index_rules.specs.declared.answer.Fault.TheVariants.{OutOfMemory, Store}
use Rattle.index_rules.specs.Maps.{Bytes}
use Rattle.index_sql_schema.specs.RecordRows.{IsTextOf}

-- A result is such a value; if there is a value it is returned; and if there is none, the result is
-- `Store`.
pub record ValueIsRead {A : Type 0} (result : Result A Fault) (IsThere : Type 0)
    (MayBe : A → Type 0) : Type 0 where
  pub value : IfOk result MayBe
  pub complete : IsThere → IsOk result
  pub fault : IsOkUnless result Store

-- a cell of this kind is read as what it holds
abbrev pub CellIsRead : {A : Type 0} → Result A Fault → (Value → Type 0) → Value
    → (A → Value) → Type 0
CellIsRead result Is cell value = ValueIsRead result (Is cell) (λ it. cell ≡ value it)

-- a cell that may be NULL is read as nothing, or as what it holds
abbrev pub IsNullOr : {A : Type 0} → (A → Value) → Value → Option A → Type 0
IsNullOr value cell read = MatchOption read (cell ≡ Null) (λ it. cell ≡ value it)

-- a value that takes memory is read: if there is one it is returned, unless memory runs out
pub record OwnedIsRead {A : Type 0} (result : Result A Fault) (IsThere : Type 0)
    (MayBe : A → Type 0) : Type 0 where
  pub value : IfOk result MayBe
  pub complete : IsThere → IsOkUnless result OutOfMemory

-- a text of this kind is read; memory runs out only if the cell has a text of that kind, in any
-- spelling
pub record TextCellIsRead (Is IsSpelled : Bytes → Type 0) (cell : Value)
    (result : Result Bytes Fault) : Type 0 where
  pub value : IfOk result (λ it. cell ≡ Text it)
  pub complete : IsTextOf Is cell → IsOkUnless result OutOfMemory
  pub memory : result ≡ Err OutOfMemory → IsTextOf IsSpelled cell

-- bytes that spell a project name, a release or a file name
abbrev pub SpellsName : Bytes → Type 0
SpellsName bytes = IsSome (read_name bytes)

abbrev pub SpellsRelease : Bytes → Type 0
SpellsRelease bytes = IsSome (read_release bytes)

abbrev pub SpellsFile : Bytes → Type 0
SpellsFile bytes = IsSome (read_file_name bytes)
