-- The rows of a project, if its name is held, and walks over them.
use Rattle.std.specs.Prelude.{Bool, Err, IfOk, List, None, Ok, Option, Result, Some, false}
use Rattle.std.specs.Prelude.{if◌then◌else◌, true, ◌≡◌}
use Rattle.std.specs.FinMap.{get}
use Rattle.index_rules.specs.declared.rows.FileRow.{FileRow}
use Rattle.index_rules.specs.declared.rows.WalkEnd.{WalkEnd}
use Rattle.index_rules.specs.Maps.{Bytes}
use Rattle.index_rules.specs.Tables.{Tables}
use Rattle.index_rules.specs.TableRows.{file_rows_in}
use Rattle.index_rules.specs.Verdict.{is_held}
use Rattle.index_rules.specs.Walks.{Walks, is_fault}

-- the rows of a held name's undeleted files, or none if the name is not held
abbrev pub project_rows_in : Tables → Bytes → Option (List FileRow)
project_rows_in T name = if is_held (get T.names name) then Some (file_rows_in T name) else None

-- the walk found that the name is not held, or failed
abbrev pub WalkFindsNoName : Result Bool WalkEnd → Type 0
WalkFindsNoName (Ok found) = found ≡ false
WalkFindsNoName (Err end) = is_fault end ≡ true

-- A walk over the rows of a project returns whether the name is held. If not, no row is taken.
abbrev pub WalksProject : {K R : Type 0} → (K → R → K → Type 0) → (K → R → K → Type 0)
    → Option (List R) → K → K → Result Bool WalkEnd → Type 0
WalksProject takes stops None before after result = (after ≡ before) × WalkFindsNoName result
WalksProject takes stops (Some rows) before after result =
    Walks takes stops rows before after result × IfOk result (λ found. found ≡ true)
