-- Tables whose bodies are places, and the bytes at these.
use Rattle.std.specs.Prelude.{◌≡◌, ℕ, Bool, true, false, List, IsTrue, Some}
use Rattle.std.specs.FinMap.{get}
use Rattle.index_rules.specs.Maps.{Bytes, change_values}
use Rattle.index_rules.specs.Tables.{Tables}
use Rattle.index_rules.specs.declared.change.Change.{Change}
use Rattle.index_rules.specs.declared.change.Change.TheVariants as change
use Rattle.index_volume.specs.Places.{LiesBelow, bytes_at}

-- the tables, with the bytes of a volume for their places
abbrev pub over : List ℕ → Tables → Tables
over volume T = record T { bodies = change_values (bytes_at volume) T.bodies }

-- each body is a place that ends at this end or below
abbrev pub Fits : ℕ → Tables → Type 0
Fits end T = (file place : Bytes) → get T.bodies file ≡ Some place → LiesBelow end place

-- whether a change has a body: only an upload has
abbrev pub has_body : Change → Bool
has_body (change.Upload name project file known body ends_case) = true
has_body other = false

-- the change with this stored for the bytes of an upload
abbrev pub with_stored : Bytes → Change → Change
with_stored place (change.Upload name project file known body ends_case) =
    change.Upload name project file known place ends_case
with_stored place other = other

-- what a crash may leave: tables that it may leave of the books below, over what it may leave of
-- the volume; nothing is said once the volume has lied
abbrev pub LeavesBoth : Bool → (List ℕ → Type 0) → (Tables → Type 0) → Tables → Type 0
LeavesBoth is_clean volume below T =
    IsTrue is_clean × (places : Tables) × (c : List ℕ) × below places × volume c
    × (T ≡ over c places)
