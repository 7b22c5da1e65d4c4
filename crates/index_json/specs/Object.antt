-- A JSON object whose row is read.
use Rattle.std.specs.Prelude.{ℕ, ◌-◌}
use Rattle.serde_json.specs.Data.{Data}
use Rattle.serde_json.specs.View.{view}
use Rattle.index_json.specs.Json.{key_count}
use Rattle.index_json.specs.declared.object_reader.ObjectReader.{ObjectReader}

-- the object, and the number of its keys that are left to read
pub record Object : Type 0 where
  pub left : ℕ
  pub value : Data

-- an object that was not read yet
abbrev pub whole_object : Data → Object
whole_object value = record { left = key_count value; value = value }

-- One more key was read. A row reads no key twice.
abbrev pub with_key_read : Object → Object
with_key_read object = record { left = object.left - 1; value = object.value }

-- the object of a reader
abbrev pub object_of : ObjectReader → Object
object_of row = record { left = row.left; value = view row.value.now }
