-- The names that build tools give files.
use Rattle.std.specs.Prelude.{ℕ, ◌∷◌, [], ◌++◌, if◌then◌else◌, map, nat_eq}
use Rattle.index_rules.specs.Maps.{Bytes}

-- a byte of a project's normal name as a file name has it: an underscore for a hyphen (PEP 427, PEP
-- 625)
abbrev pub in_file_name : ℕ → ℕ
in_file_name b = if nat_eq b 45 then 95 else b

-- the file name of this project and release with this ending
abbrev pub usual_text : Bytes → Bytes → Bytes → Bytes
usual_text name release end = ((map in_file_name name ++ 45 ∷ []) ++ release) ++ end
