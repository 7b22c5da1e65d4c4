-- The rows of the entries of a table, one entry after another.
use Rattle.index_plain.proofs.Words.{◌≡◌, true, false, cond, refl, ap, ◌∙◌, List, [], ◌∷◌, ◌++◌, map, filter, FileRecord, NameRecord, Bytes}
use Rattle.index_plain.proofs.Words.{Tables, is_undeleted_of, name_row, is_held_row, file_row_in, rows_of_file}
use Rattle.index_rules.specs.declared.rows.FileRow.{FileRow}
use Rattle.index_rules.specs.declared.rows.NameRow.{NameRow}
use Rattle.index_rules.specs.Rows.{StoppedAmong}

-- the rows of the held names among these
abbrev pub held_rows_of : List (Bytes × NameRecord) → List NameRow
held_rows_of es = filter is_held_row (map name_row es)

-- the rows of a name's undeleted files among these
abbrev pub file_rows_of : Tables → Bytes → List (Bytes × FileRecord) → List FileRow
file_rows_of T name es = map (file_row_in T name) (filter (λ e. is_undeleted_of name e.1) es)

pub held_rows_first : (es left : List (Bytes × NameRecord)) (e : Bytes × NameRecord) → es ≡ e ∷ left
    → held_rows_of es ≡ held_rows_of (e ∷ []) ++ held_rows_of left
held_rows_first es left e split =
    ap held_rows_of split
    ∙ elim (is_held_row (name_row e)) as (λ b. cond b (name_row e ∷ held_rows_of left) (held_rows_of left) ≡ cond b (name_row e ∷ []) []
    ++ held_rows_of left) [ true ↦ refl | false ↦ refl ]

pub file_rows_first : (T : Tables) (name : Bytes) (es left : List (Bytes × FileRecord)) (e : Bytes × FileRecord) → es ≡ e ∷ left
    → file_rows_of T name es ≡ rows_of_file T name e ++ file_rows_of T name left
file_rows_first T name es left e split =
    ap (file_rows_of T name) split
    ∙ elim (is_undeleted_of name e.1) as (λ b. map (file_row_in T name)
    (cond b (e ∷ filter (λ f. is_undeleted_of name f.1) left) (filter (λ f. is_undeleted_of name f.1) left))
    ≡ cond b (file_row_in T name e ∷ []) [] ++ file_rows_of T name left) [ true ↦ refl | false ↦ refl ]

-- a taker that stops at the one row
pub stopped_at_one : {K R : Type 0} (takes stops : K → R → K → Type 0) (rows : List R) (row : R) (before after : K) → rows ≡ row ∷ []
    → stops before row after → StoppedAmong takes stops rows before after
stopped_at_one takes stops rows row before after one stopped = (
  row ∷ [],
  [],
  one,
  record { taken = []; row = row; split = refl; between = before; took = refl; stopped = stopped },
)
