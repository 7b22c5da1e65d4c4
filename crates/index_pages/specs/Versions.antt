-- The releases of a project's files (PEP 700, "Specification").
use Rattle.std.specs.Prelude.{◌≡◌, List, [], ◌∷◌}
use Rattle.std.specs.List.{list_any}
use Rattle.std.specs.BTreeSet.{insert_key}
use Rattle.std.specs.List.Sorted.{IsStrictlySortedBy}
use Rattle.index_rules.specs.Maps.{Bytes, bytes_cmp, same}
use Rattle.index_rules.specs.declared.rows.FileRow.{FileRow}

-- the releases with this one, at its place in byte order
abbrev pub with_release : List Bytes → Bytes → List Bytes
with_release held release = insert_key bytes_cmp held release

-- the releases with those of these files
abbrev pub with_releases : List Bytes → List FileRow → List Bytes
with_releases held [] = held
with_releases held (row ∷ rows) = with_releases (with_release held row.release) rows

-- the releases of files
abbrev pub versions_of : List FileRow → List Bytes
versions_of rows = with_releases [] rows

-- the versions are exactly the releases of the files, each once and in byte order
pub record ListsReleases (rows : List FileRow) : Type 0 where
  pub rising : IsStrictlySortedBy bytes_cmp (versions_of rows)
  pub exact : (release : Bytes)
      → list_any (same release) (versions_of rows) ≡ list_any (λ row. same release row.release) rows
