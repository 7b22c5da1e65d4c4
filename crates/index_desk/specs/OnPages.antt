-- Where a file that is served stands: on the page of its project, once, and on no other page.
use Rattle.std.specs.Prelude.{◌≡◌, Bool, true, List, Some, map}
use Rattle.std.specs.List.{AllByRecursion, list_any}
use Rattle.std.specs.List.Sorted.{IsStrictlySortedBy}
use Rattle.index_digest.specs.Digest.{sha256}
use Rattle.index_names.specs.FileName.{project_of}
use Rattle.index_rules.specs.declared.rows.FileRow.{FileRow}
use Rattle.index_rules.specs.Maps.{Bytes, bytes_cmp, same}
use Rattle.index_rules.specs.History.{History}
use Rattle.index_rules.specs.PastNames.{is_held_now, state_after}
use Rattle.index_rules.specs.StandsFor.{body_after}
use Rattle.index_desk.specs.PastRows.{AreProjectRowsAfter}

-- whether a page has the file
abbrev pub has_file : Bytes → List FileRow → Bool
has_file f rows = list_any (λ row. same f row.file) rows

-- a file whose bytes are served stands on the page of its project alone, once, with their digest
pub record IsOnItsPage (h : History) (f bytes : Bytes) : Type 0 where
  -- its project is held, so the root page has it
  pub held : is_held_now (state_after h (project_of f)) ≡ true
  -- the page of its project has it, and no other
  pub page : (n : Bytes) (rows : List FileRow) → AreProjectRowsAfter h n (Some rows)
      → has_file f rows ≡ same n (project_of f)
  -- no page has a file twice
  pub once : (n : Bytes) (rows : List FileRow) → AreProjectRowsAfter h n (Some rows)
      → IsStrictlySortedBy bytes_cmp (map (λ row. row.file) rows)
  -- the digest on the page is that of the bytes
  pub digest : (n : Bytes) (rows : List FileRow) → AreProjectRowsAfter h n (Some rows)
      → AllByRecursion (λ row. row.file ≡ f → row.digest ≡ sha256 bytes) rows

-- each file that is served can be found by the name of its project
abbrev pub ServesWhatItShows : History → Type 0
ServesWhatItShows h = (f bytes : Bytes) → body_after h f ≡ Some bytes → IsOnItsPage h f bytes

-- each row of a page has the bytes of its digest behind it
abbrev pub ShowsWhatItServes : History → Type 0
ShowsWhatItServes h =
    (n f : Bytes) (rows : List FileRow) → AreProjectRowsAfter h n (Some rows)
    → has_file f rows ≡ true → (bytes : Bytes) × (body_after h f ≡ Some bytes)

-- the words exclude a wrong outcome: other bytes of the file than those that the page shows
abbrev pub RefutesOtherBytes : History → Type 0
RefutesOtherBytes h =
    (f bytes other : Bytes) (rows : List FileRow) → body_after h f ≡ Some bytes
    → AreProjectRowsAfter h (project_of f) (Some rows) → (¬ (sha256 other ≡ sha256 bytes))
    → IsOnItsPage h f bytes × (¬ IsOnItsPage h f other)
