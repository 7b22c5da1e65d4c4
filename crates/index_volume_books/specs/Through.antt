-- What a write and a look do to books and a volume together.
use Rattle.std.specs.Prelude.{◌≡◌, ◌⊎◌, Bool, List, ℕ, IsTrue, Result, Option, IfOk, OnOk, OnErr}
use Rattle.std.specs.FinMap.{get}
use Rattle.sqlite_disk.specs.declared.Disk.{Ghosts as DiskGhosts}
use Rattle.index_rules.specs.declared.answer.Fault.{Fault}
use Rattle.index_rules.specs.declared.books.Books.{Ghosts}
use Rattle.index_rules.specs.declared.change.Change.{Change}
use Rattle.index_rules.specs.Effect.{means}
use Rattle.index_rules.specs.Maps.{Bytes}
use Rattle.index_rules.specs.Tables.{Tables}
use Rattle.index_volume_books.specs.Over.{LeavesBoth, over}

-- books and a volume, as the clauses see them
pub record Side : Type 1 where
  pub tables : Tables
  pub IsHonest : Type 0
  pub IsClean : Type 0
  pub books_leave : Tables → Type 0
  pub volume : List ℕ
  pub is_clean : Bool
  pub volume_leaves : List ℕ → Type 0

abbrev pub side_of : {B D : Type 0} → Ghosts B → DiskGhosts D → B → D → Side
side_of b d books disk = record {
  tables = b.tables books;
  IsHonest = b.IsHonest books;
  IsClean = b.IsClean books;
  books_leave = b.may_leave books;
  volume = d.seen disk;
  is_clean = d.is_clean disk;
  volume_leaves = d.may_leave disk;
}

-- the tables of both
abbrev pub both_tables : Side → Tables
both_tables s = over s.volume s.tables

-- both have done what they were asked
abbrev pub BothHonest : Side → Type 0
BothHonest s = s.IsHonest × IsTrue s.is_clean

-- no wrong answer of either has been taken as true
abbrev pub BothClean : Side → Type 0
BothClean s = s.IsClean × IsTrue s.is_clean

abbrev pub left_of : Side → Tables → Type 0
left_of s = LeavesBoth s.is_clean s.volume_leaves s.books_leave

-- a write of a change
pub record WritesThrough (old new : Side) (change : Change)
    (result : Result (Unit {0}) Fault) : Type 0 where
  pub written : BothHonest new → OnOk result (both_tables new ≡ means change (both_tables old))
  pub unchanged : BothHonest new → OnErr result (both_tables new ≡ both_tables old)
  pub lasts : OnOk result (new.IsClean → new.IsHonest)
  pub crash : (T : Tables) → left_of new T
      → left_of old T ⊎ (BothHonest old × (T ≡ means change (both_tables old)))
  pub alone : BothHonest old → OnOk result ((T : Tables) → left_of new T
      → T ≡ means change (both_tables old))
  pub honest : new.IsHonest → old.IsHonest
  pub clean : new.IsClean → old.IsClean
  pub volume : IsTrue new.is_clean → IsTrue old.is_clean

-- a look for the bytes of a file
pub record FindsThrough (old new : Side) (file : Bytes)
    (result : Result (Option Bytes) Fault) : Type 0 where
  pub found : BothHonest new → IfOk result (λ it. it ≡ get (both_tables old).bodies file)
  pub unchanged : BothHonest new → both_tables new ≡ both_tables old
  pub lasts : OnOk result (old.IsHonest → new.IsClean → new.IsHonest)
  pub crash : (T : Tables) → left_of new T → left_of old T
  pub honest : new.IsHonest → old.IsHonest
  pub clean : new.IsClean → old.IsClean
  pub volume : IsTrue new.is_clean → IsTrue old.is_clean

-- a look at both, by whether it succeeds
pub record LooksThrough (old new : Side) (succeeds : Bool) : Type 0 where
  pub honest : BothHonest new → BothHonest old
  pub clean : BothClean new → BothClean old
  pub unchanged : BothHonest new → both_tables new ≡ both_tables old
  pub lasts : IsTrue succeeds → BothHonest old → BothClean new → BothHonest new
  pub crash : (T : Tables) → left_of new T → left_of old T
