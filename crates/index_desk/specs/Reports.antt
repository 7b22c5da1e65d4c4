-- The report: a line for each held or prohibited name.
use Rattle.std.specs.Prelude.{◌≡◌, ℕ, ◌-◌, ◌<◌, Bool, true, false, List, [], ◌∷◌, ◌++◌, length}
use Rattle.std.specs.Prelude.{take, replicate, Option, Result, Ok, Err, IfErr, OnOk, codes}
use Rattle.std.specs.Fmt.{decimal}
use Rattle.std.specs.Io.KnownBytes.{Appends, Keeps}
use Rattle.index_io.specs.Counts.{FailsAtMostOnce, HasFailed}
use Rattle.index_io.specs.declared.sink.Sink.{Ghosts as Outs}
use Rattle.index_rules.specs.declared.books.Books.{Ghosts}
use Rattle.index_rules.specs.declared.records.NameRecord.{NameRecord}
use Rattle.index_rules.specs.declared.records.NameRecord.TheVariants.{Held, Prohibited}
use Rattle.index_rules.specs.declared.rows.NameRow.{NameRow}
use Rattle.index_rules.specs.Maps.{Bytes}
use Rattle.index_rules.specs.Tables.{Tables}
use Rattle.index_rules.specs.TableRows.{name_rows_in}
use Rattle.index_rules.specs.StoreFaults.{CountsStoreFault}
use Rattle.index_desk.specs.Checks.{charge_of}
use Rattle.index_rules.specs.declared.answer.Fault.{Fault}
use Rattle.index_rules.specs.declared.answer.Fault.TheVariants as fault
use Rattle.index_desk.specs.declared.desk.report.ReportFault.{ReportFault}
use Rattle.index_desk.specs.declared.desk.report.ReportFault.TheVariants.{OutOfMemory, Store}
use Rattle.index_desk.specs.declared.desk.report.ReportFault.TheVariants.{WriteFault}

-- A text, padded with spaces to this width. A longer text is not cut.
abbrev pub at_left : ℕ → Bytes → Bytes
at_left width text = text ++ replicate (width - length text) 32

-- a number, padded on the left with spaces to this width
abbrev pub at_right : ℕ → ℕ → Bytes
at_right width number = replicate (width - length (decimal number)) 32 ++ decimal number

-- the word for the state of a name
abbrev pub state_text : NameRecord → Bytes
state_text (Held project) = codes "held"
state_text Prohibited = codes "prohibited"

-- the number of a name's undeleted files; 0 if it is prohibited
abbrev pub undeleted_of : NameRecord → ℕ
undeleted_of (Held project) = project.undeleted
undeleted_of Prohibited = 0

-- the quota of a name in bytes; 0 if it is prohibited
abbrev pub quota_of : NameRecord → ℕ
quota_of (Held project) = project.quota
quota_of Prohibited = 0

-- the name and its state, with a space after each
abbrev pub name_columns : NameRow → Bytes
name_columns row = at_left 24 row.name ++ 32 ∷ at_left 10 (state_text row.record) ++ 32 ∷ []

-- the number of undeleted files, the charge and the quota, with spaces between them
abbrev pub number_columns : NameRecord → Bytes
number_columns known =
    at_right 8 (undeleted_of known) ++ 32 ∷ at_right 14 (charge_of known)
    ++ 32 ∷ at_right 14 (quota_of known)

-- the line of a name, with its line feed
abbrev pub report_line : NameRow → Bytes
report_line row = name_columns row ++ number_columns row.record ++ 10 ∷ []

-- a line for each row, in their order
abbrev pub report_of : List NameRow → Bytes
report_of [] = []
report_of (row ∷ rows) = report_line row ++ report_of rows

-- the report: a line for each name, in byte order
abbrev pub report_in : Tables → Bytes
report_in T = report_of (name_rows_in T)

-- the end of a report, from a failed look at the tables
abbrev pub report_fault_of : Fault → ReportFault
report_fault_of fault.OutOfMemory = OutOfMemory
report_fault_of fault.Store = Store

-- how much of a text was written, from the end of the report
abbrev pub Reports : Bytes → Option Bytes → Option Bytes → Result (Unit {0}) ReportFault → Type 0
Reports text before after (Ok done) = Appends before after text
Reports text before after (Err OutOfMemory) = Keeps before after
Reports text before after (Err Store) = Keeps before after
Reports text before after (Err (WriteFault count)) =
    (count < length text) × Appends before after (take count text)

-- the report failed because the store did
abbrev pub reports_store : Result (Unit {0}) ReportFault → Bool
reports_store (Ok done) = false
reports_store (Err OutOfMemory) = false
reports_store (Err Store) = true
reports_store (Err (WriteFault count)) = false

-- the report failed because a write failed, or took no byte
abbrev pub fails_to_write : Result (Unit {0}) ReportFault → Bool
fails_to_write (Ok done) = false
fails_to_write (Err OutOfMemory) = false
fails_to_write (Err Store) = false
fails_to_write (Err (WriteFault count)) = true

-- why a report fails
pub record ReportFailsOnly {S K : Type 0} (g : Ghosts S) (out : Outs K) (old new : S)
    (before after : K) (result : Result (Unit {0}) ReportFault) : Type 0 where
  -- `WriteFault` is returned only if a write failed or took no byte
  pub write_fault : IfErr result (λ fault. (count : ℕ) → fault ≡ WriteFault count
      → HasFailed (out.failures before) (out.failures after))
  pub writes : fails_to_write result ≡ false → out.failures after ≡ out.failures before
  -- `Store` is returned only if a call of the books failed
  pub store : IfErr result (λ fault. fault ≡ Store → HasFailed (g.failures old) (g.failures new))
  -- a failed store is always returned as `Store`
  pub stores : CountsStoreFault (g.stores old) (g.stores new) (reports_store result)
  -- a report that succeeds had no failed call
  pub kept : OnOk result (g.failures new ≡ g.failures old)
  -- at most one call of the books failed
  pub failures : FailsAtMostOnce (g.failures old) (g.failures new)
