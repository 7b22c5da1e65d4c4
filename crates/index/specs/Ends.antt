-- The ends of the program with status 1, and the faults of other layers behind them.
use Rattle.std.specs.Prelude.{ℕ, ◌&&◌, ◌≡◌, Bool, true, false, None, Result, Ok, Err, IfErr, IsTrue}
use Rattle.std.specs.Prelude.{if◌then◌else◌}
use Rattle.sqlite.specs.declared.error.Error.{Error}
use Rattle.sqlite.specs.declared.error.Error.TheVariants.{SqliteFailure}
use Rattle.sqlite.specs.declared.error.ErrorCode.TheVariants as code
use Rattle.sqlite_disk.specs.declared.Disk.{Ghosts}
use Rattle.index_cli.specs.Causes.{HaveFailed}
use Rattle.index_cli.specs.Ends.{RunFailsOnly}
use Rattle.index_cli.specs.declared.end.LineEnd.{LineEnd}
use Rattle.index_cli.specs.declared.end.ServeEnd.{ServeEnd}
use Rattle.index_cli.specs.declared.end.ServeEnd.TheVariants as serve_end
use Rattle.index_desk.specs.declared.desk.report.ReportFault.{ReportFault}
use Rattle.index_desk.specs.declared.desk.report.ReportFault.TheVariants as report_fault
use Rattle.index_http.specs.Steps.{SinkStep}
use Rattle.index_io.specs.Counts.{HasFailed}
use Rattle.index_message.specs.Reads.{SourceStep}
use Rattle.index_rules.specs.declared.answer.Fault.{Fault}
use Rattle.index_rules.specs.declared.answer.Fault.TheVariants as fault
use Rattle.index_rules.specs.declared.open.OpenFault.TheVariants as open_fault
use Rattle.index.specs.declared.end.End.{End}
use Rattle.index.specs.declared.database.Unclosed.{Unclosed}
use Rattle.index.specs.declared.end.End.TheVariants as end
use Rattle.index.specs.Causes.{cause_of_error}

-- the database failed
abbrev pub is_store : End → Bool
is_store (end.Store cause) = true
is_store (end.Volume cause path) = true
is_store (end.Open open_fault.Store) = true
is_store (end.Connections serve_end.Store) = true
is_store _ = false

-- the database failed, or memory ran out
abbrev pub is_fault_end : End → Bool
is_fault_end end.OutOfMemory = true
is_fault_end (end.Open open_fault.OutOfMemory) = true
is_fault_end end = is_store end

-- the end for an error of SQLite
abbrev pub end_of_error : Error → End
end_of_error (SqliteFailure code.OutOfMemory) = end.OutOfMemory
end_of_error error = end.Store (cause_of_error error)

-- the ends for a fault of the desk and of a report
abbrev pub end_of_fault : Fault → End
end_of_fault fault.OutOfMemory = end.OutOfMemory
end_of_fault fault.Store = end.Store None

abbrev pub end_of_report : ReportFault → End
end_of_report report_fault.OutOfMemory = end.OutOfMemory
end_of_report report_fault.Store = end.Store None
end_of_report (report_fault.WriteFault count) = end.WriteFault

-- The results of a run over lines, of one over connections and of a report. Only the first has a
-- number.
abbrev pub end_of : Result ℕ LineEnd → Result ℕ End
end_of (Ok count) = Ok count
end_of (Err early) = Err (end.Lines early)

abbrev pub end_of_serving : Result (Unit {0}) ServeEnd → Result ℕ End
end_of_serving (Ok done) = Ok 0
end_of_serving (Err early) = Err (end.Connections early)

abbrev pub end_of_reporting : Result (Unit {0}) ReportFault → Result ℕ End
end_of_reporting (Ok done) = Ok 0
end_of_reporting (Err fault) = Err (end_of_report fault)

-- ---- what is known of why work ended early

-- a run over lines ended as what it read from and wrote to says
abbrev pub LinesAreCaused : {S K : Type 0} → ℕ → SourceStep S → SinkStep K → Result ℕ End → Type 0
LinesAreCaused most source sink result = (ended : Result ℕ LineEnd) × (result ≡ end_of ended)
    × RunFailsOnly most source sink ended

-- connections ended for want of one only if the next one could not be accepted
abbrev pub ServingIsCaused : Type 0 → Result ℕ End → Type 0
ServingIsCaused CannotAccept result =
    result ≡ Err (end.Connections serve_end.ReadFault) → CannotAccept

-- a report failed to be written only if a write failed, or took no byte
abbrev pub ReportIsCaused : {K : Type 0} → SinkStep K → Result ℕ End → Type 0
ReportIsCaused sink result = result ≡ Err end.WriteFault
    → HasFailed (sink.out.failures sink.old) (sink.out.failures sink.new)

-- work ended as a failed database only if a call of it failed meanwhile
abbrev pub StoreIsCaused : ℕ → ℕ → Result ℕ End → Type 0
StoreIsCaused before now result =
    IfErr result (λ why. IsTrue (is_store why) → HaveFailed 1 before now)

-- ---- closing

-- The result of work whose files are closed too. If the database failed in both, the end of closing
-- has the cause.
abbrev pub end_by : Result ℕ End → Result (Unit {0}) End → Result ℕ End
end_by end (Ok done) = end
end_by (Ok count) (Err fault) = Err fault
end_by (Err early) (Err fault) = if is_store early && is_store fault then Err fault else Err early

-- the result of closing
abbrev pub closing_of : {F D : Type 0} → {g : Ghosts D} → Result F (Unclosed D g)
    → Result (Unit {0}) End
closing_of (Ok files) = Ok tt
closing_of (Err unclosed) = Err unclosed.fault
