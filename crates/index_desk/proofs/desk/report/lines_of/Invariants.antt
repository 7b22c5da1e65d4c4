use Rattle.index_desk.proofs.Words.{◌≡◌, ◌++◌}
use Rattle.std.proofs.Common.{drop}
use Rattle.index_desk.specs.Reports.{report_of}
use Rattle.index_desk.proofs.desk.report.lines_of.Given as goal

abbrev pub invariant-loop-row : goal.invariant-loop-row
invariant-loop-row l = l.text.items ++ report_of (drop l.row-index l.rows) ≡ report_of l.rows
