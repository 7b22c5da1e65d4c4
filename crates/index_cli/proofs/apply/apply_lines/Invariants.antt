use Rattle.index_cli.proofs.Words.{◌≡◌, ◌≤◌, ◌+◌, ℕ, KeepsInvariants, HaveCounted, HaveFailed, LinesReportFaults, Charges}
use Rattle.index_cli.specs.declared.apply.TheConstants.{MOST_BYTES}
use Rattle.index_cli.proofs.LinesWentLemmas.{so_far}
use Rattle.index_cli.proofs.Progress.{Progress}
use Rattle.index_cli.proofs.apply.apply_lines.Given as goal

abbrev pub invariant-loop-count : goal.invariant-loop-count
invariant-loop-count g l =
    let now = g.B.Books.tables l.desk in
    let given = g.S.Source.remaining l.fn.source in
    let left = g.S.Source.remaining l.source in
    record {
      answered : Progress (so_far g.B.Books l.fn.desk l.desk) now
          given left (g.K.Sink.contents l.fn.sink) (g.K.Sink.contents l.sink) l.count;
      faults : (faults : ℕ) × HaveFailed faults (g.B.Books.failures l.fn.desk) (g.B.Books.failures l.desk)
          × Progress (LinesReportFaults faults) now given left (g.K.Sink.contents l.fn.sink) (g.K.Sink.contents l.sink) l.count;
      counted : (faults : ℕ) × HaveCounted faults (g.B.Books.stores l.fn.desk) (g.B.Books.stores l.desk)
          × Progress (LinesReportFaults faults) now given left (g.K.Sink.contents l.fn.sink) (g.K.Sink.contents l.sink) l.count;
      charged : Charges MOST_BYTES l.left given left;
      spent : l.left + l.count ≤ MOST_BYTES;
      reads : g.S.Source.failures l.source ≡ g.S.Source.failures l.fn.source;
      writes : g.K.Sink.failures l.sink ≡ g.K.Sink.failures l.fn.sink;
      keeps : KeepsInvariants g.B.Books l.fn.desk l.desk;
    }
