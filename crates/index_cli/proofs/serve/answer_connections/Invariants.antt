use Rattle.index_cli.proofs.Words.{◌≡◌, true, KeepsInvariants, NeverFalls, HaveFailed}
use Rattle.index_cli.proofs.Served.{AreSoFar}
use Rattle.index_cli.proofs.WentLemmas.{ServedSoFar}
use Rattle.index_cli.proofs.serve.answer_connections.Given as goal

-- the connections so far were answered, and what was true of the tables is
abbrev pub invariant-loop-count : goal.invariant-loop-count
invariant-loop-count g l =
    let are = AreSoFar g.C.Connections.coming g.C.Connections.replies l.fn.connections l.connections in
    record {
      served : ServedSoFar g.B.Books are l.fn.at l.fn.desk l.desk l.count;
      keeps : KeepsInvariants g.B.Books l.fn.desk l.desk;
      counted : NeverFalls (g.B.Books.stores l.fn.desk) (g.B.Books.stores l.desk);
      shut : l.was_shut ≡ true → HaveFailed 1 (g.B.Books.stores l.fn.desk) (g.B.Books.stores l.desk);
    }
