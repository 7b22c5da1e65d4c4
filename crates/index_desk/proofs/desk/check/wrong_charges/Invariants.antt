use Rattle.index_desk.proofs.Words.{◌≡◌, ◌≤◌, Ok, take, count_by, is_charged_wrong_in, ReadsTables}
use Rattle.index_desk.proofs.desk.check.wrong_charges.Given as goal

abbrev pub invariant-loop-row : goal.invariant-loop-row
invariant-loop-row g l = let books = g.B.Books in record {
  count : books.IsHonest l.books → l.count ≡ count_by (is_charged_wrong_in (books.tables l.fn.books)) (take l.row-index l.rows);
  few : l.count ≤ l.row-index;
  look : ReadsTables {X = Unit {0}} books l.fn.books l.books (Ok tt);
}
