use Rattle.index_desk.proofs.Words.{◌≡◌, ◌≤◌, ◌⊎◌, Contains, HasFailed, Store, HasOneBearer, Runs, Tables, CallsLeave, LastsAll, by_tables}
use Rattle.std.proofs.Common.{length, vec_capacity}
use Rattle.index_rules.specs.declared.answer.Answer.TheVariants as answer
use Rattle.index_rules.proofs.Counts.{NotFewer}
use Rattle.index_desk.proofs.desk.Desk.apply_all.Given as goal

abbrev pub invariant-loop-call : goal.invariant-loop-call
invariant-loop-call g l = record {
  runs : g.B.Books.IsHonest l.self → HasOneBearer (g.B.Books.tables l.fn.self)
      → Runs (g.B.Books.tables l.fn.self) l.yielded l.answers.items (g.B.Books.tables l.self);
  one : g.B.Books.IsHonest l.self → HasOneBearer (g.B.Books.tables l.fn.self) → HasOneBearer (g.B.Books.tables l.self);
  told : length l.answers.items ≡ length l.yielded;
  room : length l.fn.calls.items ≤ vec_capacity l.answers;
  store : Contains l.answers.items (answer.Fault Store) → HasFailed (g.B.Books.failures l.fn.self) (g.B.Books.failures l.self);
  stores : (g.B.Books.stores l.self ≡ g.B.Books.stores l.fn.self) ⊎ Contains l.answers.items (answer.Fault Store);
  counts : NotFewer (g.B.Books.failures l.fn.self) (g.B.Books.failures l.self);
  lasts : g.B.Books.IsClean l.self → LastsAll l.answers.items (g.B.Books.IsHonest l.fn.self) (g.B.Books.IsHonest l.self);
  crash : g.B.Books.IsHonest l.fn.self → g.B.Books.IsClean l.self → HasOneBearer (g.B.Books.tables l.fn.self) → (T : Tables)
      → g.B.Books.may_leave l.self T → CallsLeave by_tables (g.B.Books.tables l.fn.self) l.yielded l.answers.items T;
  honest : g.B.Books.IsHonest l.self → g.B.Books.IsHonest l.fn.self;
  clean : g.B.Books.IsClean l.self → g.B.Books.IsClean l.fn.self;
}
