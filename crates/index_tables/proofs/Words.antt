-- The names that proofs of this crate take from elsewhere, from one place.
pub use Rattle.index_io.specs.Counts.{next_count}
pub use Rattle.index_rules.specs.Maps.{Bytes}
pub use Rattle.index_rules.specs.StandsFor.{StandsFor}
pub use Rattle.index_rules.specs.StoreFaults.{CountsStoreFault, ends_by_store, fails_by_store}
pub use Rattle.index_rules.specs.TableRows.{file_rows_in}
pub use Rattle.index_rules.specs.Tables.{Tables}
pub use Rattle.index_rules.specs.Walks.{has_fault, to_taker}
pub use Rattle.index_rules.specs.declared.answer.Fault.{Fault}
pub use Rattle.index_rules.specs.declared.open.OpenFault.{OpenFault}
pub use Rattle.index_rules.specs.declared.open.OpenFault.TheVariants.{BadFirstUser, NotAnIndex, NotEmpty, OtherVersion, OutOfMemory, Store}
pub use Rattle.index_sql_opening.specs.Created.{one_user}
pub use Rattle.index_sql_opening.specs.Names.{has_meta}
pub use Rattle.index_sql_opening.specs.Versions.{begun}
pub use Rattle.index_sql_reads.specs.ConnectionTables.{tables_of}
pub use Rattle.index_sql_schema.proofs.LookLemmas.{looks_kept}
pub use Rattle.index_sql_schema.proofs.SelectVersion.{selects}
pub use Rattle.index_sql_schema.specs.Faults.{fault_by}
pub use Rattle.index_sql_schema.specs.FirstVersion.{IsFirstVersion, first_version_schema}
pub use Rattle.index_sql_schema.specs.Index.{IsIndex, meta_in, version_among, version_in}
pub use Rattle.index_sql_schema.specs.Looks.{IsIndexConnection, QueriesOnly}
pub use Rattle.index_sql_schema.specs.OnStore.{on_store}
pub use Rattle.index_sql_schema.specs.Reasons.{HasReason}
pub use Rattle.index_sql_schema.specs.RecordRows.{AreRecords}
pub use Rattle.index_sql_schema.specs.Records.{tables_in}
pub use Rattle.index_sql_writes.specs.Changed.{MakesChange}
pub use Rattle.index_sql_writes.specs.StepAsks.{AreRefused}
pub use Rattle.index_sql_writes.specs.Transaction.{IsInvisibleIfShut}
pub use Rattle.index_tables.specs.Adopted.{Adopts, IsFound, IsOurs, IsRaised, IsReason}
pub use Rattle.index_tables.specs.BooksState.{AreCurrent, BooksState, HasVersion, IsHonest, IsWorking, Leaves}
pub use Rattle.index_tables.specs.Laws.{IsSettled, settled_at}
pub use Rattle.index_tables.specs.LooksUp.{LooksFor, SqlLooks, WalksBooks, with_books}
pub use Rattle.index_tables.specs.Opened.{AreOpened, CrashLeavesOrMakes, IsFault, IsUnopened, KeepsLimit, StoreForRefusal, open_fault_by}
pub use Rattle.index_tables.specs.Placed.{MakesNothing}
pub use Rattle.index_tables.specs.Reopened.{IsLeft, IsOver, MayLeave, OpensOnly}
pub use Rattle.index_tables.specs.declared.adopt.Kind.TheVariants.{FirstVersion}
pub use Rattle.index_tables.specs.declared.opening.Unopened.{Unopened}
pub use Rattle.index_volume_books.specs.Last.{IsLast, last_from}
pub use Rattle.sqlite.specs.Effect.{Database}
pub use Rattle.sqlite.specs.Files.{file_state, over_files}
pub use Rattle.sqlite.specs.Held.{Held, state}
pub use Rattle.sqlite.specs.State.{HasCleanDisk}
pub use Rattle.sqlite.specs.declared.error.Error.{Error}
unfoldable pub use Rattle.sqlite_schema.specs.Names.{same_name}
pub use Rattle.sqlite_schema.specs.declared.schema.Schema.{Schema}
pub use Rattle.sqlite_trees.specs.Tree.{Trees}
pub use Rattle.sqlite_trees.specs.declared.store.Store.{Ghosts}
pub use Rattle.sqlite_wal.specs.Recovery.{Image}
pub use Rattle.std.proofs.Common.{Bool, Err, IfErr, IfOk, IsTrue, List, None, Ok, OnOk, Option, Result, Some, [], ap, false, inl, inr}
pub use Rattle.std.proofs.Common.{is_ok, length, not, option_map, refl, rules, subst, sym, true, true≢false, ℕ, ◌&&◌, ◌==◌, ◌∙◌, ◌≡◌, ◌⊎◌}
pub use Rattle.std.proofs.lemmas.Bool.{cases_Bool}
pub use Rattle.std.specs.FinMap.{get}
