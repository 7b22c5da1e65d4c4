-- The names that proofs of this crate take from elsewhere, from one place.
pub use Rattle.index_rules.specs.Maps.{Bytes, Map}
pub use Rattle.index_rules.specs.Projects.{Project}
pub use Rattle.index_rules.specs.Tables.{Tables}
pub use Rattle.index_rules.specs.declared.records.FileRecord.{FileRecord}
pub use Rattle.index_sql_schema.specs.Faults.{fault_by}
pub use Rattle.index_sql_schema.specs.Index.{Changes, IsIndex, meta_in, same_meta}
pub use Rattle.index_sql_schema.specs.OnStore.{on_store}
pub use Rattle.index_sql_schema.specs.RecordRows.{AreRecords, IsFiledRow}
pub use Rattle.index_sql_schema.specs.Records.{tables_in}
pub use Rattle.index_sql_schema.specs.Schema.{index_schema}
pub use Rattle.index_sql_schema.specs.ShownRows.{file_shown}
pub use Rattle.index_sql_schema.specs.StatementTexts.{delete_body_text, delete_case_text, delete_name_text, delete_owner_text}
pub use Rattle.index_sql_schema.specs.StatementTexts.{delete_owners_text, delete_yank_text, delete_yanks_text, put_ban_text, put_body_text}
pub use Rattle.index_sql_schema.specs.StatementTexts.{put_case_text, put_file_text, put_name_text, put_owner_text, put_user_text}
pub use Rattle.index_sql_schema.specs.StatementTexts.{put_yank_text, update_files_text}
pub use Rattle.index_sql_writes.specs.Asks.{Ask, CanAsk, CanAskFor, RowShowsFileName, SqlAnswersAsk, SqlAnswersEachAsk, SqlDeletesBodies}
pub use Rattle.index_sql_writes.specs.Asks.{SqlFailsForReason, Statement, WithNumbers}
pub use Rattle.index_sql_writes.specs.Changed.{all_of}
pub use Rattle.index_sql_writes.specs.Statements.{project_numbers}
pub use Rattle.index_sql_writes.specs.StepAsks.{FailsForRefusal, asks_by}
pub use Rattle.index_sql_writes.specs.Steps.{ManyStepsMakeChange, RunsStatement, StepMakesChange}
pub use Rattle.index_sql_writes.specs.Transaction.{IsInTransaction, IsUncommitted, MakesInTransaction}
pub use Rattle.index_sql_writes.specs.Writes.{AreFilesOf, deletes_bodies, deletes_body, deletes_shown, flag_number, held_numbers}
pub use Rattle.index_sql_writes.specs.Writes.{name_cells, name_of, puts_file, puts_name}
pub use Rattle.sqlite.proofs.StateLemmas.{survives_then}
pub use Rattle.sqlite.specs.Clock.{timed}
pub use Rattle.sqlite.specs.Effect.{Database}
pub use Rattle.sqlite.specs.Held.{Held, state}
unfoldable pub use Rattle.sqlite.specs.Listing.{understood}
pub use Rattle.sqlite.specs.Rows.{Outcome}
unfoldable pub use Rattle.sqlite.specs.State.{IsNotRun}
pub use Rattle.sqlite.specs.State.{Executes, ExecutesInside, HasCleanDisk, KeepsCommit, State, Survives}
pub use Rattle.sqlite.specs.declared.error.Error.{Error}
pub use Rattle.sqlite_disk.specs.Disk.{MoreFaults}
pub use Rattle.sqlite_schema.specs.declared.command.Returning.{Returning}
pub use Rattle.sqlite_trees.specs.Tree.{Trees}
pub use Rattle.sqlite_trees.specs.declared.store.Store.{Ghosts}
pub use Rattle.sqlite_value.specs.Order.{Row}
pub use Rattle.sqlite_value.specs.declared.value.Value.TheVariants.{Text}
pub use Rattle.std.proofs.Common.{Bool, Err, IsSome, IsTrue, IsUtf8, List, None, Ok, Option, Result, Some, [], ap, arith, drop, false, inl}
pub use Rattle.std.proofs.Common.{inr, length, refl, rules, subst, sym, true, true≢false, ℕ, ◌++◌, ◌+◌, ◌<◌, ◌∙◌, ◌∷◌, ◌≡◌, ◌≤◌, ◌⊎◌}
pub use Rattle.std.proofs.Math.Seq.{drop-cons}
pub use Rattle.std.proofs.lemmas.Bool.{cases_Bool}
pub use Rattle.std.proofs.lemmas.Cmp.{nat_list_cmp_total}
pub use Rattle.std.proofs.lemmas.Map.Lookups.{exact_bytes}
pub use Rattle.std.specs.FinMap.{get, remove, same_map}
pub use Rattle.std.specs.List.{AllByRecursion}
pub use Rattle.std.specs.Prelude.{IsErrAnd, MatchResult}
