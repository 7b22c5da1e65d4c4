-- The names that proofs of this crate take from elsewhere, from one place.
pub use Rattle.index_rules.specs.Facts.{has_release_in}
pub use Rattle.index_rules.specs.Rows.{Took}
pub use Rattle.index_rules.specs.TableRows.{file_rows_in}
pub use Rattle.index_rules.specs.Tables.{Tables}
pub use Rattle.index_rules.specs.Walks.{Walks, has_fault, is_fault, walk_end_of}
pub use Rattle.index_rules.specs.declared.answer.Fault.{Fault}
pub use Rattle.index_rules.specs.declared.rows.WalkEnd.{WalkEnd}
pub use Rattle.index_rules.specs.declared.rows.WalkEnd.TheVariants.{Store}
pub use Rattle.index_sql_reads.specs.Handed.{IsGiving, IsOf, QueryEndsForReason}
pub use Rattle.index_sql_schema.proofs.LookLemmas.{clean_before, looks_kept, reason_after, reasoned}
pub use Rattle.index_sql_schema.proofs.SelectNames.{held_shown}
pub use Rattle.index_sql_schema.proofs.ShownRecords.{known_records}
pub use Rattle.index_sql_schema.proofs.StayLemmas.{shown_open}
pub use Rattle.index_sql_schema.specs.Faults.{fault_by}
pub use Rattle.index_sql_schema.specs.Index.{IsIndex}
pub use Rattle.index_sql_schema.specs.Looks.{IsIndexConnection, QueriesOnly}
pub use Rattle.index_sql_schema.specs.OnStore.{on_store}
pub use Rattle.index_sql_schema.specs.Reasons.{HasReason}
pub use Rattle.index_sql_schema.specs.RecordRows.{AreRecords, IsListedRow, IsNamedRow}
pub use Rattle.index_sql_schema.specs.Records.{tables_in}
pub use Rattle.index_sql_schema.specs.Schema.{index_schema}
pub use Rattle.index_sql_schema.specs.ShownRows.{file_row_shown, name_row_in}
pub use Rattle.index_sql_schema.specs.StatementTexts.{select_bodies_text, select_files_text, select_held_text}
unfoldable pub use Rattle.index_sql_schema.specs.Sure.{IsSure}
pub use Rattle.sqlite.proofs.Callers.{EndsIn, command_of}
pub use Rattle.sqlite.specs.Effect.{Database}
pub use Rattle.sqlite.specs.Held.{Held, state}
unfoldable pub use Rattle.sqlite.specs.Listing.{understood}
unfoldable pub use Rattle.sqlite.specs.State.{Shown}
pub use Rattle.sqlite.specs.State.{HasCleanDisk, State}
unfoldable pub use Rattle.sqlite_tied.specs.Compute.{everything}
pub use Rattle.sqlite_trees.specs.declared.store.Store.{Ghosts}
pub use Rattle.sqlite_value.specs.Order.{Row}
pub use Rattle.sqlite_value.specs.declared.value.Value.TheVariants.{Text}
pub use Rattle.std.proofs.Common.{Bool, Err, IfErr, IfOk, List, None, Ok, OnOk, Result, Some, [], ap, arith, false, inl, inr, is_some}
pub use Rattle.std.proofs.Common.{length, length-append, map, not, option_map, refl, rules, slice_get, subst, subst₂, sym, take, true, ℕ}
pub use Rattle.std.proofs.Common.{◌++◌, ◌∙◌, ◌∷◌, ◌≡◌}
pub use Rattle.std.proofs.lemmas.List.{map-append}
pub use Rattle.std.specs.FinMap.{entries, get}
pub use Rattle.std.specs.List.{AllByRecursion}
