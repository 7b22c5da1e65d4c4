-- The names that proofs of this crate take from elsewhere, from one place.
pub use Rattle.index_rules.proofs.OwnerLists.{exact_pair, pair_total, same_pair}
pub use Rattle.index_rules.specs.Effect.{without_name}
pub use Rattle.index_rules.specs.Maps.{Bytes, bytes_cmp, change_values, pair_cmp, same}
pub use Rattle.index_rules.specs.Tables.{Tables}
pub use Rattle.index_rules.specs.declared.records.FileRecord.{FileRecord}
pub use Rattle.index_rules.specs.declared.records.NameRecord.{NameRecord}
pub use Rattle.index_rules.specs.declared.records.UserRecord.{UserRecord}
pub use Rattle.index_sql_schema.specs.CreateSteps.{stage}
pub use Rattle.index_sql_schema.specs.FirstVersion.{first_version_schema}
pub use Rattle.index_sql_schema.specs.Index.{AreRows, Changes, HasRowid, IsIndex, Rewrites, as_version_2, is_first, is_version, raised}
pub use Rattle.index_sql_schema.specs.Index.{rowid_in}
pub use Rattle.index_sql_schema.specs.Looks.{QueriesOnly}
pub use Rattle.index_sql_schema.specs.Reasons.{HasReason}
pub use Rattle.index_sql_schema.specs.RecordRows.{AreRecords, AreRecordsIn, AreRecordsOf, IsAccountRow, IsCaseRow, IsFileRow, IsFiledRow}
pub use Rattle.index_sql_schema.specs.RecordRows.{IsNameRow, IsNamedRow, IsOpenedRow, IsOwnedRow, IsRecordIn, IsStoredRow, IsUserRow}
pub use Rattle.index_sql_schema.specs.RecordRows.{IsYankedRow}
pub use Rattle.index_sql_schema.specs.Records.{body_in, case_in, file_in, name_in, nothing_in, number_in, pair_key, reason_in, tables_in}
pub use Rattle.index_sql_schema.specs.Records.{text_key, user_in}
pub use Rattle.index_sql_schema.specs.RowMaps.{map_from}
pub use Rattle.index_sql_schema.specs.Schema.{bans_at, blobs_at, cases_at, files_at, index_schema, meta_at, names_at, owners_at, users_at}
pub use Rattle.index_sql_schema.specs.Schema.{yanks_at}
unfoldable pub use Rattle.index_sql_schema.specs.Sure.{IsSure}
pub use Rattle.index_sql_schema.specs.TableTexts.{bans_text}
pub use Rattle.index_sql_schema.specs.Unchanged.{IsUnchangedIfOpen}
pub use Rattle.sqlite.proofs.Callers.{IsPlain, command_of, one_step, reads_as, runs_as, statement_of}
pub use Rattle.sqlite.specs.Clock.{timed}
pub use Rattle.sqlite.specs.Does.{Does, Tally}
pub use Rattle.sqlite.specs.Effect.{Answers, Database, IsDatabase, value_rows}
pub use Rattle.sqlite.specs.Held.{state}
unfoldable pub use Rattle.sqlite.specs.Listing.{understood}
pub use Rattle.sqlite.specs.Listing.{reads_listing}
pub use Rattle.sqlite.specs.Rows.{shown, stamped}
unfoldable pub use Rattle.sqlite.specs.State.{CommitsShowing, FailsToQuery, IsNotRun, Shown}
pub use Rattle.sqlite.specs.State.{Executes, FailsToShow, HasCause, IsUnchanged, ShowsRows, State, mode_of, store_error}
pub use Rattle.sqlite.specs.Values.{or_null}
pub use Rattle.sqlite.specs.declared.error.Error.{Error}
pub use Rattle.sqlite_catalog.specs.Change.{KeepsRows, created}
pub use Rattle.sqlite_keyed.proofs.KeyedLemmas.{same_int}
pub use Rattle.sqlite_keyed.proofs.ListLemmas.{IsPermutation-filter, all-append, all-filter, all-slice_get, all_both, all_from_test}
pub use Rattle.sqlite_keyed.proofs.ListLemmas.{all_map, all_of, all_weaker, along_permutation, ascending-filter, filter-map, filter_all}
pub use Rattle.sqlite_keyed.proofs.ListLemmas.{map-map, none_from_any, slice_get-filter}
pub use Rattle.sqlite_keyed.proofs.SortLemmas.{sorted_unique}
pub use Rattle.sqlite_keyed.specs.Lists.{delete_where, update_where}
pub use Rattle.sqlite_resolve.specs.declared.compiled.Compiled.{Compiled}
pub use Rattle.sqlite_rules.specs.Action.{Acts, Leads, Work, Writes, deed_for, is_child_of, loses, pairs, work_by, works}
pub use Rattle.sqlite_rules.specs.Calls.{ids_of}
pub use Rattle.sqlite_rules.specs.Cast.{cast_row}
pub use Rattle.sqlite_rules.specs.Edit.{are_fresh, edit_of, id_in, next_rowid, numbered, put_all, row_at, taken_by, with_rowid, without_all}
pub use Rattle.sqlite_rules.specs.Keys.{AreConflicts, conflicts}
pub use Rattle.sqlite_rules.specs.Lists.{Has}
pub use Rattle.sqlite_rules.specs.declared.error.Rowids.TheVariants.{Chosen, Given}
unfoldable pub use Rattle.sqlite_schema.specs.Names.{same_name}
pub use Rattle.sqlite_schema.specs.Rules.{Keeps, agree, are_present, are_typed, guards, has_computed, is_of, parent_key, passes}
pub use Rattle.sqlite_schema.specs.declared.command.Command.{Command}
pub use Rattle.sqlite_schema.specs.declared.command.Command.TheVariants.{Delete, Insert, InsertOr, Select, Update}
pub use Rattle.sqlite_schema.specs.declared.command.Conflict.TheVariants.{Abort}
pub use Rattle.sqlite_schema.specs.declared.command.Returning.{Returning}
pub use Rattle.sqlite_schema.specs.declared.command.Source.TheVariants.{Values}
pub use Rattle.sqlite_schema.specs.declared.command.Upsert.{Upsert}
pub use Rattle.sqlite_schema.specs.declared.program.Program.{Program}
pub use Rattle.sqlite_schema.specs.declared.schema.Column.{Column}
pub use Rattle.sqlite_schema.specs.declared.schema.Constraint.{Constraint}
pub use Rattle.sqlite_schema.specs.declared.schema.Constraint.TheVariants.{Datatype, NotNull}
pub use Rattle.sqlite_schema.specs.declared.schema.Index.{Index}
pub use Rattle.sqlite_schema.specs.declared.schema.Keys.TheVariants.{Enforced}
pub use Rattle.sqlite_schema.specs.declared.schema.Reference.{Reference}
pub use Rattle.sqlite_schema.specs.declared.schema.Schema.{Schema}
pub use Rattle.sqlite_schema.specs.declared.schema.Table.{Table}
pub use Rattle.sqlite_sql.specs.Ops.{is_null}
pub use Rattle.sqlite_sql.specs.Program.{overlay}
pub use Rattle.sqlite_sql.specs.Query.{IsAnswer, Join, Output, end, inner, left, matches_as, output_cmp}
pub use Rattle.sqlite_sql.specs.Term.{Env, Term, col, eval_all, holds, lit, op2}
pub use Rattle.sqlite_sql.specs.declared.ops.BinaryOp.TheVariants.{Compare}
pub use Rattle.sqlite_sql.specs.declared.ops.CompareOp.TheVariants.{Eq, Ne}
unfoldable pub use Rattle.sqlite_tied.specs.Compute.{everything}
pub use Rattle.sqlite_trees.specs.Tree.{IsAscending, Trees, has_rowid, put_row, rowid}
pub use Rattle.sqlite_trees.specs.declared.error.StoreError.{StoreError}
pub use Rattle.sqlite_typed.proofs.TestLemmas.{at_blobs, at_ints, at_texts, last_term}
unfoldable pub use Rattle.sqlite_value.specs.Keys.{first_key, joined}
pub use Rattle.sqlite_value.specs.Keys.{plain}
unfoldable pub use Rattle.sqlite_value.specs.Order.{value_cmp}
pub use Rattle.sqlite_value.specs.Order.{Row, bytes, column}
pub use Rattle.sqlite_value.specs.declared.keys.Collation.TheVariants.{Binary}
pub use Rattle.sqlite_value.specs.declared.keys.Key.{Key}
pub use Rattle.sqlite_value.specs.declared.keys.Order.{Order}
pub use Rattle.sqlite_value.specs.declared.value.Value.{Value}
pub use Rattle.sqlite_value.specs.declared.value.Value.TheVariants.{Blob, Int, Null, Real, Text}
pub use Rattle.std.proofs.Common.{All, Bool, Err, IsPermutation, IsSome, IsSorted, IsTrue, List, None, Ok, Option, Some, [], ap, append-nil}
pub use Rattle.std.proofs.Common.{ap₂, arith, codes, cond, drop, false, filter, find, flat_map, inl, inr, int_eq, length, map, not}
pub use Rattle.std.proofs.Common.{option_map, pos, refl, slice_get, slice_index_or, subst, subst₂, suc, sym, true, true≢false, zero, ℕ, ℤ}
pub use Rattle.std.proofs.Common.{◌&&◌, ◌++◌, ◌+◌, ◌/◌, ◌==◌, ◌||◌, ◌∙◌, ◌∷◌, ◌≡◌, ◌≢◌, ◌≤◌, ◌⊎◌}
pub use Rattle.std.proofs.lemmas.Cmp.{eq_by_cmp_equiv, nat_list_cmp_total}
pub use Rattle.std.proofs.lemmas.Int.{ints}
pub use Rattle.std.proofs.lemmas.List.Sorted.{All-permutation, IsPermutation-cons, IsPermutation-map, IsPermutation-middle}
pub use Rattle.std.proofs.lemmas.List.Sorted.{IsPermutation-refl, IsPermutation-sym, IsPermutation-trans, list_any-IsPermutation}
pub use Rattle.std.proofs.lemmas.Map.Lookups.{exact_bytes}
pub use Rattle.std.proofs.lemmas.Map.Text.{is_eq-slice_cmp}
pub use Rattle.std.proofs.lemmas.Slice.Eq.{bytes_eq-Decides}
pub use Rattle.std.specs.Cmp.{IsTotalOrder}
pub use Rattle.std.specs.FinMap.{FinMap, IsAntisymmetric, entries, get, get-retain_keys, insert, remove, retain_keys, same_map}
unfoldable pub use Rattle.std.specs.Fmt.{digits}
pub use Rattle.std.specs.List.{AllByRecursion, filter_map, list_all, list_any}
pub use Rattle.std.specs.Ordering.{eq_by_cmp, is_eq, match_ordering}
pub use Rattle.std.specs.Prelude.{MatchBool, bytes_eq}
pub use Rattle.std.specs.declared.cmp.Ordering.{Ordering}
pub use Rattle.std.specs.declared.cmp.Ordering.TheVariants.{Equal, Greater, Less}
