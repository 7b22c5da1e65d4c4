-- The names that proofs of this crate take from elsewhere, from one place.
pub use Rattle.index_sql_opening.specs.Created.{one_user}
pub use Rattle.index_sql_opening.specs.Migrated.{IsMigrating}
pub use Rattle.index_sql_opening.specs.NewAsks.{Unlimited, table_asks, text_ask}
pub use Rattle.index_sql_opening.specs.Versions.{first_number}
pub use Rattle.index_sql_schema.proofs.BanTable.{first_eight}
pub use Rattle.index_sql_schema.proofs.StayLemmas.{shown_open}
pub use Rattle.index_sql_schema.specs.CreateSteps.{IsStage, no_tables, stage}
pub use Rattle.index_sql_schema.specs.FirstVersion.{IsAnyVersion, first_version_schema, without_bans}
pub use Rattle.index_sql_schema.specs.Index.{same_meta}
pub use Rattle.index_sql_schema.specs.Schema.{index_schema}
pub use Rattle.index_sql_schema.specs.StatementTexts.{put_version_text, select_version_text, update_version_text}
pub use Rattle.index_sql_schema.specs.TableTexts.{bans_text, blobs_text, cases_text, files_text, meta_text, names_text, owners_text}
pub use Rattle.index_sql_schema.specs.TableTexts.{users_text, yanks_text}
unfoldable pub use Rattle.index_sql_writes.proofs.AskLemmas.{IsWrite}
pub use Rattle.index_sql_writes.proofs.InTurn.{makes_then}
pub use Rattle.index_sql_writes.proofs.StepAskLemmas.{at_exit, fails_inside, fails_to_commit}
pub use Rattle.index_sql_writes.proofs.StepLemmas.{makes}
pub use Rattle.index_sql_writes.proofs.TakenLemmas.{exits, steps_then}
pub use Rattle.index_sql_writes.specs.Statements.{put_user_ask}
pub use Rattle.index_sql_writes.specs.StepAsks.{FailsForRefusal}
pub use Rattle.index_sql_writes.specs.Transaction.{MakesInTransaction}
pub use Rattle.sqlite.proofs.Callers.{memory_is_clean}
pub use Rattle.sqlite.specs.Clock.{timed}
pub use Rattle.sqlite.specs.Held.{Held, state}
unfoldable pub use Rattle.sqlite.specs.Listing.{understood}
unfoldable pub use Rattle.sqlite.specs.State.{FailsToQuery, IsNotRun}
pub use Rattle.sqlite.specs.State.{ExecutesInside, FailsToShow, HasCleanDisk, State}
pub use Rattle.sqlite.specs.declared.error.Error.{Error}
pub use Rattle.sqlite_catalog.specs.Listing.{IsSound}
pub use Rattle.sqlite_keyed.proofs.ListLemmas.{all_weaker}
pub use Rattle.sqlite_schema.specs.declared.command.Returning.{Returning}
pub use Rattle.sqlite_schema.specs.declared.schema.Schema.{Schema}
pub use Rattle.sqlite_schema.specs.declared.schema.Table.{Table}
unfoldable pub use Rattle.sqlite_tied.specs.Compute.{everything}
pub use Rattle.sqlite_trees.specs.declared.store.Store.{Ghosts}
pub use Rattle.sqlite_value.specs.Order.{Row}
pub use Rattle.sqlite_value.specs.declared.value.Value.TheVariants.{Int}
pub use Rattle.std.proofs.Common.{Err, IsTrue, List, None, Ok, Option, Result, Some, [], ap, arith, false, inl, inr, length, pos, refl}
pub use Rattle.std.proofs.Common.{rules, subst, sym, true, true≢false, ℕ, ◌++◌, ◌∙◌, ◌∷◌, ◌≡◌, ◌≤◌, ◌⊎◌}
unfoldable pub use Rattle.std.specs.Fmt.{digits}
pub use Rattle.std.specs.List.{AllByRecursion}
