-- The names that proofs of this crate take from elsewhere, from one place.
pub use Rattle.index_desk.specs.Bodies.{AreBytesOf}
pub use Rattle.index_desk.specs.Checks.{is_charged_wrong_in, wrong_charges_in}
pub use Rattle.index_desk.specs.Crashes.{AnswerLeavesTables, CallsLeave, HasCall, LastsAll}
pub use Rattle.index_desk.specs.Invariants.{KeepsInvariants}
pub use Rattle.index_desk.specs.Looks.{LeavesTables, ReadsTables}
pub use Rattle.index_desk.specs.PastRows.{AreHeldRowsAfter, AreProjectRowsAfter, file_row_after}
pub use Rattle.index_desk.specs.Projects.{project_rows_in}
pub use Rattle.index_desk.specs.Rules.{by_history, by_tables}
pub use Rattle.index_desk.specs.Standings.{IsStandingAfter}
pub use Rattle.index_desk.specs.Takes.{Takes}
pub use Rattle.index_io.specs.Counts.{HasFailed}
pub use Rattle.index_names.specs.FileName.{project_of}
pub use Rattle.index_rules.proofs.KeyLemmas.{same-refl}
pub use Rattle.index_rules.proofs.OneBearer.{HasOneBearer-tables_after}
pub use Rattle.index_rules.proofs.OwnerLists.{same-is}
pub use Rattle.index_rules.proofs.PastWords.{undeleted_known}
pub use Rattle.index_rules.proofs.StandsOn.{CarriesOn-answer}
pub use Rattle.index_rules.specs.Facts.{HasOneBearer}
pub use Rattle.index_rules.specs.History.{History}
pub use Rattle.index_rules.specs.Legal.{IsLegal}
pub use Rattle.index_rules.specs.Maps.{Bytes, bytes_cmp, same}
pub use Rattle.index_rules.specs.PastFiles.{first_upload_after, is_charged_after, is_undeleted_after, requires_after}
pub use Rattle.index_rules.specs.PastNames.{Free, Held, Prohibited, State, is_held_now, state_after}
pub use Rattle.index_rules.specs.Runs.{Runs, tables_after}
pub use Rattle.index_rules.specs.Sound.{IsSound, charge_in, is_undeleted_of}
pub use Rattle.index_rules.specs.StandsFor.{StandsFor, file_of_upload, project_after, record_of_state}
pub use Rattle.index_rules.specs.StoreFaults.{CountsStoreFault}
pub use Rattle.index_rules.specs.TableRows.{file_row_in, file_rows_in, held_rows_in, is_held_row, name_row}
pub use Rattle.index_rules.specs.Tables.{Tables}
pub use Rattle.index_rules.specs.Verdict.{is_held}
pub use Rattle.index_rules.specs.declared.answer.Answer.{Answer}
pub use Rattle.index_rules.specs.declared.answer.Answer.TheVariants.{Accepted, Already, Fault, Refused}
pub use Rattle.index_rules.specs.declared.answer.Fault.TheVariants.{Store}
pub use Rattle.index_rules.specs.declared.books.Books.{Ghosts}
pub use Rattle.index_rules.specs.declared.call.Call.{Call}
pub use Rattle.index_rules.specs.declared.records.FileRecord.{FileRecord}
pub use Rattle.index_rules.specs.declared.records.NameRecord.{NameRecord}
pub use Rattle.index_rules.specs.declared.rows.FileRow.{FileRow}
pub use Rattle.std.proofs.Common.{Bool, Contains, List, None, Ok, Option, Result, Some, [], ap, arith, cond, count_by, false, filter, inl}
pub use Rattle.std.proofs.Common.{inr, is_some, map, not, option_map, refl, rules, subst, sum_by, sym, take, true, ℕ, ◌&&◌, ◌++◌, ◌+◌, ◌||◌}
pub use Rattle.std.proofs.Common.{◌∙◌, ◌∷◌, ◌≡◌, ◌≤◌, ◌⊎◌}
pub use Rattle.std.proofs.lemmas.Bool.{and_parts, false≢true}
pub use Rattle.std.proofs.lemmas.Grind.{common_steps}
pub use Rattle.std.proofs.lemmas.Result.{IfOk-weaker}
pub use Rattle.std.specs.FinMap.{entries, get}
pub use Rattle.std.specs.List.{AllByRecursion, list_any}
unfoldable pub use Rattle.std.specs.List.Sorted.{IsStrictlySortedBy}
pub use Rattle.std.specs.Option.{option_map_or}
