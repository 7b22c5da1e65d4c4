-- The names that proofs of this crate take from elsewhere, from one place.
unfoldable pub use Rattle.index_digest.specs.Digest.{read_digest, sha256}
pub use Rattle.index_io.specs.Counts.{FailsAtMostOnce, HasFailed}
unfoldable pub use Rattle.index_names.specs.FileName.{read_file_name}
pub use Rattle.index_names.specs.FileName.{Spelled, project_of, release_of}
unfoldable pub use Rattle.index_names.specs.Project.{read_name}
unfoldable pub use Rattle.index_names.specs.Release.{read_release}
pub use Rattle.index_retention.proofs.TallyLemmas.{attempts_are_counted}
unfoldable pub use Rattle.index_retention.specs.Attempts.{tally_of}
pub use Rattle.index_retention.specs.Attempts.{Attempt, attempt_of}
pub use Rattle.index_retention.specs.declared.attempts.CaseKind.{CaseKind}
pub use Rattle.index_rules.specs.Effect.{as_deleted, as_deleted_of, effect, is_file_of, no_case, no_file, no_project, no_user, or_empty}
pub use Rattle.index_rules.specs.Effect.{tables_with_call, the_file, the_user, with_file, with_project, without_file, without_name}
pub use Rattle.index_rules.specs.Facts.{Facts, HasOneBearer, at_both, bearer_in, caller_of, facts_in, has_release_in, is_banned_in}
pub use Rattle.index_rules.specs.Facts.{is_undeleted_of_release, of_both, owns_alone_in, owns_in, yank_in}
pub use Rattle.index_rules.specs.FirstTables.{first_record, first_tables}
pub use Rattle.index_rules.specs.History.{Entry, History, begins, is_read_as, more}
pub use Rattle.index_rules.specs.Laws.{HasUpload, IsUploadOf, history_of_name, is_kept, may_move_owners}
pub use Rattle.index_rules.specs.Legal.{IsLegal, caller_after, facts_after, verdict_after}
pub use Rattle.index_rules.specs.Maps.{Bytes, Map, PairMap, Pairs, bytes_cmp, change_values, pair_cmp, same}
pub use Rattle.index_rules.specs.PastCases.{Case, candidate_after, case_after, case_by, is_owners_request, with_attempt}
pub use Rattle.index_rules.specs.PastFiles.{charge_after, first_upload_after, first_upload_by, has_release_after, is_banned_after}
pub use Rattle.index_rules.specs.PastFiles.{is_banned_by, is_charged_after, is_undeleted_after, is_undeleted_by, last_body_after}
pub use Rattle.index_rules.specs.PastFiles.{last_body_by, requires_after, size_after, undeleted_count_after, uploaded_files_after}
pub use Rattle.index_rules.specs.PastNames.{Free, Held, Prohibited, State, greatest, is_given_after, is_given_by, is_held_now}
pub use Rattle.index_rules.specs.PastNames.{last_upload_after, owns_after, owns_alone_after, quota_after, reason_after, receivers_after}
pub use Rattle.index_rules.specs.PastNames.{shown_after, state_after, state_by, uploads_after, yank_after}
pub use Rattle.index_rules.specs.PastUsers.{bearer_after, user_after, user_by, users_after, users_by, with_read, with_token}
pub use Rattle.index_rules.specs.Projects.{Project, first_quota}
pub use Rattle.index_rules.specs.Refusals.{number_of}
unfoldable pub use Rattle.index_rules.specs.Requests.{read_file}
pub use Rattle.index_rules.specs.Requests.{file_key, keys_of, name_key, release_key, token_key, user_key}
pub use Rattle.index_rules.specs.Rights.{HasOwnersUpload, ServesOwnersUploads, WasAllowed, has_right}
pub use Rattle.index_rules.specs.Runs.{Answers, Runs, tables_after}
pub use Rattle.index_rules.specs.Sound.{IsBodyOf, IsRecordOf, IsSound, charge_in, charged_size, is_undeleted_of, undeleted_count_in}
pub use Rattle.index_rules.specs.StandsFor.{StandsFor, body_after, case_record_after, file_after, file_of_upload, name_after, project_after}
pub use Rattle.index_rules.specs.StandsFor.{record_of_case, record_of_state}
pub use Rattle.index_rules.specs.Tables.{Tables}
unfoldable pub use Rattle.index_rules.specs.Texts.{read_token}
unfoldable pub use Rattle.index_rules.specs.Users.{read_user}
pub use Rattle.index_rules.specs.Verdict.{Accept, AlreadySo, applies, bears, exceeds_quota, held_project, is_already, is_held}
pub use Rattle.index_rules.specs.Verdict.{is_other_file, is_prohibited, is_taken, is_undeleted, last_moment, refusals_of, verdict_now}
pub use Rattle.index_rules.specs.Verdict.{verdict_of, verdict_on}
pub use Rattle.index_rules.specs.declared.answer.Answer.{Answer}
pub use Rattle.index_rules.specs.declared.answer.Answer.TheVariants.{Accepted, Already, Fault, Refused}
pub use Rattle.index_rules.specs.declared.answer.Refusal.{Refusal}
pub use Rattle.index_rules.specs.declared.answer.Refusal.TheVariants.{BadDigest, BadFileName, BadMoment, BadName, BadRelease, BadText}
pub use Rattle.index_rules.specs.declared.answer.Refusal.TheVariants.{BadToken, BadUser, CaseOpen, DigestMismatch, FileBanned}
pub use Rattle.index_rules.specs.declared.answer.Refusal.TheVariants.{FileNameTaken, FilesRemain, HomePageActive, LastOwner, NameHeld}
pub use Rattle.index_rules.specs.declared.answer.Refusal.TheVariants.{NameProhibited, NoCase, NoFile, NoProject, NoRelease, NoUser}
pub use Rattle.index_rules.specs.declared.answer.Refusal.TheVariants.{NotOffice, NotOwner, OverQuota, QuotaBelowCharge, QuotaTooLarge}
pub use Rattle.index_rules.specs.declared.answer.Refusal.TheVariants.{RecentRelease, TokenTaken, TooEarly, TooFewAttempts, TooLarge}
pub use Rattle.index_rules.specs.declared.answer.Refusal.TheVariants.{UserExists}
pub use Rattle.index_rules.specs.declared.call.Call.{Call}
pub use Rattle.index_rules.specs.declared.call.Request.{Request}
pub use Rattle.index_rules.specs.declared.call.Request.TheVariants.{AddOwner, AddUser, Allow, AnswerCase, BanFile, Claim, CloseCase, Delete}
pub use Rattle.index_rules.specs.declared.call.Request.TheVariants.{OpenCase, Prohibit, RecordAttempt, Relinquish, RemoveOwner, SetQuota}
pub use Rattle.index_rules.specs.declared.call.Request.TheVariants.{SetToken, Transfer, Unyank, Upload, Yank}
pub use Rattle.index_rules.specs.declared.records.CaseRecord.{CaseRecord}
pub use Rattle.index_rules.specs.declared.records.FileRecord.{FileRecord}
pub use Rattle.index_rules.specs.declared.records.NameRecord.{NameRecord}
pub use Rattle.index_rules.specs.declared.records.UserRecord.{UserRecord}
pub use Rattle.std.proofs.Common.{Bool, List, None, Option, Some, T, [], ap, arith, cond, false, find, inl, inr, is_none, is_some, length}
pub use Rattle.std.proofs.Common.{map, not, option_and_then, option_map, refl, subst, sum_by, sym, true, unwrap_or, ℕ, ◌&&◌, ◌++◌, ◌+◌}
pub use Rattle.std.proofs.Common.{◌==◌, ◌||◌, ◌∙◌, ◌∷◌, ◌≡◌, ◌≤◌, ◌⊎◌}
pub use Rattle.std.proofs.Math.Bool.{and-false, and-true}
pub use Rattle.std.proofs.lemmas.Bool.{and_from, and_parts, and_right, cases_Bool, eq-eqb, eqb-true, false≢true, ltb-false, not-false}
pub use Rattle.std.proofs.lemmas.Bool.{not_from_false, not_from_true, or_cases, or_left, or_parts, or_right, true≢false}
pub use Rattle.std.proofs.lemmas.Bool.Decides.{nat_tests}
pub use Rattle.std.proofs.lemmas.Cmp.{nat_list_cmp_total}
pub use Rattle.std.proofs.lemmas.List.Sums.{sum_by-cons}
pub use Rattle.std.proofs.lemmas.Map.Lookups.{exact_bytes}
pub use Rattle.std.proofs.lemmas.Map.Text.{is_eq-slice_cmp}
pub use Rattle.std.proofs.lemmas.Slice.Eq.{bytes_eq-Decides}
pub use Rattle.std.specs.Cmp.{IsTotalOrder}
pub use Rattle.std.specs.FinMap.{IsAntisymmetric, contains_key, contains_key-keys, empty, entries, entries_sorted, get, get-empty}
pub use Rattle.std.specs.FinMap.{get-entries, insert, is_sorted, keys, remove, retain_keys, same_map}
pub use Rattle.std.specs.FinMap.Entries.{below_all}
pub use Rattle.std.specs.List.{AllByRecursion, list_all, list_any}
unfoldable pub use Rattle.std.specs.List.Sorted.{IsStrictlySortedBy}
pub use Rattle.std.specs.Option.{option_map_or, option_or}
pub use Rattle.std.specs.Ordering.{eq_by_cmp, is_eq, is_lt}
pub use Rattle.std.specs.Prelude.{nat_lt}
pub use Rattle.std.specs.Str.{IsUtf8}
pub use Rattle.std.specs.declared.cmp.Ordering.{Ordering}
pub use Rattle.std.specs.declared.cmp.Ordering.TheVariants.{Equal, Greater, Less}
