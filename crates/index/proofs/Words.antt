-- The names that proofs of this crate take from elsewhere, from one place.
pub use Rattle.index.specs.Agree.{ClientGot}
pub use Rattle.index.specs.Causes.{SchemaHasCause, cause_of_calls, cause_of_lengths}
pub use Rattle.index.specs.Chains.{Carries, ComesByRun, ComesByRuns, CreatedRun, InitRun, KeepsSome, LeadTo, LeadsOn, Run, UnusedRun}
pub use Rattle.index.specs.Chains.{WorkRun, leading_to}
pub use Rattle.index.specs.Ends.{closing_of, end_by, end_of, end_of_error, end_of_fault, end_of_report, end_of_serving, is_fault_end}
pub use Rattle.index.specs.Ends.{is_store}
pub use Rattle.index.specs.InVolume.{HoldsPlaced, HoldsPlacedAlone, IsLeftPair, IsNextOf, IsNextPair, Pair, in_volume}
pub use Rattle.index.specs.Jobs.{ComesOfInit, ComesOfRun, IsStatusOf, JobEnds, JobEndsBy}
pub use Rattle.index.specs.Keeping.{FindsAgain, FindsOnly, Keeping}
pub use Rattle.index.specs.Openings.{AreAsFound, CleanShutLeaves, HoldsOnly, HoldsSome, IsBadFirstUserByHex, IsCleanClosed, IsOpenedOn}
pub use Rattle.index.specs.Openings.{IsToldOf, IsUnfound, IsUnmade, IsWhyNoDatabase, IsWhyUnfound, IsWhyUnmade, IsWhyUnused, OpensAgain}
pub use Rattle.index.specs.Openings.{UnusedLeaves, cause_of_files, cause_of_store}
pub use Rattle.index.specs.Pairs.{ComesByVolume, WorksOver, placed_side}
pub use Rattle.index.specs.Printed.{escaped_char}
pub use Rattle.index.specs.Refuted.{HoldsNoIndex}
pub use Rattle.index.specs.Runs.{CrashLeavesOnlyTables, Created, CreatedInLog, Holds, HoldsCurrent, HoldsNone, InitEndsOnFiles, Interrupted}
pub use Rattle.index.specs.Runs.{IsMadeNew, Ran, RunEndsOnFiles, in_files}
pub use Rattle.index.specs.Tasks.{AnswerConnections, AnswerLines, AreAmong, CountWrong, Does, DoesInPart, Done, DoneExchanges, DoneLines}
pub use Rattle.index.specs.Tasks.{DoneLook, IsDone, IsDoneInPart, IsNoListening, IsServingEnd, Task, TaskEnds, WasDone, WasDoneInPart}
pub use Rattle.index.specs.Tasks.{Works, WriteReport}
pub use Rattle.index.specs.declared.cause.Cause.{Cause}
pub use Rattle.index.specs.declared.database.Finished.{Finished}
pub use Rattle.index.specs.declared.database.Left.{Left}
pub use Rattle.index.specs.declared.database.Left.TheVariants.{Shut}
pub use Rattle.index.specs.declared.database.Unclosed.{Unclosed}
pub use Rattle.index.specs.declared.database.Unused.{Unused}
pub use Rattle.index.specs.declared.end.End.{End}
pub use Rattle.index.specs.declared.end.End.TheVariants.{Open}
pub use Rattle.index_args.specs.declared.job.Job.{Job}
pub use Rattle.index_cli.proofs.Choices.{LinesEnd-choice}
pub use Rattle.index_cli.proofs.FilesServed.{itself}
pub use Rattle.index_cli.specs.Connections.{AddsReply, Came, ClientTaken, Closed, Exchange, IsUnsent, KnownList, KnownReplies, SentReply}
pub use Rattle.index_cli.specs.Connections.{StreamFaults, no_faults}
pub use Rattle.index_cli.specs.Ends.{LinesEnd}
pub use Rattle.index_cli.specs.Lines.{lines_of, longest_line}
pub use Rattle.index_cli.specs.Telling.{TextAnswersLines, TextAnswersParsedLine}
pub use Rattle.index_cli.specs.declared.end.LineEnd.{LineEnd}
pub use Rattle.index_cli.specs.declared.end.ServeEnd.{ServeEnd}
pub use Rattle.index_desk.specs.ByRules.{StandsAfter}
pub use Rattle.index_desk.specs.Crashes.{HasCall}
pub use Rattle.index_desk.specs.Looks.{LeavesTables}
pub use Rattle.index_desk.specs.Rules.{Rules, by_history, by_tables}
pub use Rattle.index_desk.specs.Takes.{Takes}
pub use Rattle.index_desk.specs.declared.desk.report.ReportFault.{ReportFault}
unfoldable pub use Rattle.index_digest.specs.Digest.{read_digest, sha256}
pub use Rattle.index_http.specs.Ends.{ReplyEnds}
pub use Rattle.index_http.specs.Exchanges.{MessageGetsText}
unfoldable pub use Rattle.index_http.specs.Replies.{head_text, message_reply, reply_head}
pub use Rattle.index_http.specs.Replies.{reply_text}
pub use Rattle.index_http.specs.Shows.{GivesMessage, asks_page}
pub use Rattle.index_http.specs.Steps.{SinkStep, to_sink}
pub use Rattle.index_http.specs.declared.connection.IoEnd.{IoEnd}
unfoldable pub use Rattle.index_json.specs.AnswerText.{answer_text_of, bad_body_text}
unfoldable pub use Rattle.index_json.specs.StandingText.{standing_text_of}
pub use Rattle.index_json.specs.declared.line.Line.{Line}
pub use Rattle.index_message.specs.Heads.{HasHead, HasNoHead}
pub use Rattle.index_message.specs.Messages.{IsMessage, begins_with_head}
pub use Rattle.index_message.specs.declared.fault.MessageFault.TheVariants.{BadHead}
pub use Rattle.index_message.specs.declared.message.Message.{Message}
pub use Rattle.index_message.specs.declared.message.Message.TheVariants.{Faulty, Whole}
pub use Rattle.index_rules.specs.Facts.{HasOneBearer}
pub use Rattle.index_rules.specs.FirstTables.{IsBadFirstUser, first_tables}
pub use Rattle.index_rules.specs.History.{History}
pub use Rattle.index_rules.specs.Laws.{IsFrontOf}
pub use Rattle.index_rules.specs.Legal.{IsLegal, history_after}
pub use Rattle.index_rules.specs.Maps.{Bytes}
pub use Rattle.index_rules.specs.StandsFor.{StandsFor}
pub use Rattle.index_rules.specs.Tables.{Tables}
unfoldable pub use Rattle.index_rules.specs.Users.{read_user}
pub use Rattle.index_rules.specs.declared.answer.Answer.{Answer}
pub use Rattle.index_rules.specs.declared.answer.Answer.TheVariants.{Accepted, Already, Refused}
pub use Rattle.index_rules.specs.declared.answer.Fault.{Fault}
pub use Rattle.index_rules.specs.declared.answer.Fault.TheVariants.{Store}
pub use Rattle.index_rules.specs.declared.call.Call.{Call}
pub use Rattle.index_rules.specs.declared.open.OpenFault.{OpenFault}
pub use Rattle.index_rules.specs.declared.open.OpenFault.TheVariants.{BadFirstUser, OtherVersion, OutOfMemory}
pub use Rattle.index_sql_opening.specs.Names.{has_any_of}
pub use Rattle.index_sql_reads.specs.ConnectionTables.{tables_of}
pub use Rattle.index_sql_schema.specs.Records.{tables_in}
pub use Rattle.index_sql_schema.specs.Schema.{index_schema}
pub use Rattle.index_tables.specs.Adopted.{IsCommitted, IsCurrent, IsFound, IsRaised}
pub use Rattle.index_tables.specs.BooksState.{AreCurrent, BooksState, IsHonest, IsWorking, Leaves}
pub use Rattle.index_tables.specs.Opened.{AreNew, IsCreated}
pub use Rattle.index_tables.specs.Placed.{TakesPlaced}
pub use Rattle.index_tables.specs.Reopened.{MayLeave}
pub use Rattle.index_tables.specs.declared.opening.Unopened.{Unopened}
pub use Rattle.index_volume_books.specs.Over.{Fits, over}
pub use Rattle.sqlite.proofs.Theorems.{opens_again}
pub use Rattle.sqlite.specs.Closing.{HoldsAlone, IsCopied}
pub use Rattle.sqlite.specs.Effect.{Database}
pub use Rattle.sqlite.specs.Files.{AreFoundIn, FailsToOpenFiles, HoldsDatabase, IsClosed, IsNothing, IsOpened, LeavesFiles, file_state}
pub use Rattle.sqlite.specs.Files.{image_of, over_files}
pub use Rattle.sqlite.specs.Held.{Held, state}
pub use Rattle.sqlite.specs.Recovery.{Image}
pub use Rattle.sqlite.specs.Start.{FindsIn}
pub use Rattle.sqlite.specs.State.{HasCleanDisk}
pub use Rattle.sqlite.specs.Tree.{Trees}
pub use Rattle.sqlite.specs.WalFiles.{image_at}
pub use Rattle.sqlite.specs.WalReads.{AreClean, tally_of_files}
pub use Rattle.sqlite.specs.declared.FileStore.{FileStore}
pub use Rattle.sqlite.specs.declared.error.Error.{Error}
pub use Rattle.sqlite.specs.declared.file.Leftover.{Leftover}
pub use Rattle.sqlite_disk.specs.Events.{Event, replay}
pub use Rattle.sqlite_disk.specs.Tally.{both_counts}
pub use Rattle.sqlite_disk.specs.declared.Disk.{Ghosts}
pub use Rattle.sqlite_disk.specs.declared.Files.{Files}
pub use Rattle.sqlite_disk.specs.declared.tally.Tally.{Tally}
pub use Rattle.sqlite_schema.specs.declared.schema.Schema.{Schema}
pub use Rattle.sqlite_store.specs.FileStore.{files}
pub use Rattle.sqlite_trees.specs.Props.{Trees-set}
pub use Rattle.sqlite_trees.specs.View.{IsClean}
pub use Rattle.std.proofs.Common.{Bool, Err, IfErr, IfOk, IsTrue, List, None, Ok, Option, Result, Some, [], ap, append-nil, ap₂, arith}
pub use Rattle.std.proofs.Common.{codes, cond, drop, false, flat_map, if◌then◌else◌, inl, inr, length, length-append, nat_le, refl, rules}
pub use Rattle.std.proofs.Common.{subst, subst₂, suc, sym, take, true, true≢false, ℕ, ◌&&◌, ◌++◌, ◌+◌, ◌<◌, ◌==◌, ◌∙◌, ◌∷◌, ◌≡◌, ◌≤◌, ◌⊎◌}
pub use Rattle.std.proofs.Math.Logic.{∥∥₁_elim, ∥∥₁_map}
pub use Rattle.std.proofs.lemmas.Bool.{cases_Bool}
pub use Rattle.std.proofs.lemmas.List.{append_cancel_left}
pub use Rattle.std.proofs.lemmas.Option.{IfSome_then}
pub use Rattle.std.proofs.lemmas.Result.{IfErr-weaker, IfOk-weaker}
pub use Rattle.std.specs.FinMap.{get}
pub use Rattle.std.specs.Io.KnownBytes.{Appends, Keeps}
pub use Rattle.std.specs.Prelude.{Contains, IsErrAnd, is_ok, is_some, ◌↔◌}
pub use Rattle.std.specs.declared.process.ExitCode.{ExitCode}
