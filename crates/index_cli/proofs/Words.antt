-- The names that proofs of this crate take from elsewhere, from one place.
pub use Rattle.index_cli.specs.Causes.{HaveCounted, HaveFailed, LinesReportFaults}
pub use Rattle.index_cli.specs.Connections.{AreOn, Exchange, no_faults}
pub use Rattle.index_cli.specs.DeskAnswers.{DeskAnswersConnections}
pub use Rattle.index_cli.specs.Ends.{AllLinesAreAnswered, LineIsPartlyAnswered, LinesBeforeAreAnswered, LinesEnd, Telling}
pub use Rattle.index_cli.specs.LineCalls.{AsksKept, AsksLine, AsksOf}
pub use Rattle.index_cli.specs.Lines.{Charges, PartIsTaken, TakesLine, line_feed, longest_line}
pub use Rattle.index_cli.specs.LinesWent.{AcceptNone, Answered, BeginsByFault, LinesMayHaveMade, LinesWent, lines_in, text_by}
pub use Rattle.index_cli.specs.Replies.{KeptLineIsAnswered}
pub use Rattle.index_cli.specs.Serving.{AsksOne, DeskAnswersExchange, EndHasCause, ExchangeIsAnswered, ExchangesAreAnswered}
pub use Rattle.index_cli.specs.Telling.{IsFaultText, TextAnswersLine, TextAnswersLines, TextAnswersParsedLine}
pub use Rattle.index_cli.specs.Waiting.{AddsBehind}
pub use Rattle.index_cli.specs.Went.{AcceptsNothing, BeginsByFailure, MayHaveMade, Went}
pub use Rattle.index_cli.specs.declared.end.LineEnd.{LineEnd}
pub use Rattle.index_cli.specs.declared.end.LineEnd.TheVariants.{ReadFault, WriteFault}
pub use Rattle.index_desk.proofs.InvariantLemmas.{keeps_on, looks_keep}
pub use Rattle.index_desk.proofs.LeavesLemmas.{leaves_none}
pub use Rattle.index_desk.specs.ByRules.{StandsAfter}
pub use Rattle.index_desk.specs.Crashes.{AnswerLeavesTables, CallsLeave, HasCall}
pub use Rattle.index_desk.specs.Invariants.{KeepsInvariants}
pub use Rattle.index_desk.specs.Looks.{LeavesTables, NeverFalls}
pub use Rattle.index_desk.specs.Rules.{Rules, by_history, by_tables}
pub use Rattle.index_desk.specs.Takes.{Takes, answers_fault}
pub use Rattle.index_http.specs.Asks.{Asks, AsksFor}
pub use Rattle.index_http.specs.Ends.{ReplyEnds}
pub use Rattle.index_http.specs.Exchanges.{Acts, InputGetsText, MessageGetsText}
pub use Rattle.index_http.specs.Replies.{Reply, reply_text}
pub use Rattle.index_http.specs.Shows.{asks_page}
pub use Rattle.index_http.specs.Steps.{DeskStep, at_desk}
pub use Rattle.index_http.specs.declared.connection.IoEnd.{IoEnd}
pub use Rattle.index_http.specs.declared.connection.IoEnd.TheVariants.{Cut, OutOfMemory}
pub use Rattle.index_io.specs.Bytes.{IsInput}
pub use Rattle.index_io.specs.Counts.{HasFailed}
unfoldable pub use Rattle.index_json.specs.AnswerText.{answer_text_of}
unfoldable pub use Rattle.index_json.specs.Line.{line_of}
pub use Rattle.index_json.specs.declared.line.Line.{Line}
pub use Rattle.index_message.specs.Requests.{HttpRequest}
pub use Rattle.index_message.specs.declared.message.Message.{Message}
pub use Rattle.index_message.specs.declared.message.Message.TheVariants.{Faulty, Whole}
unfoldable pub use Rattle.index_names.specs.Project.{read_name}
pub use Rattle.index_rules.proofs.StandsOn.{CarriesOn-answer, sound_when_legal}
pub use Rattle.index_rules.specs.Facts.{HasOneBearer}
pub use Rattle.index_rules.specs.History.{History}
pub use Rattle.index_rules.specs.Legal.{IsLegal, history_after}
pub use Rattle.index_rules.specs.Maps.{Bytes}
pub use Rattle.index_rules.specs.Runs.{Answers, tables_after}
pub use Rattle.index_rules.specs.StandsFor.{StandsFor}
pub use Rattle.index_rules.specs.Tables.{Tables}
pub use Rattle.index_rules.specs.Verdict.{Accept, verdict_now}
pub use Rattle.index_rules.specs.declared.answer.Answer.{Answer}
pub use Rattle.index_rules.specs.declared.answer.Answer.TheVariants.{Accepted, Already, Fault, Refused}
pub use Rattle.index_rules.specs.declared.books.Books.{Ghosts}
pub use Rattle.index_rules.specs.declared.call.Call.{Call}
pub use Rattle.std.proofs.Common.{Bool, Contains, Err, List, None, Ok, Option, Result, Some, [], ap, append-nil, append_assoc, arith, cond}
pub use Rattle.std.proofs.Common.{false, inl, inr, length, length-append, nat_lt, ne_eqb, refl, rules, subst, sym, take, take_all, true, ℕ}
pub use Rattle.std.proofs.Common.{◌++◌, ◌+◌, ◌<◌, ◌∙◌, ◌∷◌, ◌≡◌, ◌≢◌, ◌≤◌, ◌⊎◌}
pub use Rattle.std.proofs.lemmas.Bool.{cases_lt}
pub use Rattle.std.proofs.lemmas.Result.{IfOk-weaker}
pub use Rattle.std.specs.Io.KnownBytes.{Consumes, IsAtEnd}
pub use Rattle.std.specs.Prelude.{IfSome}
