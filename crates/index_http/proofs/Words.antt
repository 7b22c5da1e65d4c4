-- The names that proofs of this crate take from elsewhere, from one place.
pub use Rattle.index_desk.proofs.LeavesLemmas.{leaves_none, leaves_on, look_leaves}
pub use Rattle.index_desk.specs.Crashes.{Lasts}
pub use Rattle.index_desk.specs.Projects.{WalksProject, project_rows_in}
pub use Rattle.index_desk.specs.Rules.{by_tables}
pub use Rattle.index_http.specs.Ends.{IsFaultReply, ReplyEnds}
pub use Rattle.index_http.specs.Exchanges.{Acts, InputGetsText, MessageGetsText, ShowsFile, ShowsName, ShowsPath, ShowsProject}
pub use Rattle.index_http.specs.Exchanges.{ShowsResource, ShowsRoot, ShowsRows, ShowsSpelling, call_of, store_reply}
pub use Rattle.index_http.specs.PagePasses.{IsOpen, MeasuresPage, WritesPageText, fault_of}
pub use Rattle.index_http.specs.PageShows.{PageShown}
unfoldable pub use Rattle.index_http.specs.Replies.{answer_reply, head_text, reply_head}
pub use Rattle.index_http.specs.Replies.{Reply, page_reply, reply_text}
pub use Rattle.index_http.specs.Sends.{SendsLessThanText, SendsText}
pub use Rattle.index_http.specs.Shows.{IsTextOfLook, LookEnds, LookFails}
pub use Rattle.index_http.specs.Steps.{SinkStep, at_desk}
pub use Rattle.index_http.specs.declared.connection.IoEnd.{IoEnd}
pub use Rattle.index_http.specs.declared.connection.IoEnd.TheVariants.{Cut, OutOfMemory, ReadFault, WriteFault}
pub use Rattle.index_io.specs.Counts.{HasFailed}
pub use Rattle.index_message.specs.Fields.{Field}
pub use Rattle.index_message.specs.Messages.{IsMessage}
pub use Rattle.index_message.specs.Requests.{HttpRequest}
pub use Rattle.index_message.specs.Resources.{is_head, is_put, is_reading}
pub use Rattle.index_message.specs.declared.message.Message.{Message}
pub use Rattle.index_message.specs.declared.message.Message.TheVariants.{Faulty, Whole}
pub use Rattle.index_message.specs.declared.resource.Resource.{Resource}
unfoldable pub use Rattle.index_names.specs.FileName.{read_file_name}
unfoldable pub use Rattle.index_names.specs.Project.{read_name}
pub use Rattle.index_pages.specs.Ends.{most_bytes}
pub use Rattle.index_pages.specs.Pages.{project_page_of, root_page_of}
pub use Rattle.index_pages.specs.States.{PageStops, PageTakes, state_of}
pub use Rattle.index_pages.specs.declared.served.Served.{Served}
pub use Rattle.index_rules.specs.Maps.{Bytes}
pub use Rattle.index_rules.specs.StoreFaults.{CountsStoreFault}
pub use Rattle.index_rules.specs.TableRows.{held_rows_in}
pub use Rattle.index_rules.specs.Tables.{Tables}
pub use Rattle.index_rules.specs.Walks.{Walks, has_fault}
pub use Rattle.index_rules.specs.declared.answer.Answer.{Answer}
pub use Rattle.index_rules.specs.declared.answer.Fault.{Fault}
pub use Rattle.index_rules.specs.declared.answer.Fault.TheVariants.{Store}
pub use Rattle.index_rules.specs.declared.books.Books.{Ghosts}
pub use Rattle.index_rules.specs.declared.call.Call.{Call}
pub use Rattle.index_rules.specs.declared.records.NameRecord.{NameRecord}
pub use Rattle.index_rules.specs.declared.records.NameRecord.TheVariants.{Held, Prohibited}
pub use Rattle.index_rules.specs.declared.rows.FileRow.{FileRow}
pub use Rattle.index_rules.specs.declared.rows.NameRow.{NameRow}
pub use Rattle.std.proofs.Common.{Bool, Bor, Err, List, None, Ok, Option, Result, Some, [], ap, append-nil, append_assoc, arith, false, inl}
pub use Rattle.std.proofs.Common.{inr, length, length-append, refl, rules, subst, suc, sym, take, true, zero, ℕ, ◌++◌, ◌+◌, ◌<◌, ◌∙◌, ◌∷◌}
pub use Rattle.std.proofs.Common.{◌≡◌, ◌≤◌, ◌⊎◌}
pub use Rattle.std.proofs.lemmas.List.{append_cancel_left}
pub use Rattle.std.specs.Io.KnownBytes.{Appends, Keeps}
pub use Rattle.std.specs.List.{flat_map}
pub use Rattle.std.specs.Prelude.{bytes_eq, if◌then◌else◌, is_err, option_map}
