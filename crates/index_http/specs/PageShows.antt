-- A page is sent as a head, which has its length, and then its text.
use Rattle.std.specs.Prelude.{◌≡◌, ℕ, ◌+◌, Option, Some, None, min, Result, Ok, Err}
use Rattle.index_io.specs.Counts.{last_count}
use Rattle.index_rules.specs.Maps.{Bytes}
use Rattle.index_rules.specs.declared.answer.Refusal.TheVariants.{NoProject}
use Rattle.index_pages.specs.declared.served.Served.{Served}
use Rattle.index_http.specs.Exchanges.{ShowsPage, refusal_reply}
use Rattle.index_http.specs.Replies.{Reply}
use Rattle.index_http.specs.declared.connection.IoEnd.{IoEnd}
use Rattle.index_http.specs.declared.connection.IoEnd.TheVariants.{ReadFault, OutOfMemory}
use Rattle.index_http.specs.declared.connection.IoEnd.TheVariants.{WriteFault, Cut}

-- the reply with a page, or that there is none
abbrev pub PageShown : Served → Option Bytes → Reply → Type 0
PageShown served None reply = reply ≡ refusal_reply NoProject
PageShown served (Some page) reply = ShowsPage served page reply

-- The end of a reply, from the end of its body. `head` is the number of bytes that were sent before
-- the body.
abbrev pub end_after_head : ℕ → IoEnd → IoEnd
end_after_head head ReadFault = ReadFault
end_after_head head OutOfMemory = OutOfMemory
end_after_head head (WriteFault count) = WriteFault (min (head + count) last_count)
end_after_head head (Cut count) = Cut (min (head + count) last_count)

-- `end_after_head` of the body's result
abbrev pub after_head : ℕ → Result (Unit {0}) IoEnd → Result (Unit {0}) IoEnd
after_head head (Ok done) = Ok done
after_head head (Err end) = Err (end_after_head head end)
