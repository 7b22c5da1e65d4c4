-- Wrong outcomes of calls, lines and replies that the contracts exclude.
use Rattle.std.specs.Prelude.{◌≡◌, ◌≢◌, ℕ, true, false, List, Ok, Err}
use Rattle.std.specs.Io.KnownBytes.{Appends}
use Rattle.index_io.specs.declared.sink.Sink.{Ghosts as Outs}
use Rattle.index_io.specs.declared.source.Source.{Ghosts as Ins}
use Rattle.index_cli.specs.Ends.{RunFailsOnly, WritesText}
use Rattle.index_desk.specs.Takes.{Settles, Takes, TakesInTurn}
use Rattle.index_http.specs.declared.connection.IoEnd.TheVariants.{Cut}
use Rattle.index_http.specs.Sends.{ReplyFailsOnly, SendsBytes, StreamFailsOnly}
use Rattle.index_http.specs.Steps.{to_sink}
use Rattle.index_message.specs.Reads.{from_source}
use Rattle.index_rules.specs.declared.answer.Answer.{Answer}
use Rattle.index_rules.specs.declared.answer.Answer.TheVariants.{Accepted}
use Rattle.index_rules.specs.declared.books.Books.{Ghosts}
use Rattle.index_rules.specs.declared.call.Call.{Call}
use Rattle.index_rules.specs.Facts.{HasOneBearer}
use Rattle.index_rules.specs.Maps.{Bytes}
use Rattle.index_rules.specs.Runs.{Answers, Runs, tables_after}
use Rattle.index_rules.specs.Verdict.{verdict_now}

-- ---- calls, over books that are honest at the end

pub record RefutesCalls {S : Type 0} (g : Ghosts S) (old new : S) : Type 0 where
  -- tables changed, but the call was not accepted
  pub settles : (answer : Answer) → answer ≢ Accepted
      → (¬ (g.tables new ≡ g.tables old)) → ¬ Settles g old new answer
  -- the answer is neither the verdict nor a fault
  pub verdict : (call : Call) (answer : Answer)
      → (¬ Answers (verdict_now (g.tables old) call) answer) → ¬ Takes g old new call answer
  -- the tables are not those after the call
  pub next : (call : Call) (answer : Answer)
      → (¬ (g.tables new ≡ tables_after (g.tables old) call answer)) → ¬ Takes g old new call answer
  -- the tables are not those after the calls in a row
  pub in_turn : (calls : List Call) (answers : List Answer)
      → (¬ Runs (g.tables old) calls answers (g.tables new)) → ¬ TakesInTurn g old new calls answers

abbrev pub RefutesEachCall : {S : Type 0} → Ghosts S → Type 0
RefutesEachCall {S} g =
    (old new : S) → g.IsHonest new → HasOneBearer (g.tables old) → RefutesCalls g old new

-- ---- what is written

-- a write failed, but the end does not say so
pub record RefutesWrites {S K : Type 0} (ins : Ins S) (out : Outs K) (old new : S)
    (before after : K) : Type 0 where
  pub lines : (most count : ℕ)
      → ¬ RunFailsOnly most (from_source ins old new) (to_sink out before after) (Ok count)
  pub exchange : ¬ StreamFailsOnly ins out old new before after (Ok tt)
  pub page : ¬ ReplyFailsOnly out before after true (Ok tt)
  pub text : (text : Bytes) → ¬ WritesText out before after text (Ok tt)

-- a text was not written, but the end says that it was; or a reply without a page was cut short
pub record RefutesTexts {K : Type 0} (out : Outs K) (before after : K) : Type 0 where
  pub text : (text : Bytes) → (¬ Appends (out.contents before) (out.contents after) text)
      → ¬ WritesText out before after text (Ok tt)
  pub reply : (text : Bytes) → (¬ Appends (out.contents before) (out.contents after) text)
      → ¬ SendsBytes out before after text (Ok tt)
  pub cut : (count : ℕ) → ¬ ReplyFailsOnly out before after false (Err (Cut count))

pub record RefutesStreams {S K : Type 0} (ins : Ins S) (out : Outs K) : Type 0 where
  pub writes : (old new : S) (before after : K)
      → (¬ (out.failures after ≡ out.failures before))
      → RefutesWrites ins out old new before after
  pub texts : (before after : K) → RefutesTexts out before after
