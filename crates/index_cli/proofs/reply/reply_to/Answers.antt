use Rattle.index_cli.proofs.Words.{inl, rules, IfOk-weaker, leaves_none}
use Rattle.index_cli.proofs.Calls.{AsksKept-long, AsksKept-read}
use Rattle.index_cli.proofs.FaultTexts.{honest_or_mapped}
use Rattle.index_cli.proofs.Progress.{KeptLineIsAnswered-read}
use Rattle.index_cli.proofs.reply.reply_to.Goals as goal

pub returns-then-size-gt-LONGEST_LINE : goal.returns-then-size-gt-LONGEST_LINE
returns-then-size-gt-LONGEST_LINE g c = record {
  reply = search rules;
  lasts = λ honest clean. inl honest;
  asks = AsksKept-long _ _ c.args.size _ _ c.if-size-gt-LONGEST_LINE.true (leaves_none _ _);
  leaves = search rules;
  causes = search rules;
  stores = search rules;
  keeps = search rules;
}

pub returns : goal.returns
returns g c =
    let short = c.if-size-gt-LONGEST_LINE.false in
    record {
      reply = λ honest one.
          IfOk-weaker c.reply_to_read.result _ _ (λ reply told. KeptLineIsAnswered-read _ _ _ _ _ short told)
          (c.reply_to_read.ensures.reply honest one);
      lasts = λ honest clean.
          IfOk-weaker c.reply_to_read.result _ _ (λ reply it. honest_or_mapped it (λ told. KeptLineIsAnswered-read _ _ _ _ _ short told))
          (c.reply_to_read.ensures.lasts honest clean);
      asks = IfOk-weaker c.reply_to_read.result _ _ (λ reply asks. AsksKept-read c.args.front.now _ c.args.size _ _ short asks)
          c.reply_to_read.ensures.asks;
      leaves = search rules;
      causes = search rules;
      stores = search rules;
      keeps = search rules;
    }
