use Rattle.index_http.proofs.Words.{inl, inr, ap, rules, subst, sym, IsMessage, by_tables, InputGetsText, at_desk}
use Rattle.index_rules.proofs.StandsOn.{sound_when_legal}
use Rattle.index_message.proofs.MessageLemmas.{whole_has_head}
use Rattle.index_http.specs.Ends.{DeskRepliesByTables}
use Rattle.index_http.specs.Steps.{to_sink}
use Rattle.index_http.proofs.EndLemmas.{ends_map, fault_or_request, has_page, stands_ends}
use Rattle.index_http.proofs.Failures.{failure_map}
use Rattle.index_http.proofs.Histories.{reply_ends_by_history}
use Rattle.index_http.proofs.connection.answer_one.Goals as goal

pub returns-in_err-message : goal.returns-in_err-message
returns-in_err-message g c = record {
  tables = search rules;
  history = search rules;
  asks = search rules;
  memory = search rules;
  readable = search rules;
  lasts = search rules;
  stores = search rules;
  fails = search rules;
  prompt = search rules;
  cut = search rules;
  limit = search rules;
  keeps = search rules;
}

pub returns : goal.returns
returns g c =
    let books = g.B.Books in
    let message = c.in_ok-message.message in
    let read = c.in_ok-message.ensures.message in
    let one = c.answer.ensures in
    let tables : DeskRepliesByTables
    (λ cause T. InputGetsText by_tables cause c.args.at T (g.S.Source.remaining c.args.source.now))
    (at_desk books c.args.desk.now c.answer.new.desk) (to_sink g.K.Sink c.args.sink.now c.answer.new.sink) c.answer.result =
    λ honest clean bearer.
    ends_map _ _ _ _ _ _ _ (λ text replies. (replies.0, (read.0, message, read.1, read.2, replies.1), replies.2))
    (λ same. same) (one.tables honest clean bearer) in
    record {
      tables = tables;
      history = λ honest h legal stands.
          reply_ends_by_history _ _ h legal _ _ stands _ _ _ _
          (stands_ends _ _ _ _ _ _ _ (λ later is. is honest)
          (tables (one.keeps.honest honest) (g.met.B.Books.honest_is_clean _ honest)
          (sound_when_legal h legal _ stands).one_bearer));
      asks = inr (read.0, message, read.1, read.2, one.asks);
      memory = λ is. elim (one.memory is) [
        | inl same ↦ inl same
        | inr look ↦ inr (read.0, message, read.1, read.2, look)
      ];
      readable = λ is. whole_has_head _ _ read.0 message read.1 read.2 (one.whole is);
      lasts = λ honest clean. elim (one.lasts honest clean) [
        | inl stays ↦ inl stays
        | inr shows ↦ elim (fault_or_request message) [
          | inl faulty ↦ let same = one.unasked faulty in inl (subst books.IsHonest (sym same) honest, ap books.failures same)
          | inr whole ↦ inr (
            (read.0, whole.0, whole.1, read.1, subst (λ it. IsMessage read.0 it) whole.2 read.2),
            failure_map _ _ _ _ (λ text it. (it.0, (read.0, message, read.1, read.2, it.1))) shows,
          )
        ]
      ];
      stores = one.stores;
      fails = search rules;
      prompt = search rules;
      cut = λ is.
          let page = has_page _ _ one.sends.whole is in
          (one.cut is, (read.0, message, read.1, read.2, page));
      limit = search rules;
      keeps = one.keeps;
    }
