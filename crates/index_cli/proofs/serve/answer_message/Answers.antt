use Rattle.index_cli.proofs.Words.{inl, inr}
use Rattle.index_http.proofs.EndLemmas.{stands_ends}
use Rattle.index_http.proofs.Failures.{one_later}
use Rattle.index_cli.proofs.ExchangeCauses.{has_cause}
use Rattle.index_cli.proofs.serve.answer_message.Goals as goal

pub returns : goal.returns
returns g c =
    let B = g.B.Books in
    let one = c.answer_one.ensures in
    let caused = has_cause g.S.Source g.K.Sink _ _ _ _ c.args.at _ (g.K.Sink.contents c.args.sink.now)
    (g.K.Sink.contents c.answer_one.new.sink) c.answer_one.result one.fails one.cut in
    record {
      tables = λ honest bearer. record {
        failures = B.failures c.args.desk.now;
        later_failures = B.failures c.answer_one.new.desk;
        ended = c.answer_one.result;
        ends = stands_ends _ _ _ _ _ _ _ (λ later is. is honest)
            (one.tables (one.keeps.honest honest) (g.met.B.Books.honest_is_clean _ honest) bearer);
        cause = caused;
      };
      history = λ honest h legal stands.
          let it = one.history honest h legal stands in
          record {
            later = it.later;
            is = record {
              failures = B.failures c.args.desk.now;
              later_failures = B.failures c.answer_one.new.desk;
              ended = c.answer_one.result;
              ends = it.is;
              cause = caused;
            };
            shows = it.shows;
          };
      asks = record { ended = c.answer_one.result; asks = one.asks; cause = caused };
      lasts = λ honest clean bearer. elim (one.lasts honest clean) [
        | inl stays ↦ inl stays
        | inr shows ↦
            let then = one_later _ _ (B.tables c.args.desk.now) _ _ _ c.answer_one.result (one.tables honest clean bearer) in
            inr (record {
              later = then.0;
              answers = record {
                failures = B.failures c.args.desk.now;
                later_failures = B.failures c.answer_one.new.desk;
                ended = c.answer_one.result;
                ends = then.1;
                cause = caused;
              };
              asked = shows.0;
              shows = shows.1;
            })
      ];
      keeps = one.keeps;
    }
