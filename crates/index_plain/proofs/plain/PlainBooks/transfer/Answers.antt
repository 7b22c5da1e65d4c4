use Rattle.index_plain.proofs.Words.{◌∙◌, rules, remove, plain_tables}
use Rattle.index_plain.proofs.OwnerLemmas.{alone_in_place}
use Rattle.index_plain.proofs.plain.PlainBooks.transfer.Goals as goal

pub returns : goal.returns
returns c =
    let name = c.args.name.now in
    let T = plain_tables c.args.self.now in
    let owners = alone_in_place T.owners _ name c.args.candidate.now tt c.in_ok-put_alone.ensures.written in
    record {
      made = record {
        written = c.end_case.ensures.tables ∙ (λ i. record T { owners = owners i; cases = remove T.cases name });
        unchanged = search rules;
        failures = search rules;
      };
    }
