use Rattle.index_plain.proofs.Words.{◌∙◌, rules, remove, without_name, bytes_cmp, map_of, plain_tables}
use Rattle.index_plain.proofs.OwnerLemmas.{name_alone}
use Rattle.index_plain.proofs.plain.PlainBooks.claim.Goals as goal

pub returns : goal.returns
returns c =
    let books = c.args.self.now in
    let name = c.args.name.now in
    let T = plain_tables books in
    let owners = name_alone (map_of bytes_cmp books.owners) (map_of bytes_cmp c.put_both.new.map)
    name c.in_ok-alone.alone c.args.owner.now tt c.in_ok-alone.ensures c.in_ok-put_both.ensures.put.written in
    record {
      made = record {
        written = c.end_yanks_and_case.ensures.tables
            ∙ (λ i. record T {
              names = c.in_ok-put_both.ensures.other_put.written i;
              owners = owners i;
              yanks = without_name name T.yanks;
              cases = remove T.cases name;
            });
        unchanged = search rules;
        failures = search rules;
      };
    }
