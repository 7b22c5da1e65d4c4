use Rattle.index_plain.proofs.Words.{◌∙◌, rules, nat_list_cmp_total, exact_bytes, Held, bytes_cmp, map_of, plain_tables}
use Rattle.index_plain.proofs.TreeLemmas.{is_put, take_back}
use Rattle.index_plain.proofs.plain.PlainBooks.upload.Goals as goal

pub put_back-requires : goal.put_back-requires
put_back-requires c =
    is_put nat_list_cmp_total (map_of bytes_cmp c.args.self.now.names) (map_of bytes_cmp c.replace.new.map) c.args.name.now
    (Held c.args.project) c.in_ok-former.ensures.put.written

pub returns-in-Err : goal.returns-in-Err
returns-in-Err c =
    let T = plain_tables c.args.self.now in
    let former = c.in_ok-former.former in
    let names = c.put_back.ensures
    ∙ take_back nat_list_cmp_total exact_bytes T.names (map_of bytes_cmp c.replace.new.map) c.args.name.now (Held c.args.project)
    former c.in_ok-former.ensures.former c.in_ok-former.ensures.put.written in
    record {
      made = record {
        written = tt;
        unchanged = λ i. record T {
          names = names i;
          files = c.in-Err.ensures.put.unchanged i;
          bodies = c.in-Err.ensures.other_put.unchanged i;
        };
        failures = search rules;
      };
    }
