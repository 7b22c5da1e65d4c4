use Rattle.index_desk.proofs.Words.{◌≡◌, not, ◌∙◌, ap, sum_by, rules, FileRow, charge_in}
use Rattle.std.proofs.Common.{◌==◌}
use Rattle.index_desk.proofs.CheckLemmas.{sizes_are_charged}
use Rattle.index_desk.proofs.desk.check.is_charged_wrong.Goals as goal

pub returns : goal.returns
returns g c = record {
  found = λ honest.
      let T = g.B.Books.tables c.args.books.now in
      let name = c.args.row.now.name in
      let sizes : sum_by (λ (file : FileRow). file.size) c.as_slice.result.now ≡ charge_in T name =
      ap (sum_by (λ (file : FileRow). file.size)) (c.as_slice.ensures.value ∙ c.in_ok-files.ensures.found honest)
      ∙ sizes_are_charged T name in
      ap not (c.is_sum.ensures ∙ (λ i. c.charge_of.ensures i == sizes i));
  look = search rules;
}
