use Rattle.index_desk.proofs.Words.{◌≡◌, ◌∙◌, ap, count_by, rules, IfOk-weaker, is_charged_wrong_in, wrong_charges_in}
use Rattle.index_rules.specs.TableRows.{name_rows_in}
use Rattle.index_desk.proofs.CheckLemmas.{none_charged_wrong}
use Rattle.index_desk.proofs.desk.Desk.check.Goals as goal

pub returns : goal.returns
returns g c = record {
  found = λ honest.
      let tables = g.B.Books.tables in
      let before = c.wrong_charges.ensures.look.honest honest in
      let same_tables : tables c.names.new.self ≡ tables c.args.self.now =
      c.names.ensures.looks.unchanged before ∙ ap tables c.self.view_is in
      let rows : c.as_slice.result.now ≡ name_rows_in (tables c.args.self.now) =
      c.as_slice.ensures.value ∙ c.in_ok-rows.ensures.found before ∙ ap (λ books. name_rows_in (tables books)) c.self.view_is in
      IfOk-weaker c.wrong_charges.result _ _
      (λ count counted.
      let is : count ≡ wrong_charges_in (tables c.args.self.now) =
      counted ∙ (λ i. count_by (is_charged_wrong_in (same_tables i)) (rows i)) in
      (is, λ sound. is ∙ none_charged_wrong (tables c.args.self.now) sound))
      (c.wrong_charges.ensures.found honest);
  look = search rules;
}
