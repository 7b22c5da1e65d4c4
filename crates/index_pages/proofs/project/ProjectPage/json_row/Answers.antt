use Rattle.index_pages.proofs.Words.{◌≡◌, rules}
use Rattle.index_pages.specs.Parts.{file_line}
use Rattle.index_pages.proofs.JsonLemmas.{json-next}
use Rattle.index_pages.proofs.project.ProjectPage.json_row.Goals as goal

pub returns-clause-row : goal.returns-clause-row
returns-clause-row g c =
    let project = c.args.project.now in
    let page = c.args.self.now in
    let row = c.args.row.now in
    let release : c.in_ok-clone.field-0 ≡ row.release = search rules in
    record {
      text = file_line project page.is_started row;
      next = λ rows. rw (c.in_ok-insert.ensures.keys, release) (json-next project page.is_started page.releases.keys row rows);
      adds = c.in_ok-append_file_line.ensures;
    }
