use Rattle.index_pages.proofs.Words.{◌∙◌, ◌++◌, ap, append_assoc, sym, flat_map, bottom, file_anchor, once}
use Rattle.index_pages.specs.Html.{project_top}
use Rattle.index_pages.proofs.PieceLemmas.{adds_both}
use Rattle.index_pages.proofs.project.ProjectPage.html_row.Goals as goal

pub returns-clause-row : goal.returns-clause-row
returns-clause-row g c =
    let project = c.args.project.now in
    let top = once c.args.self.now.is_started (project_top project) in
    let line = file_anchor project c.args.row.now in
    record {
      text = top ++ line;
      next = λ rows.
          let lines = flat_map (file_anchor project) rows in
          ap (λ x. top ++ x) (append_assoc line lines bottom) ∙ sym (append_assoc top line (lines ++ bottom));
      adds = rw c.as_bytes.ensures.value at (adds_both c.in_ok-append_html_start.ensures c.in_ok-append_file.ensures);
    }
