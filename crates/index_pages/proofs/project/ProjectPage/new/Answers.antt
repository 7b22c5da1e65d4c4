use Rattle.index_pages.proofs.Words.{is_json}
use Rattle.index_pages.proofs.PageLemmas.{project-whole}
use Rattle.index_pages.proofs.project.ProjectPage.new.Goals as goal

pub returns : goal.returns
returns c = rw (c.new.ensures.empty, c.is_json.ensures) (project-whole (is_json c.args.served))
