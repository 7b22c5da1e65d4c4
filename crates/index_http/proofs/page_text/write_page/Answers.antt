use Rattle.index_http.proofs.Words.{◌≡◌, ◌∙◌, ap, arith, subst, sym, Some, option_map, held_rows_in, Walks, FileRow, NameRow, WalksProject}
use Rattle.index_http.proofs.Words.{project_rows_in, PageStops, PageTakes, state_of, project_page_of, root_page_of, WritesPageText}
use Rattle.index_http.proofs.Words.{fault_of}
use Rattle.std.proofs.lemmas.Grind.{common_steps}
use Rattle.std.specs.Prelude.{List, Option}
use Rattle.index_desk.specs.Looks.{HandsThose}
use Rattle.index_pages.specs.Left.{files_left, names_left}
use Rattle.index_http.proofs.PassLemmas.{found, reads, root_fault, root_walks, written}
use Rattle.index_http.proofs.RestLemmas.{project_open, root_open}
use Rattle.index_http.proofs.page_text.write_page.Goals as goal

handed : {Rows : Type 0} {those : Rows} {Hands : Rows → Type 0} → HandsThose (λ rows. rows ≡ those) Hands → Hands those
handed {Rows} {those} {Hands} (rows, are, hands) = subst Hands are hands

pub returns-in-Root : goal.returns-in-Root
returns-in-Root g c =
    let text = c.root-text.result in
    let walk = c.walk_root-walked in
    let mapped : c.map.result ≡ found walk.result = grind (arith, common_steps) in
    let page = λ (rows : List NameRow) (walks : Walks (PageTakes g.K.Sink names_left) (PageStops g.K.Sink names_left)
    rows text walk.new.taker walk.result).
    written g.K.Sink names_left (root_page_of c.args.served) (Some rows) text walk.new.taker _ _ c.map.result c.end_text.result
    (root_open text.page.as_json text.page.is_started) c.root-text.ensures c.end_text.ensures.text
    (rw mapped (root_walks _ _ rows text walk.new.taker walk.result walks)) in
    let given = walk.ensures.given in
    let back = c.sink-1.given.1 (sym (page given.0 given.1).0) in
    let wrote : (rows : List NameRow) → Walks (PageTakes g.K.Sink names_left) (PageStops g.K.Sink names_left)
    rows text walk.new.taker walk.result
    → WritesPageText (Some (root_page_of c.args.served rows)) (state_of g.K.Sink c.args.sink.now) (state_of g.K.Sink c.sink-1.given.0)
    c.end_text.result =
    λ rows walks. rw back (page rows walks).1 in
    record {
      written = λ honest clean. rw c.in-Root.is
          (wrote (held_rows_in (g.B.Books.tables c.args.desk.now)) (handed (walk.ensures.walked honest clean)));
      given = (Some (root_page_of c.args.served given.0), wrote given.0 given.1);
      look = reads _ _ _ walk.result c.end_text.result (c.end_text.ensures.fault ∙ ap fault_of mapped ∙ root_fault walk.result)
          walk.ensures.look;
    }

pub returns-in-Project : goal.returns-in-Project
returns-in-Project g c =
    let name = c.in-Project.name.now in
    let text = c.project-text.result in
    let walk = c.walk_project-walked in
    let page = λ (rows : Option (List FileRow))
    (walks : WalksProject (PageTakes g.K.Sink files_left) (PageStops g.K.Sink files_left) rows text walk.new.taker walk.result).
    written g.K.Sink files_left (project_page_of c.args.served name) rows text walk.new.taker _ _ walk.result c.end_text-in-Project.result
    (project_open text.page.as_json text.name.now text.page.is_started text.page.releases.keys)
    c.project-text.ensures c.end_text-in-Project.ensures.text walks in
    let given = walk.ensures.given in
    let back = c.sink-in-Project-1.given.1 (sym (page given.0 given.1).0) in
    record {
      written = λ honest clean. rw (
        c.in-Project.is,
        back,
      ) (page (project_rows_in (g.B.Books.tables c.args.desk.now) name) (handed (walk.ensures.walked honest clean))).1;
      given = (option_map (project_page_of c.args.served name) given.0, rw back (page given.0 given.1).1);
      look = reads _ _ _ walk.result c.end_text-in-Project.result c.end_text-in-Project.ensures.fault walk.ensures.look;
    }
