use Rattle.index_http.proofs.Words.{inl, refl, leaves_none}
use Rattle.index_http.proofs.EndLemmas.{ends_shown_map, sent_memory, shown_ends, shown_map}
use Rattle.index_http.proofs.Failures.{lasts_map}
use Rattle.index_http.proofs.ShowLemmas.{project_shown}
use Rattle.index_http.proofs.get.send_shown.Goals as goal

pub returns-in-Found-clause-shown : goal.returns-in-Found-clause-shown
returns-in-Found-clause-shown g c = rw c.in-Found.is (record {
  shown = λ honest clean. shown_ends _ _ _ _ _ _ _ _ c.reply.ensures refl c.send_reply.ensures.sent;
  leaves = leaves_none _ _;
  sends = c.send_reply.ensures.sends;
  stores = λ is. absurd (sent_memory _ _ _ _ c.send_reply.ensures.sent is);
  lasts = λ honest clean. inl (honest, refl);
})

pub returns-in-Project-clause-shown : goal.returns-in-Project-clause-shown
returns-in-Project-clause-shown g c =
    let page = c.show_page-in-Project.ensures in
    let T = g.B.Books.tables c.args.desk.now in
    let shown = project_shown c.in-Project.served T c.in-Project.name in
    rw c.in-Project.is (record {
      shown = λ honest clean. ends_shown_map _ _ _ _ _ _ _ shown (page.shown honest clean);
      leaves = page.leaves;
      sends = page.sends;
      stores = page.stores;
      lasts = λ honest clean. lasts_map _ _ _ _ (shown_map c.args.is_head _ _ ⊥ shown) _ (page.lasts honest clean);
    })

pub returns-in-File-clause-shown : goal.returns-in-File-clause-shown
returns-in-File-clause-shown g c = rw c.in-File.is c.show_file.ensures
