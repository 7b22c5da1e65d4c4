use Rattle.index_pages.proofs.Words.{◌≡◌, []}
use Rattle.index_pages.proofs.text.send_last.Goals as goal

pub returns-in-Ok : goal.returns-in-Ok
returns-in-Ok g c =
    let text : c.append_last.new.out.items ≡ g.P.Page.rest c.args.page.now c.args.name.now [] =
    c.in-Ok.ensures.behind [] c.clear.ensures.items in
    rw (c.deref.ensures.value, text) at c.send.ensures
