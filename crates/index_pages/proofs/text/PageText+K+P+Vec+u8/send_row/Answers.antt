use Rattle.index_pages.proofs.Words.{◌≡◌}
use Rattle.index_pages.proofs.TextLemmas.{front_of_row, sends_row}
use Rattle.index_pages.proofs.text.PageText+K+P+Vec+u8.send_row.Goals as goal

pub returns-in-Ok-clause-sent : goal.returns-in-Ok-clause-sent
returns-in-Ok-clause-sent g c =
    let self = c.args.self.now in
    let added = c.in-Ok.ensures in
    let text : c.append_row.new.out.items ≡ added.text = added.adds.behind _ c.clear.ensures.items in
    sends_row (g.P.Page.rest self.page self.name.now) c.args.row.now (g.P.Page.rest c.append_row.new.self self.name.now)
    added.text _ _ _ c.send.result added.next (rw (c.deref.ensures.value, text) at c.send.ensures)

pub returns-in-Ok-clause-stopped : goal.returns-in-Ok-clause-stopped
returns-in-Ok-clause-stopped g c =
    let self = c.args.self.now in
    let added = c.in-Ok.ensures in
    let text : c.append_row.new.out.items ≡ added.text = added.adds.behind _ c.clear.ensures.items in
    front_of_row (g.P.Page.rest self.page self.name.now) c.args.row.now (g.P.Page.rest c.append_row.new.self self.name.now)
    added.text _ _ _ c.send.result added.next (rw (c.deref.ensures.value, text) at c.send.ensures)
