use Rattle.index_pages.proofs.Words.{Err, refl}
use Rattle.index_pages.specs.States.{state_of, text_state}
use Rattle.index_pages.proofs.TextLemmas.{page_ends, page_stops}
use Rattle.index_pages.proofs.text.PageText+K+P+Vec+u8.finish.Goals as goal

pub returns-in-Some-clause-page : goal.returns-in-Some-clause-page
returns-in-Some-clause-page g c =
    let self = c.args.self in
    page_ends (text_state (g.P.Page.rest self.page self.name.now) (state_of g.K.Sink self.sink.now) self.written self.end) _
    (Err c.in-Some.end)
    (λ end e. (cc (c.in-Some.is, e), refl))
    (λ none. cc (c.in-Some.is, none))

pub returns-in-Some-clause-stopped : goal.returns-in-Some-clause-stopped
returns-in-Some-clause-stopped g c =
    let self = c.args.self in
    page_stops (text_state (g.P.Page.rest self.page self.name.now) (state_of g.K.Sink self.sink.now) self.written self.end) _
    (Err c.in-Some.end)
    (λ end e. (cc (c.in-Some.is, e), refl))

pub returns-clause-page : goal.returns-clause-page
returns-clause-page g c =
    let self = c.args.self in
    page_ends (text_state (g.P.Page.rest self.page self.name.now) (state_of g.K.Sink self.sink.now) self.written self.end)
    _ c.send_last.result
    (λ end e. cc (c.in-None.is, e))
    (λ none. c.send_last.ensures)

pub returns-clause-stopped : goal.returns-clause-stopped
returns-clause-stopped g c =
    let self = c.args.self in
    page_stops (text_state (g.P.Page.rest self.page self.name.now) (state_of g.K.Sink self.sink.now) self.written self.end)
    (state_of g.K.Sink c.send_last.new.sink) c.send_last.result
    (λ end e. cc (c.in-None.is, e))
