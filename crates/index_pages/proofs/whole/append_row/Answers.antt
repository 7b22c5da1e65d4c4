use Rattle.index_pages.proofs.Words.{◌∙◌, ◌++◌, ap, append_assoc, refl, sym}
use Rattle.std.proofs.lemmas.Result.{on_ok_weaker}
use Rattle.index_pages.proofs.whole.append_row.Goals as goal

pub returns : goal.returns
returns g c =
    let front = c.args.out.now.items in
    let later = g.P.Page.rest c.append_row.new.self c.args.name.now in
    on_ok_weaker c.append_row.result
    (λ added rows.
    ap (λ text. text ++ later rows) (added.adds.behind front refl)
    ∙ append_assoc front added.text (later rows)
    ∙ ap (λ text. front ++ text) (sym (added.next rows)))
    c.append_row.ensures
