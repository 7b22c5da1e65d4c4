use Rattle.index_desk.proofs.Words.{ap, ◌∙◌, filter, rules, held_rows_in, is_held_row}
use Rattle.std.proofs.lemmas.List.Elements.{filter_from_retain}
use Rattle.index_desk.proofs.LookLemmas.{looks_by}
use Rattle.index_desk.proofs.RulesLemmas.{held_rows_by_history}
use Rattle.index_desk.proofs.desk.Desk.root_rows.Goals as goal

pub returns : goal.returns
returns g c =
    looks_by _ _ _ _ _
    (λ h stands rows. held_rows_by_history h _ stands rows.items)
    (λ honest.
    filter_from_retain _ is_held_row (λ p row b q called. search rules) _ _ _ c.retain.ensures.filtered
    ∙ ap (filter is_held_row) (c.in_ok-rows.ensures.found honest)
    ∙ ap (λ books. held_rows_in (g.B.Books.tables books)) c.self.view_is)
    (search rules)
