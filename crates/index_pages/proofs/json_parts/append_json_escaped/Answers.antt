use Rattle.index_pages.proofs.Words.{◌∙◌, sym, subst, Adds}
use Rattle.index_pages.proofs.EscapeLemmas.{escape-plain}
use Rattle.index_pages.proofs.json_parts.append_json_escaped.Goals as goal

pub returns-then-is_plain : goal.returns-then-is_plain
returns-then-is_plain g c =
    subst (Adds g.O.Pieces.holds c.args.out.now c.put.new.self c.put.result)
    (sym (escape-plain c.args.text.now (sym c.is_plain.ensures ∙ c.if-is_plain.true))) c.put.ensures
