use Rattle.index_pages.proofs.Words.{◌≡◌, ◌==◌, false, length, rules, subst, Adds}
use Rattle.index_pages.proofs.JsonLemmas.{reason-text}
use Rattle.index_pages.proofs.json_parts.append_reason.Goals as goal

pub returns-else-is_empty : goal.returns-else-is_empty
returns-else-is_empty g c =
    let some : (length c.args.reason.now == 0) ≡ false = search rules in
    subst (Adds g.O.Pieces.holds c.args.out.now c.append_json_text.new.out c.append_json_text.result)
    (reason-text c.args.reason.now some) c.append_json_text.ensures
