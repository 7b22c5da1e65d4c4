use Rattle.index_plain.proofs.Words.{sym, ap, ◌∙◌, rules, list_any, nat_list_cmp_total, exact_bytes, FileRecord, Bytes}
use Rattle.std.proofs.Common.{tests}
use Rattle.std.proofs.lemmas.Iterator.Consumers.{YieldsList-from_rest}
use Rattle.std.proofs.lemmas.Iterator.Search.{any_from_yields_List}
use Rattle.index_rules.specs.Facts.{is_undeleted_of_release}
use Rattle.index_plain.proofs.TreeLemmas.{entries_map}
use Rattle.index_plain.proofs.name_files.has_undeleted.Goals as goal

pub returns : goal.returns
returns c =
    let files = c.args.files.now in
    let test = λ (file : Bytes × FileRecord). is_undeleted_of_release c.args.name.now c.args.release.now file.1 in
    any_from_yields_List test _ _ _ c.any.ensures.ran (YieldsList-from_rest files.entries c.iter.ensures.rest)
    (λ x b q k. search (rules, tests))
    ∙ ap (list_any test) (sym (entries_map nat_list_cmp_total exact_bytes files c.iter.ensures.ordered))
