use Rattle.index_plain.proofs.Words.{ap, ◌∙◌, rules, from_entries, nat_list_cmp_total, exact_bytes, bytes_cmp}
use Rattle.std.proofs.lemmas.Map.Made.{map_same_pairs}
use Rattle.index_rules.specs.Effect.{as_deleted_of}
use Rattle.index_plain.proofs.ValueLemmas.{from_changed}
use Rattle.index_plain.proofs.name_files.mark_deleted.Goals as goal

pub returns : goal.returns
returns c =
    let change = as_deleted_of c.args.name.now in
    ap (from_entries {R = bytes_cmp}) (map_same_pairs _ change _ (λ k v b w f' t. search rules) _ _ c.retain.ensures.filtered)
    ∙ from_changed bytes_cmp change nat_list_cmp_total exact_bytes c.args.files.now.entries
