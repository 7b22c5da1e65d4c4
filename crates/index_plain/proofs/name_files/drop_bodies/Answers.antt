use Rattle.index_plain.proofs.Words.{ap, ◌∙◌, not, rules, from_entries, nat_list_cmp_total, exact_bytes, map_of, Bytes, bytes_cmp}
use Rattle.std.proofs.lemmas.Map.Made.{filter_same_pairs}
use Rattle.index_rules.specs.Effect.{is_file_of}
use Rattle.index_plain.proofs.ValueLemmas.{from_kept}
use Rattle.index_plain.proofs.name_files.drop_bodies.Goals as goal

pub returns : goal.returns
returns c =
    let stays = λ (file : Bytes). not (is_file_of (map_of bytes_cmp c.args.files.now) c.args.name.now file) in
    ap (from_entries {R = bytes_cmp}) (filter_same_pairs _ (λ body. stays body.0) _ (λ k v b w f' t. search rules)
    _ _ c.retain.ensures.filtered)
    ∙ from_kept nat_list_cmp_total exact_bytes stays c.args.bodies.now.entries
