use Rattle.index_pages.proofs.Words.{◌≡◌, ◌∙◌, ◌++◌, codes, refl, Bytes, FileRow, file_anchor, reference}
use Rattle.index_pages.specs.Html.{requires_attribute, yanked_attribute}
use Rattle.index_pages.proofs.PieceLemmas.{adds_both, adds_same}
use Rattle.index_pages.proofs.html.append_file.Goals as goal

anchor-pieces : (project : Bytes) (row : FileRow) (file requires shown : Bytes) → file ≡ row.file → requires ≡ row.requires_python
    → shown ≡ row.file
    → reference project file row.digest ++ (requires_attribute requires
    ++ (yanked_attribute row.yanked ++ (codes ">" ++ (shown ++ codes "</a><br>\n")))) ≡ file_anchor project row
unfolding file_anchor
anchor-pieces project row file requires shown same needs again = rw (same, needs, again) refl

pub returns : goal.returns
returns g c =
    adds_same (adds_both c.in_ok-append_reference.ensures
    (adds_both c.in_ok-append_requires.ensures (adds_both c.in_ok-append_yanked.ensures c.in_ok-append.ensures)))
    (anchor-pieces c.args.project.now c.args.row.now _ _ _ (c.as_bytes.ensures.value ∙ c.text.ensures.text)
    (c.as_bytes-2.ensures.value ∙ c.as_str.ensures) (c.as_bytes-3.ensures.value ∙ c.text-2.ensures.text))
