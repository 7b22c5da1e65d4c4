use Rattle.index_pages.proofs.Words.{◌≡◌, ◌∙◌, ◌++◌, ap, append_assoc, codes, text_of, Bytes, reference}
use Rattle.index_pages.proofs.PieceLemmas.{adds_both, adds_same}
use Rattle.index_pages.proofs.html.append_reference.Goals as goal

reference-pieces : (project file digits digest : Bytes) → digits ≡ text_of digest
    → (codes "<a href=\"/files/" ++ (project ++ codes "/")) ++ ((file ++ codes "#sha256=") ++ (digits ++ codes "\""))
    ≡ reference project file digest
reference-pieces project file digits digest is =
    let last = digits ++ codes "\"" in
    let path = append_assoc project (codes "/") ((file ++ codes "#sha256=") ++ last)
    ∙ ap (λ x. project ++ (codes "/" ++ x)) (append_assoc file (codes "#sha256=") last) in
    ap (λ x. codes "<a href=\"/files/" ++ x) path
    ∙ ap (λ x. codes "<a href=\"/files/" ++ (project ++ (codes "/" ++ (file ++ (codes "#sha256=" ++ (x ++ codes "\"")))))) is

pub returns : goal.returns
returns g c =
    adds_same (adds_both c.in_ok-append.ensures (adds_both c.in_ok-append-2.ensures c.in_ok-append-3.ensures))
    (reference-pieces c.args.project.now c.args.file.now c.hex_into.new.text c.args.digest.now c.hex_into.ensures.written)
