use Rattle.index_pages.proofs.Words.{◌≡◌, sym, ◌∷◌, byte, cut_at}
use Rattle.index_pages.proofs.CutLemmas.{are_two-three}
use Rattle.index_pages.proofs.item.is_media_range.Goals as goal

pub returns-in_default-Some-cut : goal.returns-in_default-Some-cut
returns-in_default-Some-cut c =
    let first : cut_at (byte "/") c.args.range.now ≡ c.cut.result.0.now ∷ cut_at (byte "/") c.in_default-Some.rest.now =
    rw c.in_default-Some.is-1 at c.cut.ensures.cut in
    let second : cut_at (byte "/") c.in_default-Some.rest.now
    ≡ c.cut-in_default-Some.result.0.now ∷ cut_at (byte "/") c.in_default-Some-cut.field-0-1.now =
    rw (c.in_default-Some.is-1, c.in_default-Some-cut.is-1) at c.cut-in_default-Some.ensures.cut in
    sym (are_two-three c.args.range.now _ c.in_default-Some.rest.now _ c.in_default-Some-cut.field-0-1.now first second)
