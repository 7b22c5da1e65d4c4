use Rattle.index.proofs.Words.{◌≡◌, Ok, Err, rules, subst, subst₂, sym, IsToldOf}
use Rattle.index.specs.NewPairs.{IsToldOfMade}
use Rattle.index.proofs.new_pair.end_of_made.Goals as goal

pub returns-in-Ok-Err : goal.returns-in-Ok-Err
returns-in-Ok-Err g c =
    let same : c.args.made ≡ Ok (Err c.in-Ok-Err.left) = search rules in
    subst (λ made. IsToldOfMade made (Err c.end_of_unused.result)) (sym same)
    (subst₂ (λ why left. IsToldOf why left c.end_of_unused.result) c.refused.ensures.why c.refused.ensures.left c.end_of_unused.ensures)
