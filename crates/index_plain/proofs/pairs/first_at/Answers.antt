use Rattle.index_plain.proofs.Words.{sym, ap, ◌∙◌, Option, Some, None, MatchOption, option_copied, is_some, get, get-empty, map_of}
use Rattle.index_plain.proofs.PairLemmas.{nothing_at, some_at}
use Rattle.index_plain.proofs.pairs.first_at.Goals as goal

match_weaker : {R : Type 0} (o : Option R) (N N' : Type 0) (S S' : R → Type 0) → (N → N') → ((r : R) → S r → S' r) → MatchOption o N S
    → MatchOption o N' S'
match_weaker None N N' S S' f g h = f h
match_weaker (Some r) N N' S S' f g h = g r h

pub returns-in-Some : goal.returns-in-Some
returns-in-Some g c =
    let a = g.met.A in
    let b = g.met.B in
    let inner = c.in-Some.inner.now in
    let there = sym (sym (ap option_copied c.in-Some.is) ∙ c.find.ensures) in
    let at = some_at a.Ord.total b.Ord.total a.Key.exact b.Key.exact (map_of g.A.Ord.cmp c.args.map.now) c.args.first.now inner there in
    match_weaker c.first_key.result _ _ _ _
    (λ none second. at second ∙ ap (λ m. get m second) none ∙ get-empty g.B.Ord.cmp second)
    (λ second has. ap is_some (at second.now) ∙ has)
    c.first_key.ensures

pub returns-in-None : goal.returns-in-None
returns-in-None g c =
    let a = g.met.A in
    let b = g.met.B in
    nothing_at a.Ord.total b.Ord.total a.Key.exact b.Key.exact (map_of g.A.Ord.cmp c.args.map.now) c.args.first.now
    (sym (sym (ap option_copied c.in-None.is) ∙ c.find.ensures))
