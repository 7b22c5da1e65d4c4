use Rattle.index_plain.proofs.Words.{◌≡◌, not, false, sym, ap, ◌∙◌, Option, Some, None, MatchOption, is_some, false≢true}
use Rattle.index_plain.proofs.PairLemmas.{without_nothing}
use Rattle.index_plain.proofs.pairs.remove.Goals as goal

when_none : {R : Type 0} (o : Option R) (N : Type 0) (S : R → Type 0) → is_some o ≡ false → MatchOption o N S → N
when_none None N S e h = h
when_none (Some r) N S e h = absurd (false≢true (sym e))

pub returns-then-is_none : goal.returns-then-is_none
returns-then-is_none g c =
    let a = g.met.A in
    let b = g.met.B in
    let none = when_none c.first_at.result _ _ (c.is_none.ensures ∙ ap not c.if-is_none.true) c.first_at.ensures in
    c.clear.ensures ∙ without_nothing a.Ord.total b.Ord.total a.Key.exact b.Key.exact _ c.args.first.now none ∙ c.take.ensures
