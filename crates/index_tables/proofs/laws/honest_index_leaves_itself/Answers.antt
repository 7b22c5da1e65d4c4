use Rattle.index_tables.proofs.Words.{◌≡◌, ◌∙◌, ap, subst, sym, state, tables_of, Tables, BooksState, HasVersion, IsHonest, Leaves}
use Rattle.index_tables.proofs.Words.{settled_at}
use Rattle.index_tables.proofs.laws.honest_index_leaves_itself.Goals as goal

pub returns-clause-itself : goal.returns-clause-itself
returns-clause-itself g c =
    subst (λ held. IsHonest g.V.Version.number (state g.S.Store held) → (T : Tables) → Leaves g.V.Version.number (state g.S.Store held) T
    → T ≡ tables_of g.S.Store held) (c.conn.view_is ∙ ap (λ (k : BooksState _). k.conn) c.books.view_is)
    (λ honest. settled_at honest c.left_by-conn.ensures.settled)

pub invariant_of-result-2 : goal.invariant_of-result-2
invariant_of-result-2 g c =
    let is : c.left_by-conn.result ≡ c.books.inside.conn = c.left_by-conn.ensures.same ∙ c.conn.view_is in
    subst (HasVersion g.V.Version.number g.S.Store) (sym is) c.books.invariant
