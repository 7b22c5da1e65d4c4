use Rattle.index_tables.proofs.Words.{◌≡◌, ◌⊎◌, ◌∙◌, ap, subst, Image, over_files, file_state, state, HasCleanDisk, tables_of, Tables}
use Rattle.index_tables.proofs.Words.{BooksState, IsHonest, Leaves, IsRaised, IsReason, MayLeave, IsLeft, IsOver, OpensOnly}
use Rattle.index_tables.proofs.ReopenLemmas.{opens_rest, opens_either, opens_if_clean}
use Rattle.index_tables.proofs.laws.left_is_found_again.Goals as goal

pub returns-clause-rest : goal.returns-clause-rest
returns-clause-rest g c =
    let found = c.adopt-opened.ensures in
    let before = c.left_by-before.ensures in
    subst (λ held. (left : Image) → IsHonest 2 (file_state held) → IsLeft held left
    → (HasCleanDisk (state g.S.Store c.args.conn) → IsOver left (state g.S.Store c.args.conn))
    → OpensOnly g.S.Store (λ T. T ≡ tables_of over_files held) c.adopt-opened.result)
    (c.before-2.view_is ∙ ap (λ (k : BooksState _). k.conn) c.books.view_is)
    (λ left honest is_left over.
    opens_if_clean g.S.Store c.args.conn left over (λ T. T ≡ tables_of over_files c.before-2.inside.conn) IsRaised (IsReason g.S.Store)
    c.adopt-opened.result found.adopts.opened found.adopts.refused
    (λ it. opens_rest g.S.Store c.before-2.inside.conn c.args.conn left it (before.numbered honest.clean) (before.databases honest.clean)
    honest before.settled is_left
    c.adopt-opened.result found.adopts.found found.again))

pub returns-clause-during : goal.returns-clause-during
returns-clause-during g c =
    let found = c.adopt-opened.ensures in
    let before = c.left_by-before.ensures in
    subst (λ held. (left : Image) (A B : Tables) → HasCleanDisk (file_state held)
    → ((T : Tables) → Leaves 2 (file_state held) T → (T ≡ A) ⊎ (T ≡ B)) → MayLeave held left
    → (HasCleanDisk (state g.S.Store c.args.conn) → IsOver left (state g.S.Store c.args.conn))
    → OpensOnly g.S.Store (λ T. ∥ (T ≡ A) ⊎ (T ≡ B) ∥₁) c.adopt-opened.result)
    (c.before-2.view_is ∙ ap (λ (k : BooksState _). k.conn) c.books.view_is)
    (λ left A B clean leaves may over.
    opens_if_clean g.S.Store c.args.conn left over (λ T. ∥ (T ≡ A) ⊎ (T ≡ B) ∥₁) IsRaised (IsReason g.S.Store)
    c.adopt-opened.result found.adopts.opened found.adopts.refused
    (λ it. opens_either g.S.Store c.before-2.inside.conn c.args.conn left it (before.numbered clean) (before.databases clean)
    A B clean leaves may c.adopt-opened.result found.adopts.found found.again))
