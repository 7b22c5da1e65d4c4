-- What the removal of a name sets off.
use Rattle.index_sql_schema.proofs.Words.{◌≡◌, Bool, true, List, [], ◌∷◌, ◌++◌, refl, sym, ap, subst, ◌∙◌, Row, plain, joined, same_name}
use Rattle.index_sql_schema.proofs.Words.{Enforced, Work, works, loses, index_schema, owners_at, yanks_at, cases_at, ℕ, zero, suc, Ok}
use Rattle.index_sql_schema.proofs.Words.{list_any, Trees, Table, Leads, Acts, is_child_of, subst₂, arith, delete_where, AreRows, Reference}
use Rattle.index_sql_schema.specs.Schema.{cascades_to}
use Rattle.index_sql_schema.proofs.EditLemmas.{KeepsOthers}
use Rattle.index_sql_schema.proofs.CascadeLemmas.{deleting, cascades}
use Rattle.std.specs.Prelude.{codes}

abbrev pub to_names : Reference
to_names = cascades_to 1 (codes "names") (codes "name")

-- no table refers to these three
pub no_works_6 : (olds : List Row) → works index_schema Enforced 1 6 olds [] ≡ []
unfolding same_name joined
no_works_6 olds = refl

pub no_works_13 : (olds : List Row) → works index_schema Enforced 1 13 olds [] ≡ []
unfolding same_name joined
no_works_13 olds = refl

pub no_works_15 : (olds : List Row) → works index_schema Enforced 1 15 olds [] ≡ []
unfolding same_name joined
no_works_15 olds = refl

-- a row that loses its name sets off three deletions
pub three_works : (r : Row) → loses plain (1 ∷ []) (r, []) ≡ true → works index_schema Enforced 0 4 (r ∷ []) []
    ≡ deleting 0 (owners_at 6) to_names (1 ∷ []) plain ((r, []) ∷ []) ∷ deleting 0 (yanks_at 13) to_names (1 ∷ []) plain ((r, []) ∷ [])
    ∷ deleting 0 (cases_at 15) to_names (1 ∷ []) plain ((r, []) ∷ []) ∷ []
unfolding same_name joined
three_works r lost = rw lost refl

-- the last of a list of three
last_two : (below : List Work) (w x y z : Work) → x ∷ y ∷ z ∷ [] ≡ below ++ w ∷ [] → (below ≡ x ∷ y ∷ []) × (w ≡ z)
last_two [] w x y z e = absurd (let f = e in cc)
last_two (a ∷ []) w x y z e = absurd (let f = e in cc)
last_two (a ∷ b ∷ []) w x y z e = (cc, cc)
last_two (a ∷ b ∷ c ∷ []) w x y z e = absurd (let f = e in cc)
last_two (a ∷ b ∷ c ∷ d ∷ more) w x y z e = absurd (let f = e in cc)

last_one : (below : List Work) (w x y : Work) → x ∷ y ∷ [] ≡ below ++ w ∷ [] → (below ≡ x ∷ []) × (w ≡ y)
last_one [] w x y e = absurd (let f = e in cc)
last_one (a ∷ []) w x y e = (cc, cc)
last_one (a ∷ b ∷ []) w x y e = absurd (let f = e in cc)
last_one (a ∷ b ∷ c ∷ more) w x y e = absurd (let f = e in cc)

last_none : (below : List Work) (w x : Work) → x ∷ [] ≡ below ++ w ∷ [] → (below ≡ []) × (w ≡ x)
last_none [] w x e = (cc, cc)
last_none (a ∷ []) w x e = absurd (let f = e in cc)
last_none (a ∷ b ∷ more) w x e = absurd (let f = e in cc)

module _ (r : Row) where
  abbrev pub cascade : Table → Work
  cascade child = deleting 0 child to_names (1 ∷ []) plain ((r, []) ∷ [])

  abbrev pub hit : Table → Row → Bool
  hit child row = list_any (is_child_of (cascade child) row) ((r, []) ∷ [])

  settled : (n : ℕ) (db next : Trees) → Leads index_schema Enforced n db [] (Ok next) → next ≡ db
  settled zero db next h = let e = h.1 in cc
  settled (suc n) db next h = nothing_left h.0 h.1 h.2
    where
      nothing_left : (below : List Work) (w : Work) → [] ≡ below ++ w ∷ [] → next ≡ db
      nothing_left [] w e = absurd (let f = e in cc)
      nothing_left (a ∷ more) w e = absurd (let f = e in cc)

  one_left : (n : ℕ) (db next : Trees) → AreRows (db 6) → Leads index_schema Enforced n db (cascade (owners_at 6) ∷ []) (Ok next)
      → (next 6 ≡ delete_where (hit (owners_at 6)) (db 6)) × KeepsOthers 6 db next
  one_left zero db next p h = absurd (let e = h.0 in cc)
  one_left (suc n) db next p h =
      let e = last_none h.0 h.1 _ h.2 in
      let acts = subst₂ (λ b w. Acts index_schema Enforced (Leads index_schema Enforced n) db w b (Ok next)) e.0 e.1 h.3 in
      let did = cascades index_schema Enforced 0 (owners_at 6) to_names (1 ∷ []) plain ((r, []) ∷ []) refl no_works_6 n db next [] p acts in
      let same = settled n did.0 next did.3 in
      (ap (λ (t : Trees). t 6) same ∙ did.1, subst (λ t. KeepsOthers 6 db t) (sym same) did.2)

  two_left : (n : ℕ) (db next : Trees) → AreRows (db 6) → AreRows (db 13)
      → Leads index_schema Enforced n db (cascade (owners_at 6) ∷ cascade (yanks_at 13) ∷ []) (Ok next)
      → (next 6 ≡ delete_where (hit (owners_at 6)) (db 6)) × (next 13 ≡ delete_where (hit (yanks_at 13)) (db 13)) × (mid : Trees)
      × KeepsOthers 13 db mid × KeepsOthers 6 mid next
  two_left zero db next p q h = absurd (let e = h.0 in cc)
  two_left (suc n) db next p q h =
      let e = last_one h.0 h.1 _ _ h.2 in
      let acts = subst₂ (λ b w. Acts index_schema Enforced (Leads index_schema Enforced n) db w b (Ok next)) e.0 e.1 h.3 in
      let did = cascades index_schema Enforced 0 (yanks_at 13) to_names (1 ∷ []) plain ((r, []) ∷ []) refl no_works_13 n db next
      (cascade (owners_at 6) ∷ []) q acts in
      let at6 : did.0 6 ≡ db 6 = did.2.1.1.1.0 (omega arith) in
      let rest = one_left n did.0 next (subst AreRows (sym at6) p) did.3 in
      let at13 : next 13 ≡ did.0 13 = rest.1.1.1.1.1.1.1.0 (omega arith) in
      (rest.0 ∙ ap (delete_where (hit (owners_at 6))) at6, at13 ∙ did.1, did.0, did.2, rest.1)

  -- the three tables lose the rows of that name, and nothing else
  pub three_left : (n : ℕ) (db next : Trees) → AreRows (db 6) → AreRows (db 13) → AreRows (db 15)
      → Leads index_schema Enforced n db (cascade (owners_at 6) ∷ cascade (yanks_at 13) ∷ cascade (cases_at 15) ∷ []) (Ok next)
      → (next 6 ≡ delete_where (hit (owners_at 6)) (db 6)) × (next 13 ≡ delete_where (hit (yanks_at 13)) (db 13))
      × (next 15 ≡ delete_where (hit (cases_at 15)) (db 15))
      × (next 0 ≡ db 0) × (next 1 ≡ db 1) × (next 4 ≡ db 4) × (next 8 ≡ db 8) × (next 11 ≡ db 11) × (next 17 ≡ db 17)
  three_left zero db next p q s h = absurd (let e = h.0 in cc)
  three_left (suc n) db next p q s h =
      let e = last_two h.0 h.1 _ _ _ h.2 in
      let acts = subst₂ (λ b w. Acts index_schema Enforced (Leads index_schema Enforced n) db w b (Ok next)) e.0 e.1 h.3 in
      let did = cascades index_schema Enforced 0 (cases_at 15) to_names (1 ∷ []) plain ((r, []) ∷ []) refl no_works_15 n db next
      (cascade (owners_at 6) ∷ cascade (yanks_at 13) ∷ []) s acts in
      let at6 : did.0 6 ≡ db 6 = did.2.1.1.1.0 (omega arith) in
      let at13 : did.0 13 ≡ db 13 = did.2.1.1.1.1.1.1.0 (omega arith) in
      let rest = two_left n did.0 next (subst AreRows (sym at6) p) (subst AreRows (sym at13) q) did.3 in
      let mid = rest.2 in
      let at15 : next 15 ≡ did.0 15 = rest.4.1.1.1.1.1.1.1.0 (omega arith) ∙ rest.3.1.1.1.1.1.1.1.0 (omega arith) in (
        rest.0 ∙ ap (delete_where (hit (owners_at 6))) at6,
        rest.1 ∙ ap (delete_where (hit (yanks_at 13))) at13,
        at15 ∙ did.1,
        rest.4.0 (omega arith) ∙ rest.3.0 (omega arith) ∙ did.2.0 (omega arith),
        rest.4.1.0 (omega arith) ∙ rest.3.1.0 (omega arith) ∙ did.2.1.0 (omega arith),
        rest.4.1.1.0 (omega arith) ∙ rest.3.1.1.0 (omega arith) ∙ did.2.1.1.0 (omega arith),
        rest.4.1.1.1.1.0 (omega arith) ∙ rest.3.1.1.1.1.0 (omega arith) ∙ did.2.1.1.1.1.0 (omega arith),
        rest.4.1.1.1.1.1.0 (omega arith) ∙ rest.3.1.1.1.1.1.0 (omega arith) ∙ did.2.1.1.1.1.1.0 (omega arith),
        rest.4.1.1.1.1.1.1.1.1.0 (omega arith) ∙ rest.3.1.1.1.1.1.1.1.1.0 (omega arith) ∙ did.2.1.1.1.1.1.1.1.1.0 (omega arith),
      )
