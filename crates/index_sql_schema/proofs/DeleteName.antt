-- DELETE FROM names: the name is free, and its owners, yanks and case go.
use Rattle.index_sql_schema.proofs.Words.{◌≡◌, ◌≢◌, ℕ, ℤ, pos, Bool, true, false, not, cond, ◌&&◌, List, [], ◌∷◌, ◌++◌, codes, filter, map}
use Rattle.index_sql_schema.proofs.Words.{Option, Some, None, Ok, refl, sym, ap, ap₂, subst, ◌∙◌, int_eq, IsPermutation, AllByRecursion}
use Rattle.index_sql_schema.proofs.Words.{list_all, list_any, bytes_eq, eq_by_cmp, exact_bytes, is_eq-slice_cmp, bytes_eq-Decides}
use Rattle.index_sql_schema.proofs.Words.{everything, Value, Null, Text, Row, column, joined, Trees, col, holds, same_name, Enforced}
use Rattle.index_sql_schema.proofs.Words.{Delete, works, row_at, understood, State, Executes, IsPlain, command_of, delete_where, all_weaker}
use Rattle.index_sql_schema.proofs.Words.{all_both, Bytes, same, bytes_cmp, map_from, nat_list_cmp_total, pair_total, exact_pair, tables_in}
use Rattle.index_sql_schema.proofs.Words.{text_key, user_in, case_in, pair_key, name_in, nothing_in, reason_in, file_in, body_in}
use Rattle.index_sql_schema.proofs.Words.{index_schema, names_at, owners_at, yanks_at, cases_at, rowid_in, IsIndex, Changes, ◌≤◌, ◌||◌}
use Rattle.index_sql_schema.proofs.Words.{true≢false, inl, inr, ◌⊎◌, find, arith, ints, plain, first_key, has_rowid, Table, agree}
use Rattle.index_sql_schema.proofs.Words.{parent_key, is_null, Has, Writes, Leads, loses, edit_of, taken_by, ids_of, Given, Does, Database}
use Rattle.index_sql_schema.proofs.Words.{mode_of, runs_as, statement_of, one_step, Program, map-map, all-filter, Schema, IsRecordIn}
use Rattle.index_sql_schema.proofs.Words.{AreRecords, AreRecordsIn, AreRecordsOf, AreRows, same_int, length, IsPermutation-refl, Reference}
use Rattle.index_sql_schema.proofs.Permutations.{short_permutation}
use Rattle.index_sql_schema.proofs.QueryShapes.{plan, from_one, is_param}
use Rattle.index_sql_schema.proofs.KeyLemmas.{IsText, IsPair, agree_texts}
use Rattle.index_sql_schema.proofs.KeyedLemmas.{once, gone_is, kept_is}
use Rattle.index_sql_schema.proofs.RowLemmas.{or_false}
use Rattle.index_sql_schema.proofs.TableLemmas.{is_key, key_test, cases_keyed, names_keyed, owners_keyed, yanks_keyed}
use Rattle.sqlite_sql.specs.Ops.{binary}
use Rattle.sqlite_schema.specs.declared.schema.Constraint.TheVariants.{ForeignKey}
use Rattle.sqlite_schema.specs.Rules.{has_parent, is_held}
use Rattle.sqlite_keyed.proofs.ListLemmas.{filter_same}
use Rattle.index_sql_schema.proofs.EditLemmas.{has_is, has_all, has_filter, filter_passes, one_row, matched_gone, kept_rows}
use Rattle.index_sql_schema.proofs.KeyLemmas.{passing}
use Rattle.index_sql_schema.proofs.TypedLemmas.{first_part}
use Rattle.index_sql_schema.proofs.StatementLemmas.{delete_edit}
use Rattle.index_sql_schema.proofs.WriteLemmas.{answered, edit_with}
use Rattle.index_sql_schema.proofs.RemoveLemmas.{three_works, three_left, hit, to_names}
use Rattle.index_sql_schema.specs.StatementTexts.{delete_name_text}
use Rattle.index_rules.specs.Effect.{without_record}

compiled : command_of (understood index_schema delete_name_text) ≡ Delete 2 (plan (from_one 4 (is_param 1 0 ∷ []) (col 1 0 ∷ []) []))
unfolding understood everything
compiled = refl

is_plain : IsPlain (understood index_schema delete_name_text)
unfolding understood everything
is_plain = (refl, refl)

keyless : (r : Row) → IsText 1 r → agree plain (1 ∷ []) r (1 ∷ []) [] ≡ false
unfolding first_key binary
keyless r is = rw is refl

lost_name : (r : Row) → IsText 1 r → loses plain (1 ∷ []) (r, []) ≡ true
lost_name r is = ap₂ (λ a b. a && not b) (agree_texts r r is is ∙ (bytes_eq-Decides (text_key r) (text_key r)).1 refl) (keyless r is)

-- the row that has the rowid
row_at_one : (rows : List Row) (r : Row) → AreRows rows → Has rows r → row_at rows (rowid_in r) ≡ r
row_at_one [] r are none = absurd none
row_at_one (x ∷ rows) r are h = go (has_rowid (rowid_in r) x) refl h (row_at_one rows r (are.0.1, are.1.1))
  where
    itself : int_eq (rowid_in r) (rowid_in r) ≡ true
    itself = grind (arith, ints)

    go : (b : Bool) → has_rowid (rowid_in r) x ≡ b → Has (x ∷ rows) r → (Has rows r → row_at rows (rowid_in r) ≡ r)
        → Rattle.std.proofs.Common.unwrap_or (cond b (Some x) (find (has_rowid (rowid_in r)) rows)) [] ≡ r
    go true e k more = one_row (x ∷ rows) x r are.0 (inl refl) k
        (same_int (rowid_in x) (rowid_in r) (sym (has_is (rowid_in r) x are.1.0) ∙ e))
    go false e (inl same) more = absurd (true≢false
        (sym itself ∙ ap (λ y. int_eq (rowid_in y) (rowid_in r)) same ∙ sym (has_is (rowid_in r) x are.1.0) ∙ e))
    go false e (inr k) more = more k

some_has : {A : Type 0} (p : A → Bool) (xs : List A) → list_any p xs ≡ true → (x : A) × Has xs x × (p x ≡ true)
some_has p [] h = absurd (true≢false (sym h))
some_has {A = A} p (x ∷ xs) h = go (p x) refl h (some_has p xs)
  where
    go : (b : Bool) → p x ≡ b → (b || list_any p xs) ≡ true → (list_any p xs ≡ true → (y : A) × Has xs y × (p y ≡ true))
        → (y : A) × Has (x ∷ xs) y × (p y ≡ true)
    go true e k more = (x, inl refl, e)
    go false e k more = let it = more k in (it.0, inr it.1, it.2)

nothing_works : works index_schema Enforced 0 4 [] [] ≡ []
unfolding same_name joined
nothing_works = refl

cases_short : {A : Type 0} (xs : List A) → length xs ≤ 1 → (xs ≡ []) ⊎ ((x : A) × (xs ≡ x ∷ []))
cases_short [] short = inl refl
cases_short (x ∷ []) short = inr (x, refl)
cases_short (x ∷ y ∷ xs) short = absurd (omega arith)

none_gone : {A : Type 0} (p : A → Bool) (xs : List A) → filter p xs ≡ [] → delete_where p xs ≡ xs
none_gone p [] e = refl
none_gone p (x ∷ xs) e = go (p x) e (none_gone p xs)
  where
    go : (b : Bool) → cond b (x ∷ filter p xs) (filter p xs) ≡ [] → (filter p xs ≡ [] → delete_where p xs ≡ xs)
        → cond (not b) (x ∷ delete_where p xs) (delete_where p xs) ≡ x ∷ xs
    go true f more = absurd (let g = f in cc)
    go false f more = ap (λ l. x ∷ l) (more f)

key_of : parent_key index_schema.tables to_names ≡ Some (4, 1 ∷ [], plain)
unfolding same_name joined
key_of = refl

not_null : (v : Value) (t : Bytes) (held : Bool) → v ≡ Text t → ((is_null v || false) || held) ≡ true → held ≡ true
not_null v t held e h = subst (λ w. ((is_null w || false) || held) ≡ true) e h

held_by : (db : Database) (row : Row) → IsText 1 row → has_parent index_schema.tables db.trees row to_names ≡ true
    → list_any (λ parent. agree plain (1 ∷ []) parent (1 ∷ []) row) (db.trees 4) ≡ true
held_by db row is h = not_null (column row 1) _ _ is
    (subst (λ key. ((is_null (column row 1) || false) || is_held db.trees (1 ∷ []) row key) ≡ true) key_of h)

module _ (name : Bytes) where
  abbrev named : Row → Bool
  named r = eq_by_cmp bytes_cmp name (text_key r)

  -- the children of a row of this name are the rows of this name
  hit_is : (child : Table) (r row : Row) → IsText 1 r → IsText 1 row → text_key r ≡ name → hit r child row ≡ same name (text_key row)
  hit_is child r row is one key =
      or_false _ ∙ ap (λ b. b && agree plain (1 ∷ []) row (1 ∷ []) r) (lost_name r is) ∙ agree_texts r row is one
      ∙ ap (bytes_eq (text_key row)) key ∙ is_key name (text_key row) ∙ is_eq-slice_cmp name (text_key row)

  -- ---- if no row has the name, no child has it either

  unparented : (parents : List Row) (row : Row) → AllByRecursion (IsText 1) parents → IsText 1 row → filter named parents ≡ []
      → list_any (λ parent. agree plain (1 ∷ []) parent (1 ∷ []) row) parents ≡ true → same name (text_key row) ≡ false
  unparented parents row all is none any = go (same name (text_key row)) refl
    where
      go : (b : Bool) → same name (text_key row) ≡ b → b ≡ false
      go false e = refl
      go true e =
          let found = some_has (λ parent. agree plain (1 ∷ []) parent (1 ∷ []) row) parents any in
          let parent = found.0 in
          let keys : text_key parent ≡ text_key row =
          (bytes_eq-Decides (text_key parent) (text_key row)).0
          (sym (agree_texts row parent is (has_all (IsText 1) parents parent all found.1)) ∙ found.2) in
          let here : named parent ≡ true = is_eq-slice_cmp name (text_key parent) ∙ ap (same name) keys ∙ e in
          absurd (subst (λ l. Has l parent) none (has_filter named parents parent found.1 here))

  -- a table whose first reference is to names, from its first column
  abbrev RefersFirst : Table → Type 0
  RefersFirst child = (more : List Reference) × (child.references ≡ to_names ∷ more)

  childless : (at : ℕ) (child : Table) (is : Rattle.std.proofs.Common.slice_get index_schema.tables at ≡ Some child) → RefersFirst child
      → (db : Database) (h : IsIndex db) → AllByRecursion (IsText 1) (db.trees child.tree)
      → filter named (db.trees 4) ≡ [] → AllByRecursion (λ row. same name (text_key row) ≡ false) (db.trees child.tree)
  childless at child is refers db h all none =
      all_both (IsText 1) _ (λ row. same name (text_key row) ≡ false) one (db.trees child.tree) all (passing at child is db h ForeignKey)
    where
      one : (row : Row) → IsText 1 row → list_all (has_parent index_schema.tables db.trees row) child.references ≡ true
          → same name (text_key row) ≡ false
      one row t passes_all =
          let first : has_parent index_schema.tables db.trees row to_names ≡ true =
          first_part _ _ (subst (λ refs. list_all (has_parent index_schema.tables db.trees row) refs ≡ true) refers.1 passes_all) in
          unparented (db.trees 4) row (names_keyed.texts db h) t none (held_by db row t first)

  kept_all : (rows : List Row) → AllByRecursion (λ row. same name (text_key row) ≡ false) rows
      → filter (λ row. not (same name (text_key row))) rows ≡ rows
  kept_all [] all = refl
  kept_all (r ∷ rows) all = rw all.0 (ap (λ l. r ∷ l) (kept_all rows all.1))

  -- what the statement leaves
  pub record Dropped (db next : Trees) : Type 0 where
    pub names : next 4 ≡ delete_where named (db 4)
    pub owners : next 6 ≡ filter (λ row. not (same name (text_key row))) (db 6)
    pub yanks : next 13 ≡ filter (λ row. not (same name (text_key row))) (db 13)
    pub cases : next 15 ≡ filter (λ row. not (same name (text_key row))) (db 15)
    pub rest : (next 0 ≡ db 0) × (next 1 ≡ db 1) × (next 8 ≡ db 8) × (next 11 ≡ db 11) × (next 17 ≡ db 17)

  indexed : (old new : Database) → IsIndex old → new.schema ≡ index_schema → Rattle.sqlite.specs.Effect.IsDatabase new
      → Dropped old.trees new.trees → IsIndex new
  indexed old new h schema sound d =
      let n = h.numbered in
      let gone : Row → Bool = λ row. same name (text_key row) in
      record {
        schema = schema;
        sound = sound;
        numbered = (
          subst AreRows (sym d.rest.0) n.0,
          (
            subst AreRows (sym d.rest.1) n.1.0,
            (
              subst AreRows (sym d.names) (kept_rows named (old.trees 4) n.1.1.0),
              (
                subst AreRows (sym d.owners) (kept_rows gone (old.trees 6) n.1.1.1.0),
                (
                  subst AreRows (sym d.rest.2) n.1.1.1.1.0,
                  (
                    subst AreRows (sym d.rest.3) n.1.1.1.1.1.0,
                    (
                      subst AreRows (sym d.yanks) (kept_rows gone (old.trees 13) n.1.1.1.1.1.1.0),
                      (
                        subst AreRows (sym d.cases) (kept_rows gone (old.trees 15) n.1.1.1.1.1.1.1.0),
                        (subst AreRows (sym d.rest.4) n.1.1.1.1.1.1.1.1.0, tt),
                      ),
                    ),
                  ),
                ),
              ),
            ),
          ),
        );
      }

  -- of the tables that lose rows, those that stay are records
  recorded : (old new : Database) → IsIndex old → IsIndex new → Dropped old.trees new.trees → AreRecords old → AreRecords new
  recorded old new h g d before =
      let was = subst (λ (s : Schema). AreRecordsOf s.tables old.trees) h.schema before in
      let gone : Row → Bool = λ row. same name (text_key row) in
      let left : (tree : ℕ) (p : Row → Bool) → new.trees tree ≡ filter p (old.trees tree) → AreRecordsIn old.trees tree
      → AreRecordsIn new.trees tree =
      λ tree p is rows. subst (AllByRecursion (IsRecordIn tree)) (sym is) (all-filter (IsRecordIn tree) p (old.trees tree) rows) in
      let all : (tree : ℕ) → new.trees tree ≡ old.trees tree → AreRecordsIn old.trees tree → AreRecordsIn new.trees tree =
      λ tree is rows. subst (AllByRecursion (IsRecordIn tree)) (sym is) rows in
      let kept : AreRecordsOf index_schema.tables new.trees = (
        all 0 d.rest.0 was.0,
        (
          all 1 d.rest.1 was.1.0,
          (
            left 4 (λ row. not (named row)) d.names was.1.1.0,
            (
              left 6 (λ row. not (gone row)) d.owners was.1.1.1.0,
              (
                all 8 d.rest.2 was.1.1.1.1.0,
                (
                  all 11 d.rest.3 was.1.1.1.1.1.0,
                  (
                    left 13 (λ row. not (gone row)) d.yanks was.1.1.1.1.1.1.0,
                    (left 15 (λ row. not (gone row)) d.cases was.1.1.1.1.1.1.1.0, (all 17 d.rest.4 was.1.1.1.1.1.1.1.1.0, tt)),
                  ),
                ),
              ),
            ),
          ),
        ),
      ) in
      subst (λ (s : Schema). AreRecordsOf s.tables new.trees) (sym g.schema) kept

  gone_case : (row : Row) → not (same name (text_key row)) ≡ not (eq_by_cmp bytes_cmp name (text_key row))
  gone_case row = ap not (sym (is_eq-slice_cmp name (text_key row)))

  tables_after : (old new : Database) → Dropped old.trees new.trees → tables_in new.trees ≡ without_record name (tables_in old.trees)
  tables_after old new d =
      let names = gone_is nat_list_cmp_total exact_bytes text_key name_in 4 names_keyed.apart old new name d.names in
      let owners = kept_is pair_total exact_pair pair_key nothing_in 6 owners_keyed.apart old new (λ pair. not (same name pair.0))
      d.owners in
      let yanks = kept_is pair_total exact_pair pair_key reason_in 13 yanks_keyed.apart old new (λ pair. not (same name pair.0)) d.yanks in
      let cases = gone_is nat_list_cmp_total exact_bytes text_key case_in 15 cases_keyed.apart old new name
      (d.cases ∙ filter_same _ _ gone_case (old.trees 15)) in
      λ i. record {
        users = map_from {R = bytes_cmp} text_key user_in (d.rest.1 i);
        names = names i;
        owners = owners i;
        files = map_from {R = bytes_cmp} text_key file_in (d.rest.2 i);
        bodies = map_from {R = bytes_cmp} text_key body_in (d.rest.3 i);
        yanks = yanks i;
        cases = cases i;
        bans = map_from {R = bytes_cmp} text_key nothing_in (d.rest.4 i);
      }

  -- no row has the name, so nothing goes
  dropped_none : (old : Database) (next : Trees) → IsIndex old → filter named (old.trees 4) ≡ []
      → Writes index_schema Enforced old.trees (edit_with (names_at 4) [] []) (Ok next) → Dropped old.trees next
  dropped_none old next h none wrote =
      let it = one_step index_schema Enforced old.trees next (edit_with (names_at 4) [] []) nothing_works wrote in
      let t = it.tables in
      let free_owners = childless 3 (owners_at 6) refl (
        _,
        refl,
      ) old h (all_weaker IsPair (IsText 1) (λ r p. p.0) (old.trees 6) (owners_keyed.pairs old h)) none in
      let free_yanks = childless 6 (yanks_at 13) refl (
        _,
        refl,
      ) old h (all_weaker IsPair (IsText 1) (λ r p. p.0) (old.trees 13) (yanks_keyed.pairs old h)) none in
      let free_cases = childless 7 (cases_at 15) refl (_, refl) old h (cases_keyed.texts old h) none in
      record {
        names = it.rows ∙ sym (none_gone named (old.trees 4) none);
        owners = t.1.1.1.0 (omega arith) ∙ sym (kept_all (old.trees 6) free_owners);
        yanks = t.1.1.1.1.1.1.0 (omega arith) ∙ sym (kept_all (old.trees 13) free_yanks);
        cases = t.1.1.1.1.1.1.1.0 (omega arith) ∙ sym (kept_all (old.trees 15) free_cases);
        rest = (
          t.0 (omega arith),
          t.1.0 (omega arith),
          t.1.1.1.1.0 (omega arith),
          t.1.1.1.1.1.0 (omega arith),
          t.1.1.1.1.1.1.1.1.0 (omega arith),
        );
      }

  hits_gone : (child : Table) (r : Row) (rows : List Row) → IsText 1 r → text_key r ≡ name → AllByRecursion (IsText 1) rows
      → delete_where (hit r child) rows ≡ filter (λ row. not (same name (text_key row))) rows
  hits_gone child r [] is key all = refl
  hits_gone child r (x ∷ rows) is key all = rw (hit_is child r x is all.0 key)
      (ap (λ l. cond (not (same name (text_key x))) (x ∷ l) l) (hits_gone child r rows is key all.1))

  -- the row of the name goes, and its children
  dropped_one : (old : Database) (next : Trees) → IsIndex old → (r : Row) → filter named (old.trees 4) ≡ r ∷ []
      → Writes index_schema Enforced old.trees (edit_with (names_at 4) (r ∷ []) []) (Ok next) → Dropped old.trees next
  dropped_one old next h r one (inl refused) = absurd (let e = refused.2 in cc)
  dropped_one old next h r one (inr (inl big)) = absurd (let e = big.3 in cc)
  dropped_one old next h r one (inr (inr did)) =
      let db = old.trees in
      let n = h.numbered in
      let both = subst (AllByRecursion (λ x. Has (db 4) x × (named x ≡ true))) one (filter_passes named (db 4)) in
      let is = has_all (IsText 1) (db 4) r (names_keyed.texts old h) both.0.0 in
      let key : text_key r ≡ name = (bytes_eq-Decides (text_key r) name).0 (is_key name (text_key r) ∙ both.0.1) in
      let olds : taken_by db (edit_with (names_at 4) (r ∷ []) []) ≡ r ∷ [] = ap (λ x. x ∷ []) (row_at_one (db 4) r n.1.1.0 both.0.0) in
      let stack = subst (λ ws. Leads index_schema Enforced did.2.0 did.0 ws (Ok next)) (three_works r (lost_name r is))
      (subst (λ os. Leads index_schema Enforced did.2.0 did.0 (works index_schema Enforced 0 4 os []) (Ok next)) olds did.2.1) in
      let t = did.1.tables in
      let at4 : did.0 4 ≡ delete_where named (db 4) =
      did.1.rows ∙ matched_gone (db 4) (r ∷ []) named n.1.1.0
      (subst (λ l. IsPermutation l (r ∷ [])) (sym one) (IsPermutation-refl (r ∷ []))) in
      let at6 : did.0 6 ≡ db 6 = t.1.1.1.0 (omega arith) in
      let at13 : did.0 13 ≡ db 13 = t.1.1.1.1.1.1.0 (omega arith) in
      let at15 : did.0 15 ≡ db 15 = t.1.1.1.1.1.1.1.0 (omega arith) in
      let all = three_left r did.2.0 did.0 next (subst AreRows (sym at6) n.1.1.1.0) (subst AreRows (sym at13) n.1.1.1.1.1.1.0)
      (subst AreRows (sym at15) n.1.1.1.1.1.1.1.0) stack in
      record {
        names = all.5 ∙ at4;
        owners = all.0 ∙ ap (delete_where (hit r (owners_at 6))) at6
            ∙ hits_gone (owners_at 6) r (db 6) is key (all_weaker IsPair (IsText 1) (λ x p. p.0) (db 6) (owners_keyed.pairs old h));
        yanks = all.1 ∙ ap (delete_where (hit r (yanks_at 13))) at13
            ∙ hits_gone (yanks_at 13) r (db 13) is key (all_weaker IsPair (IsText 1) (λ x p. p.0) (db 13) (yanks_keyed.pairs old h));
        cases = all.2 ∙ ap (delete_where (hit r (cases_at 15))) at15 ∙ hits_gone (cases_at 15) r (db 15) is key (cases_keyed.texts old h);
        rest = (
          all.3 ∙ t.0 (omega arith),
          all.4 ∙ t.1.0 (omega arith),
          all.6 ∙ t.1.1.1.1.0 (omega arith),
          all.7 ∙ t.1.1.1.1.1.0 (omega arith),
          all.8 ∙ t.1.1.1.1.1.1.1.1.0 (omega arith),
        );
      }

  pub deletes : (old new : State) (count : ℕ) → IsIndex old.now → Executes delete_name_text (Text name ∷ []) old new (Ok count)
      → Changes (without_record name) old.now new.now
  deletes old new count h ran =
      let db = old.now.trees in
      let params = Text name ∷ [] in
      let q : Program = plan (from_one 4 (is_param 1 0 ∷ []) (col 1 0 ∷ []) []) in
      let w = runs_as delete_name_text params old new index_schema h.schema (Delete 2 q) compiled is_plain count ran in
      let t = statement_of delete_name_text (understood index_schema delete_name_text) in
      let did = subst (λ s. Does old.step_limit (mode_of old) params (record { schema = s; trees = db }) t None (Delete 2 q)
      (Ok (w.tally, new.now))) h.schema w.changed in
      let wrote = delete_edit old.step_limit (mode_of old) params index_schema db t 2 (names_at 4) refl w.tally new.now q did in
      let tests = all_weaker (IsText 1) (λ r. list_all (holds (params ∷ r ∷ [])) (is_param 1 0 ∷ []) ≡ named r)
      (λ r. key_test params 0 name r refl) (db 4) (names_keyed.texts old.now h) in
      let found = answered 2 (names_at 4) refl (λ d. refl) params (is_param 1 0 ∷ []) (col 1 0 ∷ []) named db wrote.0 tests
      (wrote.1.answer Null) in
      let short = once nat_list_cmp_total exact_bytes text_key name_in 4 names_keyed.apart old.now h name in
      let ids : ids_of wrote.0 ≡ map rowid_in found.0 = ap ids_of found.2 ∙ map-map _ _ found.0 in
      let edit : edit_of db (names_at 4) (ids_of wrote.0) Given 0 [] ≡ edit_with (names_at 4) (filter named (db 4)) [] =
      ap (λ gone. record { table = names_at 4; gone = gone; news = [] })
      (ids ∙ ap (map rowid_in) (short_permutation _ found.0 short found.1)) in
      let writes = subst (λ e. Writes index_schema Enforced db e (Ok new.now.trees)) edit wrote.3 in
      let dropped : Dropped db new.now.trees = elim (cases_short (filter named (db 4)) short) [
        | inl none ↦ dropped_none old.now new.now.trees h none
            (subst (λ l. Writes index_schema Enforced db (edit_with (names_at 4) l []) (Ok new.now.trees)) none writes)
        | inr one ↦ dropped_one old.now new.now.trees h one.0 one.1
            (subst (λ l. Writes index_schema Enforced db (edit_with (names_at 4) l []) (Ok new.now.trees)) one.1 writes)
      ] in
      let index = indexed old.now new.now h wrote.2 w.sound dropped in
      record {
        tables = tables_after old.now new.now dropped;
        index = index;
        meta = dropped.rest.0;
        records = recorded old.now new.now h index dropped;
      }
