-- What a statement on one table does, whatever the table is.
use Rattle.index_sql_schema.proofs.Words.{◌≡◌, ◌≤◌, inl, inr, ℕ, ℤ, ◌/◌, Bool, true, false, not, cond, List, [], ◌∷◌, ◌++◌, map, filter}
use Rattle.index_sql_schema.proofs.Words.{drop, length, slice_get, Some, None, Ok, refl, sym, ap, ap₂, subst, subst₂, ◌∙◌, true≢false}
use Rattle.index_sql_schema.proofs.Words.{arith, IsPermutation, int_eq, AllByRecursion, list_all, ints, IsPermutation-refl}
use Rattle.index_sql_schema.proofs.Words.{IsPermutation-trans, IsPermutation-map, IsPermutation-cons, IsPermutation-middle, Value, Null}
use Rattle.index_sql_schema.proofs.Words.{Int, Row, column, Trees, rowid, Term, Env, col, op2, holds, eval_all, Output, IsAnswer, Join, end}
use Rattle.index_sql_schema.proofs.Words.{matches_as, overlay, Table, Enforced, Program, Update, Delete, InsertOr, Abort, Values, Binary}
use Rattle.index_sql_schema.proofs.Words.{Compare, Eq, conflicts, AreConflicts, Has, shown, stamped, cast_row, works, Writes, edit_of}
use Rattle.index_sql_schema.proofs.Words.{row_at, taken_by, numbered, without_all, put_all, are_fresh, id_in, next_rowid, with_rowid}
use Rattle.index_sql_schema.proofs.Words.{ids_of, Given, Chosen, Does, Answers, value_rows, understood, State, mode_of, Executes, IsPlain}
use Rattle.index_sql_schema.proofs.Words.{command_of, runs_as, statement_of, one_step, delete_where, all_of, all_weaker, all-filter}
use Rattle.index_sql_schema.proofs.Words.{all-append, all_map, map-map, along_permutation, same_int, last_term, index_schema, rowid_in}
use Rattle.index_sql_schema.proofs.Words.{HasRowid, AreRows, IsIndex, IsRecordIn, AreRecordsIn}
use Rattle.std.proofs.lemmas.List.Sorted.{IsPermutation-append_left}
use Rattle.sqlite_rules.specs.Edit.{Edit, Applies}
use Rattle.sqlite.proofs.Callers.{one_permutation}
use Rattle.sqlite_keyed.proofs.ListLemmas.{map_same}
use Rattle.index_sql_schema.proofs.Permutations.{all_permutation}
use Rattle.index_sql_schema.proofs.QueryShapes.{from_with, from_one, plan, on_conflict}
use Rattle.index_sql_schema.proofs.EditLemmas.{matched_gone, kept_rows, put_all_fresh, are_whole, given_stay, KeepsOthers, numbered_after}
use Rattle.index_sql_schema.proofs.EditLemmas.{Alters, altered, has_filter, members, one_row, has_all, as_int}
use Rattle.index_sql_schema.proofs.KeyLemmas.{are_rows, rowid_test}
use Rattle.index_sql_schema.proofs.SelectLemmas.{read, shown_of}
use Rattle.index_sql_schema.proofs.StatementLemmas.{update_edit, delete_edit, upsert_edit}

pub map_with : {A B : Type 0} (P : A → Type 0) (f g : A → B) → ((a : A) → P a → f a ≡ g a) → (xs : List A) → AllByRecursion P xs
    → map f xs ≡ map g xs
map_with P f g same [] all = refl
map_with P f g same (x ∷ xs) all = ap₂ ◌∷◌ (same x all.0) (map_with P f g same xs all.1)

-- the value behind a front
at_end : (xs : Row) (v : Value) (ys : Row) → column (xs ++ v ∷ ys) (length xs) ≡ v
at_end [] v ys = refl
at_end (x ∷ xs) v ys = at_end xs v ys

-- a permutation of images is the images of a permutation
module _ {A B : Type 0} (f : A → B) where
  abbrev Backs : List B → List B → Type 0
  Backs us vs = (xs : List A) → map f xs ≡ us → (zs : List A) × IsPermutation xs zs × (map f zs ≡ vs)

  back_skip : (x : B) (us vs : List B) → Backs us vs → Backs (x ∷ us) (x ∷ vs)
  back_skip x us vs more [] e = absurd (let f = e in cc)
  back_skip x us vs more (a ∷ xs) e =
      let it = more xs (cc) in
      let head : f a ≡ x = cc in
      (a ∷ it.0, IsPermutation-cons a xs it.0 it.1, ap₂ ◌∷◌ head it.2)

  back_turn : (x y : B) (us : List B) → Backs (x ∷ y ∷ us) (y ∷ x ∷ us)
  back_turn x y us [] e = absurd (let f = e in cc)
  back_turn x y us (a ∷ []) e = absurd (let f = e in cc)
  back_turn x y us (a ∷ b ∷ xs) e =
      let first : f a ≡ x = cc in
      let second : f b ≡ y = cc in
      let rest : map f xs ≡ us = cc in
      (b ∷ a ∷ xs, IsPermutation-middle (a ∷ []) b xs, ap₂ ◌∷◌ second (ap₂ ◌∷◌ first rest))

  pub images_back : (xs : List A) (vs : List B) → IsPermutation (map f xs) vs → (zs : List A) × IsPermutation xs zs × (map f zs ≡ vs)
  images_back xs vs p = along_permutation Backs
      (λ us xs e. (xs, IsPermutation-refl xs, e))
      back_skip
      back_turn
      (λ us vs ws g h xs e. let it = g xs e in let more = h it.0 it.2 in (more.0, IsPermutation-trans xs it.0 more.0 it.1 more.1, more.2))
      (map f xs) vs p xs refl

abbrev pub edit_with : Table → List Row → List Row → Edit
edit_with table found news = record { table = table; gone = map rowid_in found; news = news }

only : {A : Type 0} (xs : List A) (x : A) → length xs ≤ 1 → Has xs x → xs ≡ x ∷ []
only [] x short none = absurd none
only (y ∷ []) x short (inl e) = ap (λ z. z ∷ []) (sym e)
only (y ∷ []) x short (inr none) = absurd none
only (y ∷ z ∷ xs) x short h = absurd (omega arith)

the_one : {A : Type 0} (x r : A) → Has (r ∷ []) x → x ≡ r
the_one x r (inl e) = e
the_one x r (inr none) = absurd none

module _ (at : ℕ) (table : Table) (is : slice_get index_schema.tables at ≡ Some table) (low : (db : Trees)
    → overlay db [] table.tree ≡ db table.tree) where
  -- the rows of the table pass the tests as they pass p
  abbrev pub PassAs : (Row → Env) → List Term → (Row → Bool) → Trees → Type 0
  PassAs env tests p db = AllByRecursion (λ r. list_all (holds (env r)) tests ≡ p r) (db table.tree)

  abbrev pub TestsAs : Row → List Term → (Row → Bool) → Trees → Type 0
  TestsAs params = PassAs (λ r. params ∷ r ∷ [])

  -- each row is looked at once, with what is looked up for it
  abbrev pub LooksUp : Row → (Row → Env) → Join → List Term → Trees → Type 0
  LooksUp params env more tests db = (r : Row)
      → matches_as Null (overlay db []) tests more (params ∷ r ∷ []) ≡ cond (list_all (holds (env r)) tests) (env r ∷ []) []

  -- what a statement leaves beside its own table
  abbrev pub Leaves : State → State → Type 0
  Leaves old new = Alters table.tree old.now new.now × IsIndex new.now

  -- an answer has the rows that pass, in some order
  pub answered_with : (params : Row) (env : Row → Env) (more : Join) (tests project : List Term) (p : Row
      → Bool) (db : Trees) (rows : List Row) → LooksUp params env more tests db → PassAs env tests p db
      → IsAnswer (from_with table.tree more tests project []) (overlay db []) params rows
      → (found : List Row) × IsPermutation (filter p (db table.tree)) found × (rows ≡ map (λ r. eval_all project (env r)) found)
  answered_with params env more tests project p db rows looks same a =
      let passes = subst (AllByRecursion (λ r. list_all (holds (env r)) tests ≡ p r)) (sym (low db)) same in
      let each = all_of (λ r. matches_as Null (overlay db []) tests more (params ∷ r ∷ [])
      ≡ cond (list_all (holds (env r)) tests) (env r ∷ []) []) looks (overlay db [] table.tree) in
      let it = read table.tree more tests project [] (overlay db []) params env p each passes rows a in
      let shown = shown_of table.tree more tests project [] (overlay db []) params env p each passes in
      let back = images_back shown (filter p (db table.tree)) it.0
      (subst (λ rs. IsPermutation (map shown (filter p rs)) it.0) (low db) it.1) in
      (back.0, back.1, it.3 ∙ ap (map (λ (o : Output). o.1)) (sym back.2) ∙ map-map _ _ back.0)

  pub answered : (params : Row) (tests project : List Term) (p : Row → Bool) (db : Trees) (rows : List Row) → TestsAs params tests p db
      → IsAnswer (from_one table.tree tests project []) (overlay db []) params rows
      → (found : List Row) × IsPermutation (filter p (db table.tree)) found × (rows ≡ map (λ r. eval_all project (params ∷ r ∷ [])) found)
  answered params tests project p db rows = answered_with params (λ r. params ∷ r ∷ []) end tests project p db rows (λ r. refl)

  -- the edit that an update makes of its answer
  pub edit_is : (params : Row) (project : List Term) (p : Row → Bool) (f : Row → Row) (db : Trees) (rows : List Row)
      → AllByRecursion (λ r. cast_row table (eval_all project (params ∷ r ∷ [])) ≡ f r) (filter p (db table.tree))
      → ((found : List Row) × IsPermutation (filter p (db table.tree)) found
      × (rows ≡ map (λ r. eval_all (col 1 0 ∷ project) (params ∷ r ∷ [])) found))
      → (found : List Row) × IsPermutation (filter p (db table.tree)) found
      × (edit_of db table (ids_of rows) Given 1 rows ≡ edit_with table found (map f found))
  edit_is params project p f db rows casts found =
      let ids : ids_of rows ≡ map rowid_in found.0 = ap ids_of found.2 ∙ map-map _ _ found.0 in
      let cast_all = all_permutation _ (filter p (db table.tree)) found.0 found.1 casts in
      let news : map (λ s. cast_row table (drop 1 s)) rows ≡ map f found.0 =
      ap (map (λ s. cast_row table (drop 1 s))) found.2 ∙ map-map _ _ found.0 ∙ map_with _ _ f (λ r e. e) found.0 cast_all in (
        found.0,
        found.1,
        ap₂ (λ gone rs. record { table = table; gone = gone; news = numbered Given (without_all (db table.tree) gone) rs }) ids news
            ∙ ap (λ rs. record { table = table; gone = map rowid_in found.0; news = rs })
            (given_stay (without_all (db table.tree) (map rowid_in found.0)) (map f found.0)),
      )

  module _ (text : List ℕ) (params : Row) (plain : IsPlain (understood index_schema text)) (old new : State) (count : ℕ)
      (h : IsIndex old.now) where
    -- DELETE takes the rows out that pass
    pub deletes_with : (env : Row → Env) (more : Join) (tests : List Term) (p : Row → Bool)
        → command_of (understood index_schema text) ≡ Delete at (plan (from_with table.tree more tests (col 1 0 ∷ []) []))
        → ((olds : List Row) → works index_schema Enforced 0 table.tree olds [] ≡ [])
        → ((r : Row) → eval_all (col 1 0 ∷ []) (env r) ≡ rowid r ∷ []) → LooksUp params env more tests old.now.trees
        → PassAs env tests p old.now.trees → Executes text params old new (Ok count)
        → (new.now.trees table.tree ≡ delete_where p (old.now.trees table.tree)) × Leaves old new
    deletes_with env more tests p compiled none first looks same ran =
        let db = old.now.trees in
        let q : Program = plan (from_with table.tree more tests (col 1 0 ∷ []) []) in
        let w = runs_as text params old new index_schema h.schema (Delete at q) compiled plain count ran in
        let t = statement_of text (understood index_schema text) in
        let did = subst (λ s. Does old.step_limit (mode_of old) params (record { schema = s; trees = db }) t None (Delete at q)
        (Ok (w.tally, new.now))) h.schema w.changed in
        let wrote = delete_edit old.step_limit (mode_of old) params index_schema db t at table is w.tally new.now q did in
        let found = answered_with params env more tests (col 1 0 ∷ []) p db wrote.0 looks same (wrote.1.answer Null) in
        let ids : ids_of wrote.0 ≡ map rowid_in found.0 =
        ap ids_of found.2 ∙ map-map _ _ found.0 ∙ map_same _ rowid_in (λ r. ap (λ x. id_in (rowid x)) (first r)) found.0 in
        let edit : edit_of db table (ids_of wrote.0) Given 0 [] ≡ edit_with table found.0 [] =
        ap (λ gone. record { table = table; gone = gone; news = [] }) ids in
        let it = one_step index_schema Enforced db new.now.trees _ (none _)
        (subst (λ e. Writes index_schema Enforced db e (Ok new.now.trees)) edit wrote.3) in
        let are = are_rows at table is old.now h in
        let next : new.now.trees table.tree ≡ delete_where p (db table.tree) =
        it.rows ∙ matched_gone (db table.tree) found.0 p are found.1 in
        let index : IsIndex new.now = record {
          schema = wrote.2;
          sound = w.sound;
          numbered = numbered_after table.tree db new.now.trees it.tables (subst AreRows (sym next) (kept_rows p (db table.tree) are))
              h.numbered;
        } in
        let records : AreRecordsIn db table.tree
        → AreRecordsIn new.now.trees table.tree =
        λ before. subst (AllByRecursion (IsRecordIn table.tree)) (sym next)
        (all-filter (IsRecordIn table.tree) (λ r. not (p r)) (db table.tree) before) in
        (next, (altered table.tree old.now new.now h index it.tables records, index))

    pub deletes_rows : (tests : List Term) (p : Row → Bool)
        → command_of (understood index_schema text) ≡ Delete at (plan (from_one table.tree tests (col 1 0 ∷ []) []))
        → ((olds : List Row) → works index_schema Enforced 0 table.tree olds [] ≡ []) → TestsAs params tests p old.now.trees
        → Executes text params old new (Ok count)
        → (new.now.trees table.tree ≡ delete_where p (old.now.trees table.tree)) × Leaves old new
    deletes_rows tests p compiled none same ran =
        deletes_with (λ r. params ∷ r ∷ []) end tests p compiled none (λ r. refl) (λ r. refl) same ran

    -- an edit that puts rows in place of those that pass
    replaces : (p : Row → Bool) (found news : List Row) (next : Trees) → IsPermutation (filter p (old.now.trees table.tree)) found
        → Applies index_schema Enforced old.now.trees (edit_with table found news) next
        → IsPermutation (news ++ delete_where p (old.now.trees table.tree)) (next table.tree) × AreRows (next table.tree)
        × (next table.tree ≡ put_all (delete_where p (old.now.trees table.tree)) news)
    replaces p found news next order it =
        let rows = old.now.trees table.tree in
        let are = are_rows at table is old.now h in
        let left = matched_gone rows found p are order in
        let put = put_all_fresh news (delete_where p rows) (are_whole news it.keyed) (subst (λ l. are_fresh l news ≡ true) left it.fresh)
        (kept_rows p rows are) in
        let is : next table.tree ≡ put_all (delete_where p rows) news = it.rows ∙ ap (λ l. put_all l news) left in
        (subst (IsPermutation (news ++ delete_where p rows)) (sym is) put.0, subst AreRows (sym is) put.1, is)

    -- UPDATE makes the rows that pass what f says, and puts them in again in the order that it found them in
    pub updates_rows : (tests project : List Term) (p : Row → Bool) (f : Row → Row)
        → command_of (understood index_schema text) ≡ Update at (plan (from_one table.tree tests (col 1 0 ∷ project) []))
        → ((found : List Row) → works index_schema Enforced 0 table.tree (map (row_at (old.now.trees table.tree)) (map rowid_in found))
        (map f found) ≡ [])
        → AllByRecursion (λ r. cast_row table (eval_all project (params ∷ r ∷ [])) ≡ f r) (filter p (old.now.trees table.tree))
        → ((r : Row) → IsRecordIn table.tree r → IsRecordIn table.tree (f r)) → TestsAs params tests p old.now.trees
        → Executes text params old new (Ok count)
        → IsPermutation (map f (filter p (old.now.trees table.tree)) ++ delete_where p (old.now.trees table.tree))
        (new.now.trees table.tree) × Leaves old new
        × ((found : List Row) × IsPermutation (filter p (old.now.trees table.tree)) found
        × (new.now.trees table.tree ≡ put_all (delete_where p (old.now.trees table.tree)) (map f found)))
    updates_rows tests project p f compiled none casts keeps same ran =
        let db = old.now.trees in
        let q : Program = plan (from_one table.tree tests (col 1 0 ∷ project) []) in
        let w = runs_as text params old new index_schema h.schema (Update at q) compiled plain count ran in
        let t = statement_of text (understood index_schema text) in
        let did = subst (λ s. Does old.step_limit (mode_of old) params (record { schema = s; trees = db }) t None (Update at q)
        (Ok (w.tally, new.now))) h.schema w.changed in
        let wrote = update_edit old.step_limit (mode_of old) params index_schema db t at table is w.tally new.now q did in
        let edit = edit_is params project p f db wrote.0 casts
        (answered params tests (col 1 0 ∷ project) p db wrote.0 same (wrote.1.answer Null)) in
        let it = one_step index_schema Enforced db new.now.trees _ (none edit.0)
        (subst (λ e. Writes index_schema Enforced db e (Ok new.now.trees)) edit.2 wrote.3) in
        let put = replaces p edit.0 (map f edit.0) new.now.trees edit.1 it in
        let order = IsPermutation-append_left (delete_where p (db table.tree)) _ _ (IsPermutation-map f _ _ edit.1) in
        let rows = IsPermutation-trans _ _ _ order put.0 in
        let index : IsIndex new.now = record {
          schema = wrote.2;
          sound = w.sound;
          numbered = numbered_after table.tree db new.now.trees it.tables put.1 h.numbered;
        } in
        let P = IsRecordIn table.tree in
        let records : AreRecordsIn db table.tree → AreRecordsIn new.now.trees table.tree =
        λ before. all_permutation P _ _ rows (all-append P _ _
        (all_map P f _ (all_weaker P (λ r. P (f r)) keeps _ (all-filter P p (db table.tree) before)))
        (all-filter P (λ r. not (p r)) (db table.tree) before)) in
        (rows, (altered table.tree old.now new.now h index it.tables records, index), (edit.0, edit.1, put.2))

    -- ---- INSERT .. ON CONFLICT (key) DO UPDATE of one row

    module _ (cells : Row) (p : Row → Bool) (terms project : List Term) (width : ℕ) (places : List ℕ) where
      abbrev pub row_with : ℤ → Row
      row_with id = Int id ∷ cells

      abbrev pub given_to : ℤ → Row → Row
      given_to id new = params ++ Int id ∷ shown table new

      -- what is to be shown of the text, the table and the values
      pub record Puts : Type 0 where
        pub compiled : command_of (understood index_schema text)
            ≡ InsertOr at Abort (Values terms width) (on_conflict table.tree (length params) places (col 1 0 ∷ project) ∷ [])
        pub uncounted : table.is_counted ≡ false
        pub source : value_rows (stamped table params) width (length terms / width) terms ≡ (Null ∷ cells) ∷ []
        pub cast_new : cast_row table (Null ∷ cells) ≡ Null ∷ cells
        pub cast_again : (id : ℤ) → cast_row table (row_with id) ≡ row_with id
        -- the rows that the key tells from the new one do not conflict with it
        pub meets : (id : ℤ) → AllByRecursion (λ r. conflicts (Some places) index_schema.indexes table (row_with id) r ≡ p r)
            (old.now.trees table.tree)
        pub short : length (filter p (old.now.trees table.tree)) ≤ 1
        -- the row that is there becomes the new one
        pub casts : (id : ℤ) → AllByRecursion (λ r. p r ≡ true
            → cast_row table (eval_all project (given_to (rowid_in r) (row_with id) ∷ r ∷ [])) ≡ row_with (rowid_in r))
            (old.now.trees table.tree)
        pub none : (olds : List Row) (id : ℤ) → works index_schema Enforced 0 table.tree olds (row_with id ∷ []) ≡ []

      -- the row stands in the table in place of those that p passes
      abbrev pub IsPut : Trees → Type 0
      IsPut next = (id : ℤ) × IsPermutation (row_with id ∷ delete_where p (old.now.trees table.tree)) (next table.tree)
          × AreRows (next table.tree) × KeepsOthers table.tree old.now.trees next

      none_pass : (rows : List Row) → ((r : Row) → Has rows r → p r ≡ true → ⊥) → (delete_where p rows ≡ rows) × (filter p rows ≡ [])
      none_pass [] h = (refl, refl)
      none_pass (r ∷ rows) h = go (p r) refl (none_pass rows (λ x k. h x (inr k)))
        where
          go : (b : Bool) → p r ≡ b → (delete_where p rows ≡ rows) × (filter p rows ≡ [])
              → (cond (not b) (r ∷ delete_where p rows) (delete_where p rows) ≡ r ∷ rows)
              × (cond b (r ∷ filter p rows) (filter p rows) ≡ [])
          go true e more = absurd (h r (inl refl) e)
          go false e more = (ap (λ l. r ∷ l) more.0, more.1)

      -- a row that is new
      adds : Puts → (id : ℤ) (next : Trees) → ((r : Row) → Has (old.now.trees table.tree) r → p r ≡ true → ⊥)
          → Writes index_schema Enforced old.now.trees (edit_of old.now.trees table [] Given 0 (row_with id ∷ [])) (Ok next) → IsPut next
      adds it id next none_there wrote =
          let db = old.now.trees in
          let rows = db table.tree in
          let edit : edit_of db table [] Given 0 (row_with id ∷ []) ≡ edit_with table [] (row_with id ∷ []) =
          ap (λ r. record { table = table; gone = []; news = r ∷ [] }) (it.cast_again id) in
          let applied = one_step index_schema Enforced db next _ (it.none [] id)
          (subst (λ e. Writes index_schema Enforced db e (Ok next)) edit wrote) in
          let free = none_pass rows none_there in
          let put = put_all_fresh (row_with id ∷ []) rows (refl, tt) applied.fresh (are_rows at table is old.now h) in (
            id,
            subst (λ l. IsPermutation (row_with id ∷ l) (next table.tree)) (sym free.0)
                (subst (IsPermutation (row_with id ∷ rows)) (sym applied.rows) put.0),
            subst AreRows (sym applied.rows) put.1,
            applied.tables,
          )

      -- the row that is there becomes the new one
      turns : Puts → (made : ℤ) (next : Trees) (r : Row) → Has (old.now.trees table.tree) r → p r ≡ true → (answer : List Row)
          → Answers (record { schema = index_schema; trees = old.now.trees })
          (plan (from_one table.tree (op2 (Compare Eq Binary) (col 1 0) (col 0 (length params)) ∷ []) (col 1 0 ∷ project) []))
          (given_to (rowid_in r) (row_with made)) answer
          → Writes index_schema Enforced old.now.trees (edit_of old.now.trees table (ids_of answer) Given 1 answer) (Ok next) → IsPut next
      turns it made next r has passes answer answers wrote =
          let db = old.now.trees in
          let rows = db table.tree in
          let are = are_rows at table is old.now h in
          let known = given_to (rowid_in r) (row_with made) in
          let here : Row → Bool = λ x. int_eq (rowid_in x) (rowid_in r) in
          let one : filter p rows ≡ r ∷ [] = only (filter p rows) r it.short (has_filter p rows r has passes) in
          let same : (x : Row) → Has rows x → here x ≡ p x = λ x k. agrees x k one in
          let filters : filter here rows ≡ r ∷ [] = members here p rows same ∙ one in
          let rests : delete_where here rows ≡ delete_where p rows = members _ _ rows (λ x k. ap not (same x k)) in
          let tests = all_weaker HasRowid (λ x. list_all (holds (known ∷ x ∷ []))
          (op2 (Compare Eq Binary) (col 1 0) (col 0 (length params)) ∷ []) ≡ here x)
          (λ x w. last_term (rowid_test known (length params) x (rowid_in r)
          (at_end params (Int (rowid_in r)) (shown table (row_with made))) w)) rows are.1 in
          let f : Row → Row = λ x. row_with (rowid_in x) in
          let became : cast_row table (eval_all project (known ∷ r ∷ [])) ≡ f r =
          has_all (λ x. p x ≡ true → cast_row table (eval_all project (given_to (rowid_in x) (row_with made) ∷ x ∷ []))
          ≡ row_with (rowid_in x)) rows r (it.casts made) has passes in
          let casts = subst (AllByRecursion (λ x. cast_row table (eval_all project (known ∷ x ∷ [])) ≡ f x)) (sym filters) (became, tt) in
          let edit = edit_is known project here f db answer casts
          (answered known _ (col 1 0 ∷ project) here db answer tests (answers.answer Null)) in
          let alone : edit.0 ≡ r ∷ [] = one_permutation r edit.0 (subst (λ l. IsPermutation l edit.0) filters edit.1) in
          let edit_one : edit_of db table (ids_of answer) Given 1 answer ≡ edit_with table (r ∷ []) (f r ∷ []) =
          edit.2 ∙ ap (λ l. edit_with table l (map f l)) alone in
          let applied = one_step index_schema Enforced db next _ (it.none (taken_by db (edit_with table (r ∷ []) (f r ∷ []))) (rowid_in r))
          (subst (λ e. Writes index_schema Enforced db e (Ok next)) edit_one wrote) in
          let put = replaces here (r ∷ []) (f r ∷ []) next (subst (IsPermutation (filter here rows)) alone edit.1) applied in
          (rowid_in r, subst (λ l. IsPermutation (f r ∷ l) (next table.tree)) rests put.0, put.1, applied.tables)
        where
          agrees : (x : Row) → Has (old.now.trees table.tree) x → filter p (old.now.trees table.tree) ≡ r ∷ []
              → int_eq (rowid_in x) (rowid_in r) ≡ p x
          agrees x k one = go (int_eq (rowid_in x) (rowid_in r)) (p x) refl refl
            where
              go : (a b : Bool) → int_eq (rowid_in x) (rowid_in r) ≡ a → p x ≡ b → a ≡ b
              go true true s t = refl
              go false false s t = refl
              go true false s t = let found = one_row (old.now.trees table.tree) x r (are_rows at table is old.now h).0 k has
                  (same_int (rowid_in x) (rowid_in r) s) in absurd (true≢false (sym passes ∙ sym (ap p found) ∙ t))
              go false true s t =
                  let found = the_one x r (subst (λ l. Has l x) one (has_filter p (old.now.trees table.tree) x k t)) in
                  let itself : int_eq (rowid_in r) (rowid_in r) ≡ true = grind (arith, ints) in
                  absurd (true≢false (sym itself ∙ ap (λ y. int_eq (rowid_in y) (rowid_in r)) (sym found) ∙ s))

      pub puts_row : Puts → Executes text params old new (Ok count) → IsPut new.now.trees × IsIndex new.now
      puts_row it ran =
          let db = old.now.trees in
          let q : Program = plan (from_one table.tree (op2 (Compare Eq Binary) (col 1 0) (col 0 (length params)) ∷ []) (col 1 0 ∷ project)
          []) in
          let clause = on_conflict table.tree (length params) places (col 1 0 ∷ project) in
          let command = InsertOr at Abort (Values terms width) (clause ∷ []) in
          let w = runs_as text params old new index_schema h.schema command it.compiled plain count ran in
          let t = statement_of text (understood index_schema text) in
          let did = subst (λ s. Does old.step_limit (mode_of old) params (record { schema = s; trees = db }) t None command
          (Ok (w.tally, new.now))) h.schema w.changed in
          let wrote = upsert_edit old.step_limit (mode_of old) params index_schema db t at table is w.tally new.now it.uncounted terms width
          (Null ∷ cells) clause q refl it.source did in
          let made = next_rowid (db table.tree) in
          let new_is : with_rowid Chosen (db table.tree) (cast_row table (Null ∷ cells)) ≡ row_with made =
          ap (with_rowid Chosen (db table.tree)) it.cast_new in
          let conflicting = subst (λ r. AreConflicts (Some places) index_schema.indexes table (db table.tree) r wrote.1.found)
          new_is wrote.1.conflicts in
          let met : (r : Row) → Has (db table.tree) r
          → conflicts (Some places) index_schema.indexes table (row_with made) r ≡ p r =
          λ r k. has_all _ (db table.tree) r (it.meets made) k in
          let put : IsPut new.now.trees = elim wrote.1.went [
            | inl new_one ↦
                adds it made new.now.trees
                (λ r k t. subst (λ l. Has l (rowid r ∷ [])) new_one.0 (conflicting.complete r k (met r k ∙ t)))
                (subst (λ r. Writes index_schema Enforced db (edit_of db table [] Given 0 (r ∷ [])) (Ok new.now.trees)) new_is new_one.1.2)
            | inr old_one ↦
                let from = conflicting.sound old_one.0 (subst (λ l. Has l old_one.0) (sym old_one.2) (inl refl)) in
                let r = from.0 in
                let whole = has_all HasRowid (db table.tree) r (are_rows at table is old.now h).1 from.1 in
                let id : rowid old_one.0 ≡ Int (rowid_in r) = ap rowid from.3 ∙ as_int (rowid r) whole in
                turns it made new.now.trees r from.1 (sym (met r from.1) ∙ from.2) old_one.3
                (subst₂ (λ i n. Answers (record { schema = index_schema; trees = db }) q (params ++ i ∷ shown table n) old_one.3)
                id new_is old_one.4)
                old_one.5
          ] in
          (put, record { schema = wrote.0; sound = w.sound; numbered = numbered_after table.tree db new.now.trees put.3 put.2 h.numbered })
