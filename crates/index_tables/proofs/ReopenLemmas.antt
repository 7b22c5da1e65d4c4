-- What is opened over what an index left.
use Rattle.index_tables.proofs.Words.{◌≡◌, ◌⊎◌, inl, inr, ◌∙◌, ap, subst, sym, refl, IsTrue, [], length, Result, Ok, Err, IfOk, IfErr, get}
use Rattle.index_tables.proofs.Words.{Image, Trees, Ghosts, Schema, Database, over_files, file_state, Held, state, HasCleanDisk, tables_of}
use Rattle.index_tables.proofs.Words.{Tables, OpenFault, BadFirstUser, NotEmpty, NotAnIndex, OtherVersion, OutOfMemory, Store}
use Rattle.index_tables.proofs.Words.{first_version_schema, IsIndex, tables_in, Unopened, BooksState, AreCurrent, IsHonest, IsWorking}
use Rattle.index_tables.proofs.Words.{Leaves, IsFound, IsOurs, AreOpened, IsFault, IsUnopened, MayLeave, IsLeft, IsOver, OpensOnly}
use Rattle.index_tables.proofs.Words.{IsSettled}
use Rattle.std.proofs.Common.{arith}
use Rattle.std.proofs.Math.Logic.{∥∥₁_elim, ∥∥₁_map}
use Rattle.std.specs.FinMap.{insert, empty, get-empty}
use Rattle.sqlite_disk.specs.declared.Disk as disk
use Rattle.sqlite_trees.specs.Props.{Trees-set}
use Rattle.sqlite_trees.specs.Objects.{catalog_tree}
use Rattle.sqlite_catalog.proofs.ReadLemmas.{lists_once}
use Rattle.sqlite_store.specs.declared.store.FileStore.{FileStore}
use Rattle.sqlite_store.specs.FileStore as store
use Rattle.sqlite.specs.Effect.{IsDatabase}
use Rattle.sqlite.specs.Held.{AreDatabases}
use Rattle.sqlite.proofs.Theorems.{next_run}
use Rattle.index_sql_writes.specs.Changed.{HoldsIndex}
use Rattle.index_rules.specs.Maps.{bytes_cmp}
use Rattle.index_rules.proofs.KeyLemmas.{get-put}
use Rattle.index_sql_schema.specs.Schema.{index_schema}
use Rattle.index_sql_schema.specs.CreateSteps.{no_tables}
use Rattle.index_tables.specs.Laws.{current}

-- ---- the schema of what is found

-- one list of objects, one schema
schema_found : (db : Database) → IsDatabase db → HoldsIndex db.trees → db.schema ≡ index_schema
schema_found db sound held = lists_once (db.trees catalog_tree) db.schema index_schema sound.lists held.sound.lists

index_found : (db : Database) → IsDatabase db → HoldsIndex db.trees → IsIndex db
index_found db sound held = subst (λ (s : Schema). IsIndex (record { schema = s; trees = db.trees })) (sym (schema_found db sound held))
    held

not_first : index_schema ≡ first_version_schema → ⊥
not_first same = let counts : 9 ≡ 8 = ap (λ (s : Schema). length s.tables) same in absurd (omega (arith, counts))

-- an index is found as one of today
tables_found : (db : Database) (T : Tables) → IsDatabase db → IsFound db T → AreCurrent 2 db.trees → T ≡ tables_in db.trees
tables_found db T sound (inl it) cur = it.tables
tables_found db T sound (inr it) cur = absurd (not_first (sym (schema_found db sound cur.index) ∙ it.first.schema))

ours : (db : Database) → IsDatabase db → AreCurrent 2 db.trees → IsOurs db
ours db sound cur = inl (index_found db sound cur.index, cur.version)

-- ---- not all tables are one of two

filled : {X : Type 0} (x : X) → insert (empty {X = X} {R = bytes_cmp}) [] x ≡ empty → ⊥
filled x same = absurd (let is = sym (get-put empty [] x []) ∙ ap (λ m. get m []) same ∙ get-empty bytes_cmp [] in cc)

with_ban : Tables
with_ban = record no_tables { bans = insert empty [] tt }

with_body : Tables
with_body = record no_tables { bodies = insert empty [] [] }

abbrev pub IsEither : Tables → Tables → Tables → Type 0
IsEither A B T = (T ≡ A) ⊎ (T ≡ B)

ban_apart : with_ban ≡ no_tables → ⊥
unfolding with_ban
ban_apart same = filled tt (ap (λ (T : Tables). T.bans) same)

body_apart : with_body ≡ no_tables → ⊥
unfolding with_body
body_apart same = filled [] (ap (λ (T : Tables). T.bodies) same)

both_apart : with_ban ≡ with_body → ⊥
unfolding with_ban with_body
both_apart same = filled tt (ap (λ (T : Tables). T.bans) same)

not_all : (A B : Tables) → ((T : Tables) → IsEither A B T) → ⊥
not_all A B all = by (all no_tables) (all with_ban) (all with_body)
  where
    by : IsEither A B no_tables → IsEither A B with_ban → IsEither A B with_body → ⊥
    by (inl e) (inl x) y = ban_apart (x ∙ sym e)
    by (inr e) (inr x) y = ban_apart (x ∙ sym e)
    by (inl e) (inr x) (inl y) = body_apart (y ∙ sym e)
    by (inl e) (inr x) (inr y) = both_apart (x ∙ sym y)
    by (inr e) (inl x) (inr y) = body_apart (y ∙ sym e)
    by (inr e) (inl x) (inl y) = both_apart (x ∙ sym y)

fault_or : (why : OpenFault) → IsFault why ⊎ (IsFault why → ⊥)
fault_or OutOfMemory = inl (inl refl)
fault_or Store = inl (inr refl)
fault_or BadFirstUser = inr (λ is. elim is [ inl a ↦ absurd cc | inr b ↦ absurd cc ])
fault_or NotEmpty = inr (λ is. elim is [ inl a ↦ absurd cc | inr b ↦ absurd cc ])
fault_or NotAnIndex = inr (λ is. elim is [ inl a ↦ absurd cc | inr b ↦ absurd cc ])
fault_or OtherVersion = inr (λ is. elim is [ inl a ↦ absurd cc | inr b ↦ absurd cc ])

-- what is opened, if the connection is known to be over the files
abbrev pub OpensIf : {S : Type 0} → Ghosts S → (Tables → Type 0) → Result (BooksState S) (Unopened S) → Type 0
OpensIf g Are (Ok books) = IsWorking (state g books.conn) → Are (tables_of g books.conn)
OpensIf g Are (Err refused) = HasCleanDisk (state g refused.conn) → IsFault refused.why

-- ---- what `adopt` says of a connection, and what it was opened over

module _ {D S : Type 0} {d : disk.Ghosts D} (g : Ghosts S) (old : Held (FileStore D d)) (conn : Held S) (image : Image)
    (over : IsOver image (state g conn)) where
  abbrev found : Trees
  found = (state g conn).now.trees

  is_open : IsTrue (state g conn).is_open
  is_open = over.opened.0.is_open

  sound : IsDatabase (state g conn).now
  sound = (over.opened.1 is_open).0

  committed_found : (state g conn).committed.trees ≡ found
  committed_found = ap (λ (db : Database). db.trees) (sym over.opened.0.clean)

  abbrev Finds : Result (BooksState S) (Unopened S) → Type 0
  Finds result = IfOk result (λ books. IsWorking (state g books.conn) → IsFound (state g conn).now (tables_of g books.conn))

  abbrev Again : Result (BooksState S) (Unopened S) → Type 0
  Again result = IfErr result (λ refused. HasCleanDisk (state g refused.conn) → IsTrue (state g conn).is_open → IsOurs (state g conn).now
      → IsFault refused.why)

  opens_same : AreCurrent 2 found → (result : Result (BooksState S) (Unopened S)) → Finds result → Again result
      → OpensIf g (λ T. T ≡ tables_in found) result
  opens_same cur (Ok books) finds again = λ honest. tables_found (state g conn).now (tables_of g books.conn) sound (finds honest) cur
  opens_same cur (Err refused) finds again = λ clean. again clean is_open (ours (state g conn).now sound cur)

  module _ (numbered : IsTrue (store.view old.store).is_numbered) (databases : AreDatabases (store.recovers old.store)) where
    -- what is found is what a crash may leave
    found_left : MayLeave old image → ∥ (file_state old).may_leave found ∥₁
    found_left may =
        subst (λ (db : Trees). ∥ (file_state old).may_leave db ∥₁) committed_found
        (next_run old.store numbered databases image may (state g conn) over.found)

    -- at rest an honest index leaves itself
    pub opens_rest : IsHonest 2 (file_state old) → IsSettled (file_state old) → IsLeft old image
        → (result : Result (BooksState S) (Unopened S)) → Finds result → Again result → OpensIf g (λ T. T ≡ tables_of over_files old) result
    opens_rest honest rests left result finds again =
        let committed : found ≡ (file_state old).committed.trees = elim left [
          | inl may ↦ ∥∥₁_elim (found_left may) (Trees-set _ _) (rests found honest.is_open)
          | inr closed ↦ sym committed_found ∙ ∥∥₁_elim closed.both (Trees-set _ _) (over.found.holds _)
        ] in
        let at : found ≡ (file_state old).now.trees = committed ∙ sym (ap (λ (db : Database). db.trees) honest.committed) in
        subst (λ (db : Trees). OpensIf g (λ T. T ≡ tables_in db) result) at
        (opens_same (subst (AreCurrent 2) (sym at) (current 2 (file_state old) honest)) result finds again)

    -- during a change it leaves one of two
    pub opens_either : (A B : Tables) → HasCleanDisk (file_state old) → ((T : Tables) → Leaves 2 (file_state old) T → IsEither A B T)
        → MayLeave old image
        → (result : Result (BooksState S) (Unopened S)) → Finds result → Again result → OpensIf g (λ T. ∥ IsEither A B T ∥₁) result
    opens_either A B clean left may (Ok books) finds again =
        λ honest. ∥∥₁_map (found_left may) (λ can. left (tables_of g books.conn) (
          clean,
          (found, can, tables_found (state g conn).now (tables_of g books.conn) sound (finds honest)),
        ))
    opens_either A B clean left may (Err refused) finds again = λ unread. elim (fault_or refused.why) [
      | inl fault ↦ fault
      | inr other ↦ absurd (∥∥₁_elim (found_left may) (λ x. absurd x)
          (λ can. not_all A B (λ T. left T (
            clean,
            (found, can, λ cur. absurd (other (again unread is_open (ours (state g conn).now sound cur)))),
          ))))
    ]

-- the same, of a connection that is over the files as far as its disk is clean
module _ {S : Type 0} (g : Ghosts S) (conn : Held S) (image : Image) (over : HasCleanDisk (state g conn)
    → IsOver image (state g conn)) (Are : Tables → Type 0) where
  pub opens_if_clean : (Made : Database → Trees → Type 0) (Reason : Held S → Held S → OpenFault
      → Type 0) (result : Result (BooksState S) (Unopened S)) → IfOk result (AreOpened 2 g Made conn)
      → IfErr result (IsUnopened g Made Reason conn)
      → (IsOver image (state g conn) → OpensIf g Are result) → OpensOnly g Are result
  opens_if_clean Made Reason (Ok books) opened refused opens =
      λ clean. let before = opened.was_clean clean in let it = over before in let honest =
      opened.lasts (record { clean = before; is_open = it.opened.0.is_open }) clean in
      (honest, opens it (record { clean = clean; is_open = honest.is_open }))
  opens_if_clean Made Reason (Err it) opened refused opens = λ clean. opens (over (refused.was_clean clean)) clean
