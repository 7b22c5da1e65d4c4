-- What is done after a look at the version.
use Rattle.index_tables.proofs.Words.{cases_Bool, ◌≡◌, inl, inr, ◌∙◌, ap, refl, subst, sym, Bool, true, false, true≢false, ◌==◌, ◌&&◌}
use Rattle.index_tables.proofs.Words.{IsTrue, ℕ, Option, option_map, None, Some, Result, Ok, Err, IfErr, Ghosts, Database, Held, state}
use Rattle.index_tables.proofs.Words.{HasCleanDisk, AreRefused, QueriesOnly, HasReason, AreRecords, StandsFor, Tables, OpenFault}
use Rattle.index_tables.proofs.Words.{BadFirstUser, NotEmpty, NotAnIndex, OtherVersion, OutOfMemory, Store, same_name, Schema, has_meta}
use Rattle.index_tables.proofs.Words.{begun, Fault, selects, IsFirstVersion, first_version_schema, meta_in, version_among, version_in}
use Rattle.index_tables.proofs.Words.{tables_of, Unopened, IsWorking, BooksState, FirstVersion, Adopts, IsFound, IsOurs, IsRaised, IsReason}
use Rattle.index_tables.proofs.Words.{AreOpened, CrashLeavesOrMakes, IsFault, IsUnopened, StoreForRefusal, open_fault_by}
use Rattle.std.proofs.Common.{◌≢◌, if◌then◌else◌}
use Rattle.std.proofs.Common.{codes, IsSome}
use Rattle.index_sql_opening.specs.Migrated.{asks_of_migration}
use Rattle.index_sql_opening.specs.Names.{has_all_of, has_table}
use Rattle.index_sql_opening.specs.Versions.{FailsToReadVersion, VersionQueryFailsInside}
use Rattle.index_rules.specs.declared.answer.Fault.TheVariants as fault
use Rattle.index_sql_schema.proofs.BearerLemmas.{one_bearer}
use Rattle.index_sql_schema.proofs.VersionLemmas.{raised_tells}
use Rattle.index_sql_schema.specs.FirstVersion.{IsAnyVersion}
use Rattle.index_sql_schema.specs.Index.{raised}
use Rattle.index_sql_writes.proofs.GoingLemmas.{fault_since}
use Rattle.index_tables.specs.declared.adopt.Kind.{Kind}
use Rattle.index_tables.specs.Adopted.{AreHandedOn, DatabaseFailsToOpen, DatabaseHasVersion, foreign_tables_fault, refusal_by}
use Rattle.index_tables.specs.Adopted.{HasVersionOne, IsReasonOfKind, StandAsFound, refusal_in}
use Rattle.index_tables.specs.Adopted.{version_of}
use Rattle.index_tables.specs.Opened.{RefusesFound}
use Rattle.index_tables.proofs.OpenedLemmas.{unopened_by}

-- one set of tables is found in a database
found_once : (db : Database) (T was : Tables) → IsFound db T → IsFound db was → T ≡ was
found_once db T was (inl it) (inl other) = it.tables ∙ sym other.tables
found_once db T was (inl it) (inr other) = absurd (let told : Some 2 ≡ Some 1 = sym it.version ∙ other.version in cc)
found_once db T was (inr it) (inl other) = absurd (let told : Some 1 ≡ Some 2 = sym it.version ∙ other.version in cc)
found_once db T was (inr it) (inr other) = it.tables ∙ sym other.tables

pub stand_as_found : (db : Database) (T : Tables) → IsFound db T → StandAsFound db T
stand_as_found db T found was h other stands = subst (λ it. StandsFor it h) (sym (found_once db T was found other)) stands

-- one of version 1 tells version 2, if its row of meta is raised
pub raised_told : (db : Database) → HasVersionOne db → version_among (raised (meta_in db.trees)) ≡ Some 2
raised_told db (first, told) = raised_tells (meta_in db.trees) first.numbered.0 ∙ ap (option_map (λ _. 2)) told

-- the version that such a database tells leaves the store to blame
store_alone : (db : Database) → IsOurs db → refusal_in db.schema (version_in db.trees) ≡ Store
unfolding same_name
store_alone db (inl (h, told)) = rw (h.schema, told) refl
store_alone db (inr (h, told)) = rw (h.schema, told) refl

ours_tell : (db : Database) → IsOurs db → has_meta db.schema ≡ true
unfolding same_name
ours_tell db (inl (h, told)) = rw h.schema refl
ours_tell db (inr (h, told)) = rw h.schema refl

any_version : (db : Database) → IsOurs db → IsAnyVersion db
any_version db (inl (h, told)) = inl h
any_version db (inr (h, told)) = inr h

-- no version leaves a want of memory to blame
tables_alone : (has_all : Bool) → foreign_tables_fault has_all ≡ OutOfMemory → ⊥
tables_alone true is = absurd (let it = is in cc)
tables_alone false is = absurd (let it = is in cc)

version_alone : (one two first both : Bool)
    → (if one then foreign_tables_fault first else if two then foreign_tables_fault both else OtherVersion) ≡ OutOfMemory → ⊥
version_alone true two first both is = tables_alone first is
version_alone false true first both is = tables_alone both is
version_alone false false first both is = absurd (let it = is in cc)

memory_alone : (version : Option ℕ) (first bans : Bool) → refusal_by version first bans ≡ OutOfMemory → ⊥
memory_alone None first bans is = absurd (let it = is in cc)
memory_alone (Some version) first bans is = version_alone (version == 1) (version == 2) first (first && bans) is

no_memory : (schema : Schema) (version : Option ℕ) → OutOfMemory ≡ refusal_in schema version → ⊥
no_memory schema version is = memory_alone version (has_all_of schema first_version_schema.tables) (has_table schema (codes "bans"))
    (sym is)

-- ---- an adoption as a whole

module _ {S : Type 0} (g : Ghosts S) where
  -- books that were opened as the index found
  pub adopted : {Reason : Held S → Held S → OpenFault → Type 0} (old : Held S) (books : BooksState S)
      → (IsWorking (state g books.conn) → IsFound (state g old).now (tables_of g books.conn))
      → (IsWorking (state g books.conn) → AreHandedOn (state g old).now (meta_in (state g books.conn).now.trees))
      → AreOpened 2 g IsRaised old books → Adopts g Reason old (Ok books)
  adopted old books found meta opened = record {
    found = found;
    history = λ working. stand_as_found (state g old).now (tables_of g books.conn) (found working);
    one_bearer = λ working. one_bearer (state g books.conn).now (opened.lasts (opened.was_working working) working.clean).index;
    meta = meta;
    opened = opened;
    why = tt;
    refused = tt;
  }

  pub not_adopted : {Reason : Held S → Held S → OpenFault → Type 0} (old : Held S) (refused : Unopened S)
      → RefusesFound refused.why → IsUnopened g IsRaised Reason old refused → Adopts g Reason old (Err refused)
  not_adopted old refused why it = record {
    found = tt;
    history = tt;
    one_bearer = tt;
    meta = tt;
    opened = tt;
    why = why;
    refused = it;
  }

  -- what is not adopted for one reason is not for a weaker one
  pub adopts_by : {Reason Other : Held S → Held S → OpenFault → Type 0} (old : Held S) (result : Result (BooksState S) (Unopened S))
      → ((refused : Unopened S) → Reason old refused.conn refused.why → Other old refused.conn refused.why)
      → Adopts g Reason old result → Adopts g Other old result
  adopts_by old (Ok books) weaker it = adopted old books it.found it.meta it.opened
  adopts_by old (Err refused) weaker it = not_adopted old refused it.why (unopened_by g old refused (weaker refused) it.refused)

module _ {S : Type 0} (g : Ghosts S) where
  told_is : (held : Held S) (version : Option ℕ) → IsTrue (state g held).is_open → IsOurs (state g held).now
      → DatabaseHasVersion g held version → version ≡ version_in (state g held).now.trees
  told_is held version o ours (inl (_, is)) = is
  told_is held version o ours (inr tells) = tells.first
      ∙ selects (state g (begun held)) (state g tells.after) tells.rows (any_version (state g held).now ours) tells.shown

  by_version : (held : Held S) (version : Option ℕ) (why : OpenFault) → IsTrue (state g held).is_open → IsOurs (state g held).now
      → DatabaseHasVersion g held version → why ≡ refusal_in (state g held).now.schema version → IsFault why
  by_version held version why o ours tells is =
      inr (is ∙ ap (refusal_in (state g held).now.schema) (told_is held version o ours tells) ∙ store_alone (state g held).now ours)

  -- of an index only a fault is a reason
  pub fault_alone : (held new : Held S) (why : OpenFault) → IsReason g held new why → IsTrue (state g held).is_open
      → IsOurs (state g held).now → IsFault why
  fault_alone held new NotAnIndex (inl none) o ours = absurd (true≢false (sym (ours_tell (state g held).now ours) ∙ none))
  fault_alone held new NotAnIndex (inr (version, tells, is)) o ours = by_version held version NotAnIndex o ours tells is
  fault_alone held new OutOfMemory reason o ours = inl refl
  fault_alone held new Store reason o ours = inr refl
  fault_alone held new BadFirstUser (version, tells, is) o ours = by_version held version BadFirstUser o ours tells is
  fault_alone held new NotEmpty (version, tells, is) o ours = by_version held version NotEmpty o ours tells is
  fault_alone held new OtherVersion (version, tells, is) o ours = by_version held version OtherVersion o ours tells is

  -- what is known of a database with a table of the version
  module _ (held new : Held S) (meta : IsTrue (has_meta (state g held).now.schema)) where
    -- what the version that is told says is a reason
    pub reason_told : (version : Option ℕ) (why : OpenFault) → DatabaseHasVersion g held version
        → why ≡ refusal_in (state g held).now.schema version → IsReason g held new why
    reason_told version NotAnIndex tells is = inr (version, tells, is)
    reason_told version OutOfMemory tells is = absurd (no_memory (state g held).now.schema version is)
    reason_told version Store tells is = (meta, inl (version, tells, is))
    reason_told version BadFirstUser tells is = (version, tells, is)
    reason_told version NotEmpty tells is = (version, tells, is)
    reason_told version OtherVersion tells is = (version, tells, is)

    -- and so is a fault
    pub reason_failed : (f : Fault) (why : OpenFault) → why ≡ open_fault_by f → VersionQueryFailsInside g (begun held) f
        → IsReason g held new why
    reason_failed fault.OutOfMemory why is fails = subst (IsReason g held new) (sym is) (meta, inr (inl fails))
    reason_failed fault.Store why is fails = subst (IsReason g held new) (sym is) (meta, inr (inr (inl fails)))

    -- what is a reason for one of a kind is one
    pub reason_of_kind : (kind : Kind) (why : OpenFault) → IsReasonOfKind g kind held new why → IsReason g held new why
    reason_of_kind kind NotAnIndex (version, tells, other, is) = inr (version, tells, is)
    reason_of_kind kind OutOfMemory memory = (meta, inr (inr memory))
    reason_of_kind kind Store (inl (version, tells, other, is)) = (meta, inl (version, tells, is))
    reason_of_kind kind Store (inr fails) = (meta, inr fails)
    reason_of_kind kind BadFirstUser (version, tells, other, is) = (version, tells, is)
    reason_of_kind kind NotEmpty (version, tells, other, is) = (version, tells, is)
    reason_of_kind kind OtherVersion (version, tells, other, is) = (version, tells, is)

  -- what is known of one of a kind
  module _ (kind : Kind) (held new : Held S) where
    -- another version than its own is a reason
    pub other_told : (version : Option ℕ) (why : OpenFault) → DatabaseHasVersion g held version → version ≢ Some (version_of kind)
        → why ≡ refusal_in (state g held).now.schema version → IsReasonOfKind g kind held new why
    other_told version NotAnIndex tells other is = (version, tells, other, is)
    other_told version OutOfMemory tells other is = absurd (no_memory (state g held).now.schema version is)
    other_told version Store tells other is = inl (version, tells, other, is)
    other_told version BadFirstUser tells other is = (version, tells, other, is)
    other_told version NotEmpty tells other is = (version, tells, other, is)
    other_told version OtherVersion tells other is = (version, tells, other, is)

    -- and so is a fault
    pub kind_failed : (f : Fault) (why : OpenFault) → why ≡ open_fault_by f → FailsToReadVersion g held new f → HasCleanDisk (state g new)
        → IsReasonOfKind g kind held new why
    kind_failed fault.OutOfMemory why is fails clean = subst (IsReasonOfKind g kind held new) (sym is) (inl (fails.query clean))
    kind_failed fault.Store why is fails clean = subst (IsReasonOfKind g kind held new) (sym is) (inr (inl (fails.reason clean refl)))

  module _ (held new : Held S) where
    -- of version 1 it may be that it is not raised, after a look at its version
    module _ (mid : Held S) (looks : QueriesOnly g held mid true) (clean : HasCleanDisk (state g mid)) where
      since : HasReason (state g mid) (state g new) → HasReason (state g held) (state g new)
      since (inl fault) = inl (fault_since (state g held) (state g mid) (state g new) looks.survives.counts fault)
      since (inr (inl shut)) = elim (cases_Bool (state g held).is_open) [
        | inl opened ↦ absurd (true≢false (sym (looks.lasts refl clean opened) ∙ shut))
        | inr was_shut ↦ inr (inl was_shut)
      ]
      since (inr (inr limit)) = inr (inr (subst IsSome looks.survives.limit limit))

      refused : (IsTrue (state g held).is_open → IsFirstVersion (state g held).now) → version_in (state g held).now.trees ≡ Some 1
          → AreRefused asks_of_migration (state g mid).now → DatabaseFailsToOpen g held new
      refused first told refuses = elim (cases_Bool (state g held).is_open) [
        | inl opened ↦ inr (inr ((first opened, told), subst (AreRefused asks_of_migration) (looks.same refl clean) refuses))
        | inr shut ↦ inl (inr (inl shut))
      ]

      pub reason_raised : (why : OpenFault) → (IsTrue (state g held).is_open → IsFirstVersion (state g held).now)
          → version_in (state g held).now.trees ≡ Some 1 → IsFault why → StoreForRefusal g asks_of_migration mid new why
          → IsReasonOfKind g FirstVersion held new why
      reason_raised why first told (inl memory) reason = subst (IsReasonOfKind g FirstVersion held new) (sym memory) (inr (told, first))
      reason_raised why first told (inr store) reason =
          subst (IsReasonOfKind g FirstVersion held new) (sym store)
          (inr (elim (reason store) [ inl it ↦ inl (since it) | inr refuses ↦ refused first told refuses ]))

  -- what is opened, or not, after a look
  module _ (a b : Held S) (looks : QueriesOnly g a b true) where
    works_after : IsWorking (state g a) → HasCleanDisk (state g b) → IsWorking (state g b)
    works_after working clean = record { clean = clean; is_open = looks.lasts refl clean working.is_open }

    raised_after : (c : Held S) → (HasCleanDisk (state g c) → HasCleanDisk (state g b))
        → CrashLeavesOrMakes IsRaised (state g b) (state g c) → CrashLeavesOrMakes IsRaised (state g a) (state g c)
    raised_after c was_clean it working clean db may =
        let at_b = was_clean clean in
        elim (it (works_after working at_b) clean db may) [
          | inl was ↦ elim (looks.survives.crash at_b db was) [ inl before ↦ inl before | inr none ↦ absurd none ]
          | inr made ↦ inr (subst (λ (d : Database). IsRaised d db) (looks.same refl at_b) made)
        ]

    pub opened_after : (books : BooksState S) → AreOpened 2 g IsRaised b books → AreOpened 2 g IsRaised a books
    opened_after books it = record {
      was_working = λ working. let at_b = it.was_working working in
          record { clean = looks.was_clean at_b.clean; is_open = looks.was_open at_b.clean at_b.is_open };
      was_clean = λ clean. looks.was_clean (it.was_clean clean);
      lasts = λ working clean. it.lasts (works_after working (it.was_clean clean)) clean;
      failures = it.failures;
      stores = it.stores;
      limit = λ working. it.limit working ∙ looks.survives.limit;
      records = λ records working. let at_b = it.was_working working in
          it.records (subst AreRecords (sym (looks.now_is at_b.clean at_b.is_open)) records) working;
      crash = raised_after books.conn it.was_clean it.crash;
      alone = λ working T left. it.alone (works_after working (it.was_clean left.0)) T left;
    }

    pub refused_after : (refused : Unopened S) → (IsTrue (state g a).is_open → IsFirstVersion (state g a).now)
        → (HasCleanDisk (state g b) → version_in (state g a).now.trees ≡ Some 1)
        → IsFault refused.why → IsUnopened g IsRaised (StoreForRefusal g asks_of_migration) b refused
        → IsUnopened g IsRaised (IsReasonOfKind g FirstVersion) a refused
    refused_after refused first told fault it = record {
      outside = it.outside;
      was_clean = λ clean. looks.was_clean (it.was_clean clean);
      stays = λ clean.
          let at_b = it.was_clean clean in
          let stays = it.stays clean in
          record {
            was_open = λ o. looks.was_open at_b (stays.was_open o);
            now_is = λ o. stays.now_is o ∙ looks.now_is at_b (stays.was_open o);
            committed_is = λ o. stays.committed_is o ∙ looks.committed_is at_b (stays.was_open o);
          };
      limit = λ working. it.limit working ∙ looks.survives.limit;
      reason = λ clean. let at_b = it.was_clean clean in
          reason_raised a refused.conn b looks at_b refused.why first (told at_b) fault (it.reason clean);
      crash = raised_after refused.conn it.was_clean it.crash;
    }

    -- a database of version 1 is adopted so after a look at its version
    pub adopted_after : (result : Result (BooksState S) (Unopened S)) → (IsTrue (state g a).is_open → IsFirstVersion (state g a).now)
        → (HasCleanDisk (state g b) → version_in (state g a).now.trees ≡ Some 1)
        → IfErr result (λ refused. IsFault refused.why) → Adopts g (StoreForRefusal g asks_of_migration) b result
        → Adopts g (IsReasonOfKind g FirstVersion) a result
    adopted_after (Ok books) first told fault it = adopted g a books
        (λ working. subst (λ db. IsFound db (tables_of g books.conn)) (looks.same refl (it.opened.was_working working).clean)
        (it.found working))
        (λ working. subst (λ db. AreHandedOn db (meta_in (state g books.conn).now.trees))
        (looks.same refl (it.opened.was_working working).clean) (it.meta working))
        (opened_after books it.opened)
    adopted_after (Err refused) first told fault it =
        not_adopted g a refused it.why (refused_after refused first told fault it.refused)
