-- The tables after one of them changed.
use Rattle.index_sql_schema.proofs.Words.{◌≡◌, ◌≢◌, ℕ, List, refl, ap, ◌∙◌, arith, Row, Trees, Database, UserRecord, NameRecord, FileRecord}
use Rattle.index_sql_schema.proofs.Words.{Bytes, Tables, tables_in, IsIndex, Rewrites, Changes}
use Rattle.index_rules.specs.declared.records.CaseRecord.{CaseRecord}
use Rattle.index_rules.specs.Maps.{Map, PairMap, Pairs, TextSet}
use Rattle.index_sql_schema.specs.Index.{meta_in}
use Rattle.index_sql_schema.proofs.EditLemmas.{KeepsOthers, Alters}

module _ (db next : Trees) where
  users_alone : KeepsOthers 1 db next → tables_in next ≡ record (tables_in db) { users = (tables_in next).users }
  users_alone h = rw (
    h.1.1.0 (omega arith),
    h.1.1.1.0 (omega arith),
    h.1.1.1.1.0 (omega arith),
    h.1.1.1.1.1.0 (omega arith),
    h.1.1.1.1.1.1.0 (omega arith),
    h.1.1.1.1.1.1.1.0 (omega arith),
    h.1.1.1.1.1.1.1.1.0 (omega arith),
  ) refl

  names_alone : KeepsOthers 4 db next → tables_in next ≡ record (tables_in db) { names = (tables_in next).names }
  names_alone h = rw (
    h.1.0 (omega arith),
    h.1.1.1.0 (omega arith),
    h.1.1.1.1.0 (omega arith),
    h.1.1.1.1.1.0 (omega arith),
    h.1.1.1.1.1.1.0 (omega arith),
    h.1.1.1.1.1.1.1.0 (omega arith),
    h.1.1.1.1.1.1.1.1.0 (omega arith),
  ) refl

  owners_alone : KeepsOthers 6 db next → tables_in next ≡ record (tables_in db) { owners = (tables_in next).owners }
  owners_alone h = rw (
    h.1.0 (omega arith),
    h.1.1.0 (omega arith),
    h.1.1.1.1.0 (omega arith),
    h.1.1.1.1.1.0 (omega arith),
    h.1.1.1.1.1.1.0 (omega arith),
    h.1.1.1.1.1.1.1.0 (omega arith),
    h.1.1.1.1.1.1.1.1.0 (omega arith),
  ) refl

  files_alone : KeepsOthers 8 db next → tables_in next ≡ record (tables_in db) { files = (tables_in next).files }
  files_alone h = rw (
    h.1.0 (omega arith),
    h.1.1.0 (omega arith),
    h.1.1.1.0 (omega arith),
    h.1.1.1.1.1.0 (omega arith),
    h.1.1.1.1.1.1.0 (omega arith),
    h.1.1.1.1.1.1.1.0 (omega arith),
    h.1.1.1.1.1.1.1.1.0 (omega arith),
  ) refl

  bodies_alone : KeepsOthers 11 db next → tables_in next ≡ record (tables_in db) { bodies = (tables_in next).bodies }
  bodies_alone h = rw (
    h.1.0 (omega arith),
    h.1.1.0 (omega arith),
    h.1.1.1.0 (omega arith),
    h.1.1.1.1.0 (omega arith),
    h.1.1.1.1.1.1.0 (omega arith),
    h.1.1.1.1.1.1.1.0 (omega arith),
    h.1.1.1.1.1.1.1.1.0 (omega arith),
  ) refl

  yanks_alone : KeepsOthers 13 db next → tables_in next ≡ record (tables_in db) { yanks = (tables_in next).yanks }
  yanks_alone h = rw (
    h.1.0 (omega arith),
    h.1.1.0 (omega arith),
    h.1.1.1.0 (omega arith),
    h.1.1.1.1.0 (omega arith),
    h.1.1.1.1.1.0 (omega arith),
    h.1.1.1.1.1.1.1.0 (omega arith),
    h.1.1.1.1.1.1.1.1.0 (omega arith),
  ) refl

  cases_alone : KeepsOthers 15 db next → tables_in next ≡ record (tables_in db) { cases = (tables_in next).cases }
  cases_alone h = rw (
    h.1.0 (omega arith),
    h.1.1.0 (omega arith),
    h.1.1.1.0 (omega arith),
    h.1.1.1.1.0 (omega arith),
    h.1.1.1.1.1.0 (omega arith),
    h.1.1.1.1.1.1.0 (omega arith),
    h.1.1.1.1.1.1.1.1.0 (omega arith),
  ) refl

  bans_alone : KeepsOthers 17 db next → tables_in next ≡ record (tables_in db) { bans = (tables_in next).bans }
  bans_alone h = rw (
    h.1.0 (omega arith),
    h.1.1.0 (omega arith),
    h.1.1.1.0 (omega arith),
    h.1.1.1.1.0 (omega arith),
    h.1.1.1.1.1.0 (omega arith),
    h.1.1.1.1.1.1.0 (omega arith),
    h.1.1.1.1.1.1.1.0 (omega arith),
  ) refl

  meta_alone : KeepsOthers 0 db next → tables_in next ≡ tables_in db
  meta_alone h = rw (
    h.1.0 (omega arith),
    h.1.1.0 (omega arith),
    h.1.1.1.0 (omega arith),
    h.1.1.1.1.0 (omega arith),
    h.1.1.1.1.1.0 (omega arith),
    h.1.1.1.1.1.1.0 (omega arith),
    h.1.1.1.1.1.1.1.0 (omega arith),
    h.1.1.1.1.1.1.1.1.0 (omega arith),
  ) refl

  -- a change of another table than meta
  meta_kept : (tree : ℕ) → 0 ≢ tree → KeepsOthers tree db next → meta_in next ≡ meta_in db
  meta_kept tree apart h = h.0 apart

module _ (old new : Database) (index : IsIndex new) where
  pub users_change : (f : Tables → Map UserRecord) → (tables_in new.trees).users ≡ f (tables_in old.trees) → Alters 1 old new
      → Changes (λ T. record T { users = f T }) old new
  users_change f is others = record {
    tables =
        users_alone old.trees new.trees others.0 ∙ ap (λ it. record (tables_in old.trees) { users = it }) is;
    index = index;
    meta = meta_kept old.trees new.trees 1 (omega arith) others.0;
    records = others.1;
  }

  pub names_change : (f : Tables → Map NameRecord) → (tables_in new.trees).names ≡ f (tables_in old.trees) → Alters 4 old new
      → Changes (λ T. record T { names = f T }) old new
  names_change f is others = record {
    tables =
        names_alone old.trees new.trees others.0 ∙ ap (λ it. record (tables_in old.trees) { names = it }) is;
    index = index;
    meta = meta_kept old.trees new.trees 4 (omega arith) others.0;
    records = others.1;
  }

  pub owners_change : (f : Tables → Pairs) → (tables_in new.trees).owners ≡ f (tables_in old.trees) → Alters 6 old new
      → Changes (λ T. record T { owners = f T }) old new
  owners_change f is others = record {
    tables =
        owners_alone old.trees new.trees others.0 ∙ ap (λ it. record (tables_in old.trees) { owners = it }) is;
    index = index;
    meta = meta_kept old.trees new.trees 6 (omega arith) others.0;
    records = others.1;
  }

  pub files_change : (f : Tables → Map FileRecord) → (tables_in new.trees).files ≡ f (tables_in old.trees) → Alters 8 old new
      → Changes (λ T. record T { files = f T }) old new
  files_change f is others = record {
    tables =
        files_alone old.trees new.trees others.0 ∙ ap (λ it. record (tables_in old.trees) { files = it }) is;
    index = index;
    meta = meta_kept old.trees new.trees 8 (omega arith) others.0;
    records = others.1;
  }

  pub bodies_change : (f : Tables → Map Bytes) → (tables_in new.trees).bodies ≡ f (tables_in old.trees) → Alters 11 old new
      → Changes (λ T. record T { bodies = f T }) old new
  bodies_change f is others = record {
    tables =
        bodies_alone old.trees new.trees others.0 ∙ ap (λ it. record (tables_in old.trees) { bodies = it }) is;
    index = index;
    meta = meta_kept old.trees new.trees 11 (omega arith) others.0;
    records = others.1;
  }

  pub yanks_change : (f : Tables → PairMap Bytes) → (tables_in new.trees).yanks ≡ f (tables_in old.trees) → Alters 13 old new
      → Changes (λ T. record T { yanks = f T }) old new
  yanks_change f is others = record {
    tables =
        yanks_alone old.trees new.trees others.0 ∙ ap (λ it. record (tables_in old.trees) { yanks = it }) is;
    index = index;
    meta = meta_kept old.trees new.trees 13 (omega arith) others.0;
    records = others.1;
  }

  pub cases_change : (f : Tables → Map CaseRecord) → (tables_in new.trees).cases ≡ f (tables_in old.trees) → Alters 15 old new
      → Changes (λ T. record T { cases = f T }) old new
  cases_change f is others = record {
    tables =
        cases_alone old.trees new.trees others.0 ∙ ap (λ it. record (tables_in old.trees) { cases = it }) is;
    index = index;
    meta = meta_kept old.trees new.trees 15 (omega arith) others.0;
    records = others.1;
  }

  pub bans_change : (f : Tables → TextSet) → (tables_in new.trees).bans ≡ f (tables_in old.trees) → Alters 17 old new
      → Changes (λ T. record T { bans = f T }) old new
  bans_change f is others = record {
    tables = bans_alone old.trees new.trees others.0
        ∙ ap (λ it. record (tables_in old.trees) { bans = it }) is;
    index = index;
    meta = meta_kept old.trees new.trees 17 (omega arith) others.0;
    records = others.1;
  }

  pub meta_change : (rows : List Row → List Row) → meta_in new.trees ≡ rows (meta_in old.trees) → Alters 0 old new
      → Rewrites (λ T. T) rows old new
  meta_change rows meta others = record { tables = meta_alone old.trees new.trees others.0; index = index; meta = meta; records = others.1 }
