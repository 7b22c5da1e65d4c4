-- A blank database has no rows.
use Rattle.index_tables.proofs.Words.{◌≡◌, sym, subst, Schema, Database, AreRecords}
use Rattle.index_sql_schema.specs.Schema.{no_schema}
use Rattle.index_sql_schema.specs.RecordRows.{AreRecordsOf}

pub blank_records : (db : Database) → db.schema ≡ no_schema → AreRecords db
blank_records db is = subst (λ (s : Schema). AreRecordsOf s.tables db.trees) (sym is) tt
