-- The rows of records stay such if each column is shown in its place.
use Rattle.index_sql_schema.proofs.Words.{inl, inr, [], ◌∷◌, subst, arith, Row, column, Schema, Database, index_schema, IsIndex, IsUserRow}
use Rattle.index_sql_schema.proofs.Words.{IsNameRow, IsFileRow, IsCaseRow, IsAccountRow, AreRecords, AreRecordsOf}
use Rattle.index_sql_schema.specs.RecordRows.{IsNumberIfAny}

-- in the order of the tables of an index
pub known_records : (db : Database) → IsIndex db → AreRecords db → AreRecordsOf index_schema.tables db.trees
known_records db h before = subst (λ (s : Schema). AreRecordsOf s.tables db.trees) h.schema before

pub user_shown : (r : Row) → IsUserRow r → IsUserRow (column r 0 ∷ column r 1 ∷ column r 2 ∷ column r 3 ∷ [])
user_shown r it = record { office = it.office; token = it.token }

pub account_shown : (r : Row) → IsAccountRow r → IsAccountRow (column r 0 ∷ column r 1 ∷ column r 2 ∷ column r 3 ∷ [])
account_shown r it = record { user = it.user; account = user_shown r it.account }

abbrev pub eight : Row → Row
eight r = column r 0 ∷ column r 1 ∷ column r 2 ∷ column r 3 ∷ column r 4 ∷ column r 5 ∷ column r 6 ∷ column r 7 ∷ []

pub name_shown : (r : Row) → IsNameRow r → IsNameRow (eight r)
name_shown r (inl (state, it)) = inl (
  state,
  record {
    shown = it.shown;
    quota = it.quota;
    charge = it.charge;
    undeleted = it.undeleted;
    last_upload = if_any it.last_upload;
    fits = it.fits;
  },
)
  where
    if_any : IsNumberIfAny r 7 → IsNumberIfAny (eight r) 7
    if_any (inl null) = inl (omega arith, null.1)
    if_any (inr number) = inr number
name_shown r (inr (state, it)) = inr (
  state,
  record {
    shown = it.shown;
    quota = it.quota;
    charge = it.charge;
    undeleted = it.undeleted;
    last_upload = (omega arith, it.last_upload.1);
  },
)

pub file_shown : (r : Row) → IsFileRow r → IsFileRow (eight r)
file_shown r it = record {
  project = it.project;
  release = it.release;
  digest = it.digest;
  size = it.size;
  requires_python = it.requires_python;
  is_undeleted = it.is_undeleted;
}

abbrev pub fourteen : Row → Row
fourteen r =
    column r 0 ∷ column r 1 ∷ column r 2 ∷ column r 3 ∷ column r 4 ∷ column r 5 ∷ column r 6 ∷ column r 7 ∷ column r 8 ∷ column r 9 ∷ column
    r 10 ∷ column r 11 ∷ column r 12 ∷ column r 13 ∷ []

pub case_shown : (r : Row) → IsCaseRow r → IsCaseRow (fourteen r)
case_shown r it = record {
  kind = it.kind;
  candidate = it.candidate;
  contact = it.contact;
  work = it.work;
  why = it.why;
  opened = it.opened;
  state = record {
    attempts = it.state.attempts;
    sent = it.state.sent;
    profile = it.state.profile;
    author = it.state.author;
    pages = it.state.pages;
    first = if_any it.state.first;
    fit = it.state.fit;
  };
}
  where
    if_any : IsNumberIfAny r 13 → IsNumberIfAny (fourteen r) 13
    if_any (inl null) = inl (omega arith, null.1)
    if_any (inr number) = inr number
