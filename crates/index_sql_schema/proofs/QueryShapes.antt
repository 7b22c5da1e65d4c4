-- The shapes of what the statements are compiled to.
use Rattle.std.specs.Prelude.{ℕ, List, [], ◌∷◌, None, Some, false, pos, negsuc}
use Rattle.sqlite.specs.declared.types.Value.TheVariants.{Int}
use Rattle.index_sql_schema.proofs.Words.{Binary, Key, Term, lit, col, op2, Compare, Eq, Join, inner, end, Program, Upsert}
use Rattle.sqlite_sql.specs.Query.{Query}

-- a place of the row equals a parameter
abbrev pub is_param : ℕ → ℕ → Term
is_param place param = op2 (Compare Eq Binary) (col 1 place) (col 0 param)

-- the rows of one table that pass, in an order, by these terms, with what is looked up for each
abbrev pub from_with : ℕ → Join → List Term → List Term → List (Term × Key) → Query
from_with tree more filter project order = record {
  from = inner tree more;
  filter = filter;
  group = None;
  project = project;
  distinct = false;
  collations = [];
  order = order;
  limit = lit (Int (negsuc 0));
  offset = lit (Int (pos 0));
}

abbrev pub from_one : ℕ → List Term → List Term → List (Term × Key) → Query
from_one tree = from_with tree end

-- one of the rows that pass, if there is one
abbrev pub first_from : ℕ → List Term → List Term → Query
first_from tree filter project = record (from_one tree filter project []) { limit = lit (Int (pos 1)) }

abbrev pub plan : Query → Program
plan q = record { lets = []; body = q }

-- ON CONFLICT (these places) DO UPDATE: the row that is there, found by the rowid that follows the parameters, becomes what the terms say
abbrev pub on_conflict : ℕ → ℕ → List ℕ → List Term → Upsert
on_conflict tree count places project = record {
  target = Some places;
  update = Some (plan (from_one tree (op2 (Compare Eq Binary) (col 1 0) (col 0 count) ∷ []) project []));
}
