-- The step from version 1 to an index.
use Rattle.index_sql_opening.proofs.Words.{◌≡◌, ℕ, true, [], Ok, None, IsTrue, arith, refl, subst, everything, Ghosts, Held, state}
use Rattle.index_sql_opening.proofs.Words.{understood, State, ExecutesInside, IsMigrating, Unlimited, first_version_schema, without_bans}
use Rattle.index_sql_opening.proofs.Words.{same_meta, index_schema, update_version_text, bans_text, first_eight, MakesInTransaction}
use Rattle.index_sql_opening.proofs.Words.{IsWrite}
use Rattle.index_sql_opening.proofs.SureTexts.{table_sure}
use Rattle.index_sql_schema.specs.FirstVersion.{IsFirstVersion}
use Rattle.index_sql_schema.proofs.BanTable.{creates_bans}

pub bans_made : (old new : State) (count : ℕ) → IsMigrating old → ExecutesInside 0 bans_text [] old new (Ok count)
    → MakesInTransaction without_bans same_meta old new
bans_made old new count ready ran =
    let it = creates_bans old new count ready.first ran.0 in
    record {
      ready = record { is_open = ran.1.is_open; inside = ran.1.mode; index = it.index };
      tables = it.tables;
      committed = ran.1.committed_is;
      meta = it.meta;
      records = it.records;
    }

-- SQL understands both statements
pub bans_sure : IsWrite first_version_schema bans_text 0
bans_sure = subst (λ schema. IsWrite schema bans_text 0) first_eight (table_sure 8 bans_text refl)

pub version_sure : IsWrite index_schema update_version_text 0
unfolding understood everything IsWrite
version_sure = (omega arith, refl, refl, refl, tt)

-- a transaction on a database of version 1 begins fit
pub begins_first : {S : Type 0} (g : Ghosts S) (old : Held S) → (IsTrue (state g old).is_open → IsFirstVersion (state g old).now)
    → IsTrue (state g old).is_open → (state g old).step_limit ≡ None
    → Unlimited IsMigrating (state g (record old { in_transaction = true }))
begins_first g old first opened unlimited = (record { is_open = opened; inside = refl; first = first opened }, unlimited)
