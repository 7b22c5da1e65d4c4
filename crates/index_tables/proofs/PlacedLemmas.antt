-- An index of version 3 is refused only for a fault, and a look at it leaves nothing new to a crash.
use Rattle.index_tables.proofs.Words.{◌≡◌, ◌∙◌, ap, inl, inr, refl, sym, ℕ, Bool, Option, true, false, true≢false, same_name, Database}
use Rattle.index_tables.proofs.Words.{Ghosts, Held, state, OpenFault, QueriesOnly, has_meta, begun, selects, IsIndex, version_in}
use Rattle.index_sql_opening.specs.Versions.{VersionQueryShows}
use Rattle.index_tables.specs.Placed.{LeavesNothingNew, RefusesPlaced, placed_refusal}

-- an index has the table of the version
index_tells : (db : Database) → IsIndex db → has_meta db.schema ≡ true
unfolding same_name
index_tells db h = rw h.schema refl

pub refused_unlike : {S : Type 0} (g : Ghosts S) (old new : Held S) (why : OpenFault) → has_meta (state g old).now.schema ≡ false
    → RefusesPlaced g old new why
refused_unlike g old new why none o (index, told) = absurd (true≢false (sym (index_tells (state g old).now index) ∙ none))

module _ {S : Type 0} (g : Ghosts S) (old new : Held S) (version : Option ℕ) (why : OpenFault) (is : why ≡ placed_refusal version) where
  -- by the version in the row of meta
  pub refused_by : version ≡ version_in (state g old).now.trees → RefusesPlaced g old new why
  refused_by found o (index, told) = inr (is ∙ ap placed_refusal (found ∙ told))

  -- by what the query of the version shows
  pub refused_shown : VersionQueryShows g (begun old) version → RefusesPlaced g old new why
  refused_shown tells o (index, told) =
      inr (is ∙ ap placed_refusal (tells.first ∙ selects (state g (begun old)) (state g tells.after) tells.rows (inl index) tells.shown
      ∙ told))

-- a look leaves what a crash could leave before it
pub looked_nothing_new : {S : Type 0} (g : Ghosts S) (old new : Held S) {did : Bool} → QueriesOnly g old new did
    → LeavesNothingNew g old new
looked_nothing_new g old new looks clean db may =
    elim (looks.survives.crash clean db may) [ inl before ↦ before | inr none ↦ absurd none ]
