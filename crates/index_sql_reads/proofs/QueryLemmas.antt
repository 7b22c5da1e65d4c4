-- What a query whose rows are passed on leaves, and what its rows have to do with the tables.
use Rattle.index_sql_reads.proofs.Words.{◌≡◌, ◌∙◌, ℕ, Bool, true, false, not, List, [], ◌∷◌, ◌++◌, length, map, Ok, Err, Result, IfErr}
use Rattle.index_sql_reads.proofs.Words.{OnOk, None, inl, inr, refl, sym, ap, subst, arith, length-append, AllByRecursion, map-append}
use Rattle.index_sql_reads.proofs.Words.{Ghosts, Row, Database, Held, state, understood, State, HasCleanDisk, Shown, EndsIn, command_of}
use Rattle.index_sql_reads.proofs.Words.{Fault, WalkEnd, Store, Tables, Walks, has_fault, is_fault, walk_end_of, index_schema, tables_in}
use Rattle.index_sql_reads.proofs.Words.{IsIndex, shown_open, IsIndexConnection, QueriesOnly, AreRecords, IsSure, HasReason, clean_before}
use Rattle.index_sql_reads.proofs.Words.{looks_kept, reasoned, IsGiving, IsOf}
use Rattle.std.proofs.Common.{◌⊎◌, ◌≤◌, ◌-◌, ◌^◌}
use Rattle.std.proofs.Common.{IsTrue}
use Rattle.std.proofs.lemmas.List.{length-map}
use Rattle.sqlite.specs.Clock.{timed}
use Rattle.sqlite.specs.declared.error.Error.{Error}
use Rattle.sqlite.specs.Given.{HasGiven, HasBegun, Advances}
use Rattle.sqlite.specs.State.{Survives, CommitsShowing, Fails, IsUnchanged}
use Rattle.sqlite.proofs.Callers.{IsPlain, begun_plain, begins_shown, given_begin, unchanged_then}
use Rattle.sqlite.proofs.StateLemmas.{survives_then}
use Rattle.index_rules.specs.declared.answer.Fault.TheVariants as fault
use Rattle.index_rules.specs.Walks.{EndsEarly}
use Rattle.index_rules.proofs.WalkLemmas.{EndsEarly-within}
use Rattle.index_sql_schema.specs.Unchanged.{IsUnchangedIfOpen}
use Rattle.index_sql_schema.proofs.StayLemmas.{unchanged_stays, undone_stays}
use Rattle.index_sql_schema.proofs.LookLemmas.{looks_by, reason_then}
use Rattle.index_sql_reads.specs.Handed.{GivesUnread, HasStayed, IsLastLook, WalkFailsAfterRows}
use Rattle.index_sql_reads.proofs.WalkLemmas.{front_are, read_walks}

-- a fault of another look is one of the walk
is_faulty : (f : Fault) → is_fault (walk_end_of f) ≡ true
is_faulty fault.OutOfMemory = refl
is_faulty fault.Store = refl

-- and it is no success
pub looks_faulty : {S : Type 0} (g : Ghosts S) (old now : Held S) (f : Fault) (end : WalkEnd) → end ≡ walk_end_of f
    → QueriesOnly g old now false → QueriesOnly g old now (not (is_fault end))
looks_faulty g old now f end is looks = subst (λ did. QueriesOnly g old now (not did)) (sym (ap is_fault is ∙ is_faulty f)) looks

was_false : (b : Bool) → IsTrue (not b) → b ≡ false
was_false true it = absurd (cc)
was_false false it = refl

-- what was unchanged is as it is
settled : (a b : State) → IsUnchanged a b → IsUnchanged b b
settled a b it = (
  record { was_open = it.0.is_open; is_open = it.0.is_open; now_is = refl; committed_is = refl; mode = refl },
  record { changes = refl; last_rowid = refl },
  refl,
)

-- ---- the last look for a row

-- if nothing is done, nothing outlasts a crash
survives_nothing : (s : State) → Survives s s (λ _. ⊥)
survives_nothing s = record {
  clean = omega arith;
  shield = λ h. h;
  counts = omega arith;
  limit = refl;
  closes = λ clean h. inl h;
  crash = λ clean db h. inl h;
}

module _ {S : Type 0} (g : Ghosts S) where
  -- there was none left
  pub none_left : (mid now : Held S) → (mid.in_transaction ≡ false → now.in_transaction ≡ false)
      → Survives (state g mid) (state g now) (λ _. ⊥)
      → (HasCleanDisk (state g now) → IsUnchanged (state g mid) (state g now)) → (HasCleanDisk (state g now) → Advances g mid now None)
      → IsLastLook g mid now (Ok tt)
  none_left mid now mode survives same ended = record {
    mode = mode;
    survives = survives;
    kept = λ clean. inl (unchanged_stays (state g mid) (state g now) (same clean));
    same = λ _. same;
    ended = ended;
  }

  -- the query failed
  pub query_failed : (mid now : Held S) (e : Error) (f : Fault) (end : WalkEnd) → end ≡ walk_end_of f
      → (mid.in_transaction ≡ false → now.in_transaction ≡ false) → Survives (state g mid) (state g now) (λ _. ⊥)
      → (HasCleanDisk (state g now) → Fails (state g mid) (state g now) ⊥ e ⊎ IsUnchanged (state g mid) (state g now))
      → IsLastLook g mid now (Err end)
  query_failed mid now e f end is mode survives kept = record {
    mode = mode;
    survives = survives;
    kept = λ clean. either (kept clean);
    same = λ none. let faulty = ap is_fault is ∙ is_faulty f in absurd (cc);
    ended = λ clean. tt;
  }
    where
      either : Fails (state g mid) (state g now) ⊥ e ⊎ IsUnchanged (state g mid) (state g now)
          → IsUnchangedIfOpen (state g mid) (state g now) ⊎ ((error : Error) × Fails (state g mid) (state g now) ⊥ error)
      either (inl fails) = inr (e, fails)
      either (inr same) = inl (unchanged_stays (state g mid) (state g now) same)

  -- the row that was found was the last to be passed on
  pub nothing_done : (mid now : Held S) (end : WalkEnd) → (HasCleanDisk (state g now) → IsUnchanged (state g mid) (state g now))
      → IsLastLook g now now (Err end)
  nothing_done mid now end same = record {
    mode = λ outside. outside;
    survives = survives_nothing (state g now);
    kept = λ clean. inl (record { was_open = λ o. o; now_is = λ _. refl; committed_is = λ _. refl });
    same = λ _ clean. settled (state g mid) (state g now) (same clean);
    ended = λ clean. tt;
  }

  -- there were too many
  pub given_up : (now : Held S) (f : Fault) → IsLastLook g now now (Err (walk_end_of f))
  given_up now f = record {
    mode = λ outside. outside;
    survives = survives_nothing (state g now);
    kept = λ clean. inl (record { was_open = λ o. o; now_is = λ _. refl; committed_is = λ _. refl });
    same = λ none. let faulty = is_faulty f in absurd (cc);
    ended = λ clean. tt;
  }

  -- one row more
  pub gives_on : (sql : List ℕ) (params : Row) (old mid now : Held S) (given : List Row) (row : Row) → IsGiving g sql params old mid given
      → (mid.in_transaction ≡ false → now.in_transaction ≡ false) → Survives (state g mid) (state g now) (λ _. ⊥)
      → (HasCleanDisk (state g now) → IsUnchanged (state g mid) (state g now))
      → (HasCleanDisk (state g now) → HasGiven g sql params mid given → HasGiven g sql params now (given ++ row ∷ []))
      → IsGiving g sql params old now (given ++ row ∷ [])
  gives_on sql params old mid now given row it mode survives same advances =
      let before = clean_before (state g mid) (state g now) _ survives in record {
        stayed = record {
          outside = mode it.stayed.outside;
          survives = survives_then (state g old) (state g mid) (state g now) _ _ _ (λ _ db may. may) (λ _ db none. absurd none)
              it.stayed.survives survives;
          same = λ clean. unchanged_then (state g old) (state g mid) (state g now) (it.stayed.same (before clean)) (same clean);
        };
        gave = λ clean. advances clean (it.gave (before clean));
      }

-- ---- a query from its start to its last look

module _ {S : Type 0} (g : Ghosts S) (sql : List ℕ) (params : Row) (plain : IsPlain (understood index_schema sql)) (old : Held S)
    (kept : IsIndexConnection g old) where
  pub begins : (now : Held S) → now.in_transaction ≡ false → Survives (state g old) (state g now) (CommitsShowing sql params (state g old))
      → (HasCleanDisk (state g now) → HasBegun g sql params old now)
      → IsGiving g sql params old now []
  begins now outside survives begun = record {
    stayed = record { outside = outside; survives = survives; same = λ clean. (plainly clean (begun clean)).1 };
    gave = λ clean. (plainly clean (begun clean)).0;
  }
    where
      plainly : HasCleanDisk (state g now) → HasBegun g sql params old now
          → HasGiven g sql params now [] × IsUnchanged (state g old) (state g now)
      plainly clean (inl h) = h
      plainly clean (inr h) =
          let schema = (kept.index (clean_before (state g old) (state g now) _ survives clean)
          (shown_open (state g old) (state g now) sql params _ h.1).0).schema in
          begun_plain g sql params old now (subst (λ s. IsPlain (understood s sql)) (sym schema) plain) (inr h)

  -- an error undoes nothing, since all is committed
  pub handed_looks : (mid now : Held S) (result : Result (Unit {0}) WalkEnd) → HasStayed g sql params old mid → IsLastLook g mid now result
      → QueriesOnly g old now (not (has_fault result))
  handed_looks mid now result it last =
      looks_by g old now sql params plain kept (last.mode it.outside)
      (survives_then (state g old) (state g mid) (state g now) _ _ _ (λ _ db may. may) (λ _ db none. absurd none)
      it.survives last.survives)
      (not (has_fault result)) (λ clean. stays clean (last.kept clean))
      (λ did clean. (last.same (was_false (has_fault result) did) clean).0.is_open)
    where
      stays : HasCleanDisk (state g now) → IsUnchangedIfOpen (state g mid) (state g now)
          ⊎ ((e : Error) × Fails (state g mid) (state g now) ⊥ e) → IsUnchangedIfOpen (state g old) (state g now)
      stays clean kept_or =
          let before = clean_before (state g mid) (state g now) _ last.survives clean in
          let was = (it.same before).0 in
          let committed = kept.committed (clean_before (state g old) (state g mid) _ it.survives before) was.was_open in
          let then : IsUnchangedIfOpen (state g mid) (state g now) = elim kept_or [
            | inl left ↦ left
            | inr fails ↦ undone_stays (state g mid) (state g now) (λ o. was.now_is ∙ committed ∙ sym was.committed_is) fails.1.3
          ] in record {
            was_open = λ o. was.was_open;
            now_is = λ o. then.now_is o ∙ was.now_is;
            committed_is = λ o. then.committed_is o ∙ was.committed_is;
          }

  pub handed_of : (mid now : Held S) (rows : List Row) (result : Result (Unit {0}) WalkEnd) → IsGiving g sql params old mid rows
      → IsLastLook g mid now result → HasCleanDisk (state g now) → IsOf g sql params old rows result
  handed_of mid now rows (Ok done) it last clean =
      let before = clean_before (state g mid) (state g now) _ last.survives clean in
      (mid, now, it.stayed.same before, last.ended clean sql params rows (it.gave before))
  handed_of mid now rows (Err end) it last clean =
      let before = clean_before (state g mid) (state g now) _ last.survives clean in
      inr (mid, it.stayed.same before, it.gave before)

  -- rows that were given are a look
  looks_giving : (mid : Held S) (rows : List Row) → IsGiving g sql params old mid rows → QueriesOnly g old mid true
  looks_giving mid rows it =
      looks_by g old mid sql params plain kept it.stayed.outside it.stayed.survives true
      (λ clean. unchanged_stays (state g old) (state g mid) (it.stayed.same clean)) (λ did clean. (it.stayed.same clean).0.is_open)

  -- what fails after them has a reason, or gave rows that are not read
  pub ends_by : (IsRow : Row → Type 0) (mid now : Held S) (rows : List Row) (result : Result (Unit {0}) WalkEnd) → IsSure sql params
      → IsGiving g sql params old mid rows → IsLastLook g mid now result
      → (HasCleanDisk (state g now) → HasGiven g sql params mid rows
      → IfErr result (λ end. end ≡ Store → WalkFailsAfterRows g IsRow sql params mid now rows))
      → HasCleanDisk (state g now) → IfErr result (λ end. end ≡ Store
      → HasReason (state g old) (state g now) ⊎ GivesUnread g IsRow sql params old)
  ends_by IsRow mid now rows (Ok done) sure it last fails clean = tt
  ends_by IsRow mid now rows (Err end) sure it last fails clean = λ is. by (fails clean gave is)
    where
      before : HasCleanDisk (state g mid)
      before = clean_before (state g mid) (state g now) _ last.survives clean

      gave : HasGiven g sql params mid rows
      gave = it.gave before

      looks : QueriesOnly g old mid true
      looks = looks_giving mid rows it

      by : WalkFailsAfterRows g IsRow sql params mid now rows → HasReason (state g old) (state g now) ⊎ GivesUnread g IsRow sql params old
      by (inl (e, failed, fault)) = inl (reason_then g old mid now looks before
          (reasoned g mid now sql params e (looks_kept g old mid true kept looks) before sure failed fault))
      by (inr unread) = inr (rows, mid, it.stayed.same before, gave, unread)

-- rows that were all handed on come from a connection that is open
pub stays_open : {S : Type 0} (g : Ghosts S) (sql : List ℕ) (params : Row) (old now : Held S) (rows : List Row)
    (result : Result (Unit {0}) WalkEnd) → QueriesOnly g old now (not (has_fault result))
    → (HasCleanDisk (state g now) → IsOf g sql params old rows result)
    → OnOk result (HasCleanDisk (state g now) → IsTrue (state g now).is_open)
stays_open g sql params old now rows (Ok done) looks shown = λ clean. looks.lasts refl clean (shown clean).2.0.was_open
stays_open g sql params old now rows (Err end) looks shown = tt

-- ---- a walk over all rows of the tables

module _ {S : Type 0} (g : Ghosts S) (sql : List ℕ) (params : Row) (ends : (db : Database) (ps : Row)
    → EndsIn (command_of (understood index_schema sql)) db ps) (held : Held S) (kept : IsIndexConnection g held)
    (clean : HasCleanDisk (state g held)) {R : Type 0} (read : Row → R) (rows_of : Tables → List R)
    (selects : (old new : State) (rows : List Row) → IsIndex old.now → Shown sql params old new rows
    → map read rows ≡ rows_of (tables_in old.now.trees)) where
  abbrev all : List R
  all = rows_of (tables_in (state g held).now.trees)

  index_at : (at : Held S) → IsUnchanged (state g held) (state g at) → IsIndex (state g at).now
  index_at at same = subst IsIndex (sym same.0.now_is) (kept.index clean same.0.was_open)

  -- what is shown are all
  all_shown : (at now : Held S) (rows : List Row) → IsUnchanged (state g held) (state g at)
      → Shown sql params (state g at) (state g now) rows → map read rows ≡ all
  all_shown at now rows same shown = selects (state g at) (state g now) rows (index_at at same) shown
      ∙ ap (λ (d : Database). rows_of (tables_in d.trees)) same.0.now_is

  -- what was given is a front of an answer
  whole_of : (at : Held S) (rows : List Row) → IsUnchanged (state g held) (state g at) → HasGiven g sql params at rows
      → (tail : List Row) × Shown sql params (state g at) (state g at) (rows ++ tail)
  whole_of at rows same gave =
      let schema = (index_at at same).schema in
      let s = state g at in
      begins_shown sql params s s rows (given_begin g sql params at rows gave) (settled (state g held) s same)
      (λ c db statement source. subst (λ k. EndsIn k db (timed params c.formats statement.now))
      (ap (λ x. command_of (understood x sql)) (sym schema) ∙ ap command_of statement.is)
      (ends db (timed params c.formats statement.now)))

  -- so it is one of all
  front_given : (at : Held S) (rows : List Row) → IsUnchanged (state g held) (state g at) → HasGiven g sql params at rows
      → (tail : List Row) × (map read rows ++ map read tail ≡ all)
  front_given at rows same gave =
      let whole = whole_of at rows same gave in
      (whole.0, sym (map-append read rows whole.0) ∙ all_shown at at (rows ++ whole.0) same whole.1)

  pub walks_all : {K : Type 0} (takes stops : K → R → K → Type 0) (rows : List Row) (a b : K) (result : Result (Unit {0}) WalkEnd)
      → IsOf g sql params held rows result
      → Walks (λ before row after. takes before (read row) after) (λ before row after. stops before (read row) after) rows a b result
      → Walks takes stops all a b result
  walks_all takes stops rows a b (Ok done) it walks =
      subst (λ rows. Walks {A = Unit {0}} takes stops rows a b (Ok done)) (all_shown it.0 it.1 rows it.2 it.3)
      (read_walks takes stops read rows a b (Ok done) walks)
  walks_all takes stops rows a b (Err end) (inl none) walks =
      EndsEarly-within takes stops [] all a b end (read_walks takes stops read [] a b (Err end) (rw none at walks))
  walks_all takes stops rows a b (Err end) (inr it) walks =
      let front = front_given it.0 rows it.1 it.2 in
      subst (λ rows. EndsEarly takes stops rows a b end) front.1
      (EndsEarly-within takes stops (map read rows) (map read front.0) a b end (read_walks takes stops read rows a b (Err end) walks))

  -- if each row of an answer can be read, only so many are not
  module _ (IsRow : Row → Type 0) (reads : (old new : State) (rows : List Row) → IsIndex old.now → AreRecords old.now
      → Shown sql params old new rows → AllByRecursion IsRow rows) (records : AreRecords (state g held).now) where
    counted : GivesUnread g IsRow sql params held → 2 ^ 64 - 1 ≤ length all
    counted (rows, at, same, gave, inl unread) =
        let whole = whole_of at rows same gave in
        absurd (unread (front_are IsRow rows whole.0
        (reads (state g at) (state g at) (rows ++ whole.0) (index_at at same) (subst AreRecords (sym same.0.now_is) records) whole.1)))
    counted (rows, at, same, gave, inr many) =
        let front = front_given at rows same gave in
        subst (λ l. 2 ^ 64 - 1 ≤ length l) front.1
        (omega (arith, many, length-append (map read rows) (map read front.0), length-map rows read))

    pub ends_for : (now : Held S) (result : Result (Unit {0}) WalkEnd)
        → IfErr result (λ end. end ≡ Store → HasReason (state g held) (state g now) ⊎ GivesUnread g IsRow sql params held)
        → IfErr result (λ end. end ≡ Store → HasReason (state g held) (state g now) ⊎ (2 ^ 64 - 1 ≤ length all))
    ends_for now (Ok done) it = tt
    ends_for now (Err end) it = λ is. elim (it is) [ inl reason ↦ inl reason | inr unread ↦ inr (counted unread) ]
