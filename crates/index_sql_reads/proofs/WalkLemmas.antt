-- What a walk makes of the taker of its rows.
use Rattle.index_sql_reads.proofs.Words.{◌≡◌, ◌∙◌, List, [], ◌∷◌, ◌++◌, map, Ok, Err, Result, refl, sym, ap, subst, AllByRecursion}
use Rattle.index_sql_reads.proofs.Words.{map-append, Fault, WalkEnd, Store, Took, Walks, walk_end_of}
use Rattle.std.proofs.Common.{append-nil}
use Rattle.index_rules.specs.declared.answer.Fault.TheVariants as fault
use Rattle.index_rules.specs.declared.rows.WalkEnd.TheVariants.{Stopped, OutOfMemory}
use Rattle.index_rules.specs.Rows.{TookFront}

-- the end of a walk tells the fault
pub fault_told : (f : Fault) → walk_end_of f ≡ Store → f ≡ fault.Store
fault_told fault.OutOfMemory is = absurd (let e = is in cc)
fault_told fault.Store is = refl

-- of what each of some rows is, the last of them is one, and their front
module _ {R : Type 0} (P : R → Type 0) where
  pub last_is : (rows : List R) (row : R) → AllByRecursion P (rows ++ row ∷ []) → P row
  last_is [] row all = all.0
  last_is (first ∷ rows) row all = last_is rows row all.1

  pub front_are : (rows more : List R) → AllByRecursion P (rows ++ more) → AllByRecursion P rows
  front_are [] more all = tt
  front_are (row ∷ rows) more all = (all.0, front_are rows more all.1)

module _ {K R : Type 0} (takes stops : K → R → K → Type 0) where
  -- rows that were taken are a front of what a fault ends
  pub faulted : (f : Fault) (rows : List R) (a b : K) → Took takes rows a b
      → Walks {A = Unit {0}} takes stops rows a b (Err (walk_end_of f))
  faulted fault.OutOfMemory rows a b took = (rows, [], sym (append-nil rows), took)
  faulted fault.Store rows a b took = (rows, [], sym (append-nil rows), took)

  pub faulted_as : (f : Fault) (end : WalkEnd) → end ≡ walk_end_of f → (rows : List R) (a b : K) → Took takes rows a b
      → Walks {A = Unit {0}} takes stops rows a b (Err end)
  faulted_as f end is rows a b took = subst (λ e. Walks {A = Unit {0}} takes stops rows a b (Err e)) (sym is) (faulted f rows a b took)

  -- a row that is not taken ends it
  pub stopped : (row : R) (a b : K) → stops a row b → Walks {A = Unit {0}} takes stops (row ∷ []) a b (Err Stopped)
  stopped row a b it = (row ∷ [], [], refl, record { taken = []; row = row; split = refl; between = a; took = refl; stopped = it })

-- a walk over rows that are read one at a time is one over what they are read as
module _ {K X R : Type 0} (takes stops : K → R → K → Type 0) (read : X → R) where
  read_took : (rows : List X) (a b : K) → Took (λ before row after. takes before (read row) after) rows a b → Took takes (map read rows) a b
  read_took [] a b it = it
  read_took (row ∷ rows) a b it = (it.0, it.1, read_took rows it.0 b it.2)

  read_split : (xs ys zs : List X) → xs ≡ ys ++ zs → map read xs ≡ map read ys ++ map read zs
  read_split xs ys zs split = ap (map read) split ∙ map-append read ys zs

  read_front : (rows : List X) (a b : K) → TookFront (λ before row after. takes before (read row) after) rows a b
      → TookFront takes (map read rows) a b
  read_front rows a b it = (map read it.0, map read it.1, read_split rows it.0 it.1 it.2, read_took it.0 a b it.3)

  pub read_walks : (rows : List X) (a b : K) (result : Result (Unit {0}) WalkEnd)
      → Walks (λ before row after. takes before (read row) after) (λ before row after. stops before (read row) after) rows a b result
      → Walks takes stops (map read rows) a b result
  read_walks rows a b (Ok done) it = read_took rows a b it
  read_walks rows a b (Err Stopped) it = (
    map read it.0,
    map read it.1,
    read_split rows it.0 it.1 it.2,
    record {
      taken = map read it.3.taken;
      row = read it.3.row;
      split = read_split it.0 it.3.taken (it.3.row ∷ []) it.3.split;
      between = it.3.between;
      took = read_took it.3.taken a it.3.between it.3.took;
      stopped = it.3.stopped;
    },
  )
  read_walks rows a b (Err OutOfMemory) it = read_front rows a b it
  read_walks rows a b (Err Store) it = read_front rows a b it
