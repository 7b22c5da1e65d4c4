-- What no run may do: wrong outcomes do not meet the words of the contracts.
use Rattle.index.proofs.Words.{◌≡◌, ◌∙◌, ◌+◌, ℕ, suc, Result, Some, refl, ap, subst, inl, inr, List, [], ◌∷◌, length, arith, Came}
use Rattle.index.proofs.Words.{ClientTaken, Exchange, KnownList, KnownReplies, Image, first_tables, Bytes, Tables, End, CreatedRun, LeadsOn}
use Rattle.index.proofs.Words.{Holds, HoldsNone, in_files, AreAmong, Task, WorkRun, Bool, false, true}
use Rattle.index.proofs.ThereLemmas.{current_is_there, not_found}

-- trees of an index are not trees that have nothing of one
pub index_is_not_none : (image : Image) (T : Tables) (holds : Holds image T) (none : HoldsNone image) → ¬ (none.db.trees ≡ holds.db.trees)
index_is_not_none image T holds none same = not_found none holds.db T same holds.found

-- a run that did a task leaves no files with nothing of an index
pub work_run_leaves_an_index : (closed : Bool) (task : Task) (result : Result ℕ End) (start next : Image) → HoldsNone next
    → ¬ LeadsOn in_files (WorkRun closed task result) start next
work_run_leaves_an_index true task result start next none leads = current_is_there next leads.work.is.0 leads.work.is.1 none
work_run_leaves_an_index false task result start next none leads = leads.work.is.0 none

-- nor does an init that ended well, which made an index if there was none
pub created_run_leaves_an_index : (user token : Bytes) (start next : Image) → HoldsNone next
    → ¬ LeadsOn in_files (CreatedRun user token) start next
created_run_leaves_an_index user token start next none leads = current_is_there next (first_tables user token) leads.1 none

pub created_run_found_none : (user token : Bytes) (start next : Image) → (¬ HoldsNone start)
    → ¬ LeadsOn in_files (CreatedRun user token) start next
created_run_found_none user token start next some leads = some leads.0

-- a list with one input fewer for each connection that came
pub came_fewer : (inputs : List (List ℕ)) (later : KnownList) (exchanges : List Exchange) → Came (Some inputs) later exchanges
    → (rest : List (List ℕ)) × (later ≡ Some rest) × (length inputs ≡ length rest + length exchanges)
came_fewer inputs later [] it = (inputs, it, omega arith)
came_fewer inputs later (exchange ∷ earlier) it =
    let before = came_fewer inputs it.0 earlier it.1 in
    let took = subst (λ known. ClientTaken known later exchange.given) before.1 it.2 in
    (took.1, took.4, let same : length before.0 ≡ suc (length took.1) = ap length took.2 in omega (arith, same, before.2))

-- a list of no length is empty
no_length : (exchanges : List Exchange) → length exchanges ≡ 0 → exchanges ≡ []
no_length [] is = refl
no_length (exchange ∷ earlier) is = absurd (omega (arith, is))

none_came : (inputs : List (List ℕ)) (r r' : KnownReplies) (exchanges : List Exchange) → AreAmong (Some inputs) (Some inputs) r r' exchanges
    → length exchanges ≡ 0
none_came inputs r r' exchanges it =
    let came = came_fewer inputs it.later exchanges it.came in
    elim it.rest [
      | inl now ↦
          let both : Some inputs ≡ Some came.0 = now ∙ came.1 in
          let same : inputs ≡ came.0 = cc in
          let lengths : length inputs ≡ length came.0 = ap length same in
          omega (arith, lengths, came.2)
      | inr more ↦
          let took = subst (λ known. ClientTaken known (Some inputs) more.0) came.1 more.1 in
          let both : Some inputs ≡ Some took.1 = took.4 in
          let same : inputs ≡ took.1 = cc in
          let lengths : length inputs ≡ length took.1 = ap length same in
          let one : length came.0 ≡ suc (length took.1) = ap length took.2 in
          omega (arith, lengths, one, came.2)
    ]

-- of known connections that are as many after a run as before none was answered
pub nobody_is_not_served : (inputs : List Bytes) (r r' : KnownReplies) (exchanges : List Exchange)
    → AreAmong (Some inputs) (Some inputs) r r' exchanges → exchanges ≡ []
nobody_is_not_served inputs r r' exchanges it = no_length exchanges (none_came inputs r r' exchanges it)
