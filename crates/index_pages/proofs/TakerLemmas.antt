-- Rows that were given to a taker, seen as rows that were given to its state: what a walk says of a page, in the words of a page's own
-- contracts.
use Rattle.index_pages.proofs.Words.{◌≡◌, ◌∙◌, List, [], ◌∷◌, ap, Ok, Err, Result, Took, StoppedAt}
use Rattle.index_rules.specs.Walks.{Walks}
use Rattle.index_rules.specs.declared.rows.WalkEnd.{WalkEnd}
use Rattle.index_rules.specs.declared.rows.WalkEnd.TheVariants.{Stopped, OutOfMemory, Store}

-- by a step that leads from state to state, and keeps what is the same of the taker, as the name of its sink
pub took_by : {K R S N : Type 0} (takes : K → R → K → Type 0) (by : S → R → S → Type 0) (state : K → S) (same : K → N)
    → ((before : K) (row : R) (after : K) → takes before row after → (same after ≡ same before) × by (state before) row (state after))
    → (rows : List R) (before after : K) → Took takes rows before after
    → (same after ≡ same before) × Took by rows (state before) (state after)
took_by takes by state same step [] before after e = (ap same e, ap state e)
took_by takes by state same step (row ∷ rows) before after h =
    let first = step before row h.0 h.1 in
    let later = took_by takes by state same step rows h.0 after h.2 in
    (later.0 ∙ first.0, (state h.0, first.1, later.1))

pub stopped_by : {K R S N : Type 0} (takes stops : K → R → K → Type 0) (by stops_by : S → R → S → Type 0) (state : K → S) (same : K → N)
    → ((before : K) (row : R) (after : K) → takes before row after → (same after ≡ same before) × by (state before) row (state after))
    → ((before : K) (row : R) (after : K) → stops before row after → (same after ≡ same before) × stops_by (state before) row (state after))
    → (rows : List R) (before after : K) → StoppedAt takes stops rows before after
    → (same after ≡ same before) × StoppedAt by stops_by rows (state before) (state after)
stopped_by takes stops by stops_by state same step stop rows before after h =
    let took = took_by takes by state same step h.taken before h.between h.took in
    let stopped = stop h.between h.row after h.stopped in
    let given : StoppedAt by stops_by rows (state before) (state after) =
    record { taken = h.taken; row = h.row; split = h.split; between = state h.between; took = took.1; stopped = stopped.1 } in
    (stopped.0 ∙ took.0, given)

-- a walk, however it ends
pub walks_by : {K R S N A : Type 0} (takes stops : K → R → K → Type 0) (by stops_by : S → R → S → Type 0) (state : K → S) (same : K → N)
    → ((before : K) (row : R) (after : K) → takes before row after → (same after ≡ same before) × by (state before) row (state after))
    → ((before : K) (row : R) (after : K) → stops before row after → (same after ≡ same before) × stops_by (state before) row (state after))
    → (rows : List R) (before after : K) (result : Result A WalkEnd) → Walks takes stops rows before after result
    → (same after ≡ same before) × Walks by stops_by rows (state before) (state after) result
walks_by takes stops by stops_by state same step stop rows before after (Ok done) h = took_by takes by state same step rows before after h
walks_by takes stops by stops_by state same step stop rows before after (Err Stopped) h =
    let at = stopped_by takes stops by stops_by state same step stop h.0 before after h.3 in
    (at.0, (h.0, h.1, h.2, at.1))
walks_by takes stops by stops_by state same step stop rows before after (Err OutOfMemory) h =
    let took = took_by takes by state same step h.0 before after h.3 in
    (took.0, (h.0, h.1, h.2, took.1))
walks_by takes stops by stops_by state same step stop rows before after (Err Store) h =
    let took = took_by takes by state same step h.0 before after h.3 in
    (took.0, (h.0, h.1, h.2, took.1))
