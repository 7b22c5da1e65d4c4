-- The clients of any runs are sent the same bytes for one file name.
use Rattle.index.proofs.Words.{◌≡◌, ◌⊎◌, ℕ, suc, List, [], ◌∷◌, Some, Result, length, sym, subst, inl, inr, arith, Contains, ∥∥₁_elim}
use Rattle.index.proofs.Words.{∥∥₁_map, sha256, History, IsFrontOf, IsLegal, Bytes, Tables, End, ClientGot, TaskEnds, Done, WorkRun, LeadTo}
use Rattle.index.proofs.Words.{LeadsOn, Run, FindsAgain, Keeping, AnswerConnections, Task, true, by_history}
use Rattle.std.proofs.Common.{zero}
use Rattle.std.specs.Coded.{Coded-set, coded_list, coded_ℕ}
use Rattle.index_cli.specs.FilesServed.{IsServedAt}
use Rattle.index_cli.proofs.FilesServed.{points_agree, sent_at_some_point, served_later}
use Rattle.index.specs.Agree.{AgreeThrough}
use Rattle.index.specs.Chains.{WorkRunLeadsOn}
use Rattle.index.specs.Tasks.{IsDone}
use Rattle.index.proofs.AlikeLemmas.{alike_got, all_alike, one_alike}
use Rattle.index.proofs.ChainLemmas.{StandIn, stand_by_run}
use Rattle.index.proofs.DoneLemmas.{LegalFor, same_for}
use Rattle.index.proofs.GoesOnLemmas.{by_run, carried_on, there_by_run}

-- bytes have one digest and one size
abbrev pub Agree : Bytes → Bytes → Type 0
Agree first second = (sha256 first ≡ sha256 second) × (length first ≡ length second)

-- ---- one run

-- what a client of a run got is what the history after it has of the file at some point
client_served : (task : Task) (result : Result ℕ End) (T : Tables) (done : Done) → TaskEnds task T result done
    → (h h' : History) → IsLegal h' → IsDone by_history done h h' → (file bytes : Bytes) → ClientGot (WorkRun true task result) file bytes
    → IsServedAt h' file bytes
client_served task result T done ends h h' legal carries file bytes got =
    let is : WorkRun true task result ≡ WorkRun true
    (AnswerConnections got.at got.requests (Some got.inputs) got.later (Some got.had) got.has) got.result = got.is in
    let same : task ≡ AnswerConnections got.at got.requests (Some got.inputs) got.later (Some got.had) got.has = cc in
    let it = subst (λ it. TaskEnds it T result done) same ends in
    let answered = subst (λ it. IsDone by_history it h h') it.is carries in
    let all = all_alike got.inputs got.later got.had got.has got.exchanges it.exchanges got.are it.are in
    let found = one_alike got.exchanges it.exchanges all got.client got.among in
    sent_at_some_point it.exchanges h h' legal answered found.0 found.1 file bytes
    (alike_got got.client found.0 found.2 file bytes got.got)

-- a history that a run makes of another one, and that has what the clients of the run got
abbrev AfterRun : (task : Task) (result : Result ℕ End) → History → Tables → Type 0
AfterRun task result h T = (later : LegalFor T) × IsFrontOf h later.0
    × ((file bytes : Bytes) → ClientGot (WorkRun true task result) file bytes → IsServedAt later.0 file bytes)

module _ {X : Type 0} (k : Keeping X) (again : FindsAgain k) where
  after_run : (task : Task) (result : Result ℕ End) (start next : X) (it : WorkRunLeadsOn k true task result start next)
      (was : LegalFor it.before)
      → AfterRun task result was.0 it.work.is.0
  after_run task result start next it was =
      let then = it.work.is.2.history was.0 was.1 was.2 in (
        (then.later, then.shows.0, then.shows.1),
        carried_on true it.work.done was.0 then.later it.work.is.0 then.is,
        client_served task result it.before it.work.done it.work.ends was.0 then.later then.shows.0 then.is,
      )

  -- ---- runs

  -- of a list, the first or a later one
  first_or_later : (run : Run) (runs : List Run) (one : Run) → Contains (run ∷ runs) one → (run ≡ one) ⊎ Contains runs one
  first_or_later run runs one (zero, less, is) = inl is
  first_or_later run runs one (suc k, less, is) = inr (k, omega (arith, less), is)

  -- bytes that were served before a run are served after it
  still_served : (run : Run) (start next : X) (leads : LeadsOn k run start next) → (¬ k.HoldsNone start) → (file bytes : Bytes)
      → StandIn k again (λ h. IsServedAt h file bytes) start
      → StandIn k again (λ h. IsServedAt h file bytes) next
  still_served run start next leads some file bytes stand T holds =
      ∥∥₁_map (stand_by_run k again (λ h. IsServedAt h file bytes) run start next stand leads T holds) (λ then.
      let from = by_run k again run start next leads some (λ h. IsServedAt h file bytes) then.0.0 then.1 in
      (then.0, served_later from.0 then.0.0 from.2 file bytes from.1))

  -- what a client of a run got is served after it
  now_served : (run : Run) (start next : X) (leads : LeadsOn k run start next) (Was : History → Type 0) → StandIn k again Was start
      → (file bytes : Bytes) → ClientGot run file bytes
      → (¬ k.HoldsNone next) × StandIn k again (λ h. IsServedAt h file bytes) next
  now_served run start next leads Was stand file bytes got =
      let it = subst (λ run. LeadsOn k run start next) got.is leads in
      let here = subst (λ run. ClientGot run file bytes) got.is got in (
        again.there next it.work.is.0 it.work.is.1,
        λ T holds. ∥∥₁_map (stand it.before it.held) (λ was.
            let then = after_run _ got.result start next it was.0 in
            (same_for it.work.is.0 T (again.same next it.work.is.0 T it.work.is.1 holds) then.0, then.2 file bytes here)),
      )

  -- two clients of one run
  both_now : (run : Run) (start next : X) → LeadsOn k run start next → (Was : History → Type 0) → StandIn k again Was start
      → (file first second : Bytes) → ClientGot run file first → ClientGot run file second
      → ∥ Agree first second ∥₁
  both_now run start next leads Was stand file first second got got' =
      let it = subst (λ run. LeadsOn k run start next) got.is leads in
      let here = subst (λ run. ClientGot run file first) got.is got in
      let here' = subst (λ run. ClientGot run file second) got.is got' in
      ∥∥₁_map (stand it.before it.held) (λ was.
      let then = after_run _ got.result start next it was.0 in
      points_agree then.0.0 then.0.1 file first second (then.2 file first here) (then.2 file second here'))

  -- a client of a run, and what was served before it
  before_and_now : (run : Run) (start next : X) → LeadsOn k run start next → (file first second : Bytes)
      → StandIn k again (λ h. IsServedAt h file first) start → ClientGot run file second
      → ∥ Agree first second ∥₁
  before_and_now run start next leads file first second stand got =
      let it = subst (λ run. LeadsOn k run start next) got.is leads in
      let here = subst (λ run. ClientGot run file second) got.is got in
      ∥∥₁_map (stand it.before it.held) (λ was.
      let then = after_run _ got.result start next it was.0 in
      points_agree then.0.0 then.0.1 file first second (served_later was.0.0 then.0.0 then.1 file first was.1) (then.2 file second here))

  -- a client of one of some runs, and what was served before them
  before_and_later : (runs : List Run) (start last : X) → LeadTo k runs start last → (¬ k.HoldsNone start) → (file first second : Bytes)
      → StandIn k again (λ h. IsServedAt h file first) start → (one : Run) → Contains runs one → ClientGot one file second
      → ∥ Agree first second ∥₁
  before_and_later [] start last leads some file first second stand one (k, less, is) got = absurd (omega (arith, less))
  before_and_later (run ∷ runs) start last leads some file first second stand one has got = elim (first_or_later run runs one has) [
    | inl is ↦ before_and_now run start leads.0 leads.1 file first second stand (subst (λ run. ClientGot run file second) (sym is) got)
    | inr later ↦ before_and_later runs leads.0 last leads.2 (there_by_run k again run start leads.0 leads.1 some) file first second
        (still_served run start leads.0 leads.1 some file first stand) one later got
  ]

  swapped : (first second : Bytes) → ∥ Agree first second ∥₁ → ∥ Agree second first ∥₁
  swapped first second agree = ∥∥₁_map agree (λ it. (sym it.0, sym it.1))

  -- a client of a run, and one of a later run
  now_and_later : (run : Run) (runs : List Run) (start last : X) (leads : LeadTo k (run ∷ runs) start last) (Was : History → Type 0)
      → StandIn k again Was start → (file first second : Bytes) → ClientGot run file first → (one : Run) → Contains runs one
      → ClientGot one file second
      → ∥ Agree first second ∥₁
  now_and_later run runs start last leads Was stand file first second got one has got' =
      let now = now_served run start leads.0 leads.1 Was stand file first got in
      before_and_later runs leads.0 last leads.2 now.0 file first second now.1 one has got'

  abbrev Any : History → Type 0
  Any h = Unit {0}

  two_agree : (runs : List Run) (start last : X) → LeadTo k runs start last → StandIn k again Any start
      → (one other : Run) → Contains runs one
      → Contains runs other → (file first second : Bytes) → ClientGot one file first → ClientGot other file second
      → ∥ Agree first second ∥₁
  two_agree [] start last leads stand one other (k, less, is) has' file first second got got' = absurd (omega (arith, less))
  two_agree (run ∷ runs) start last leads stand one other has has' file first second got got' =
      elim (first_or_later run runs one has) as (λ _. ∥ Agree first second ∥₁) [
        | inl is ↦
            let here = subst (λ run. ClientGot run file first) (sym is) got in
            elim (first_or_later run runs other has') as (λ _. ∥ Agree first second ∥₁) [
              | inl is' ↦ both_now run start leads.0 leads.1 Any stand file first second here
                  (subst (λ run. ClientGot run file second) (sym is') got')
              | inr later' ↦ now_and_later run runs start last leads Any stand file first second here other later' got'
            ]
        | inr later ↦ elim (first_or_later run runs other has') as (λ _. ∥ Agree first second ∥₁) [
          | inl is' ↦ swapped second first (now_and_later run runs start last leads Any stand file second first
              (subst (λ run. ClientGot run file second) (sym is') got') one later got)
          | inr later' ↦ two_agree runs leads.0 last leads.2
              (λ T holds. ∥∥₁_map (stand_by_run k again Any run start leads.0 stand leads.1 T holds) (λ then. (then.0, tt)))
              one other later later'
              file first second got got'
        ]
      ]

  pub agree_through : (runs : List Run) (first last : X) → AgreeThrough k runs first last
  agree_through runs first last none leads one other has has' file bytes bytes' got got' =
      let agree = two_agree runs first last leads (λ T held. absurd (none (T, held))) one other has has' file bytes bytes' got got' in (
        ∥∥₁_elim agree (Coded-set (coded_list coded_ℕ) _ _) (λ it. it.0),
        ∥∥₁_elim agree (Coded-set coded_ℕ _ _) (λ it. it.1),
      )
