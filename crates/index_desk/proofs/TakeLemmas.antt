-- What is known of a call that was decided and settled, and of calls in a row.
use Rattle.index_desk.proofs.Words.{◌≡◌, ◌∙◌, ◌⊎◌, ℕ, inl, inr, refl, ap, subst, sym, List, [], ◌∷◌, ◌++◌, Contains, Result, Ok, HasFailed}
use Rattle.index_desk.proofs.Words.{Answer, Accepted, Already, Refused, Fault, Store, Ghosts, Call, HasOneBearer, Runs, tables_after}
use Rattle.index_desk.proofs.Words.{IsSound, Tables, CountsStoreFault, CarriesOn-answer, HasOneBearer-tables_after, AnswerLeavesTables}
use Rattle.index_desk.proofs.Words.{CallsLeave, HasCall, LastsAll, by_tables, KeepsInvariants, Takes}
use Rattle.std.proofs.lemmas.List.Elements.{Contains-append_left, Contains-push}
use Rattle.index_io.specs.Counts.{FailsAtMostOnce}
use Rattle.index_rules.specs.declared.answer.Fault.TheVariants.{OutOfMemory}
use Rattle.index_rules.specs.declared.change.Change.{Change}
use Rattle.index_rules.specs.declared.decision.Decision.{Decision}
use Rattle.index_rules.specs.declared.decision.Stop.{Stop}
use Rattle.index_rules.specs.Decided.{Decides}
use Rattle.index_rules.specs.Effect.{effect, means}
use Rattle.index_rules.specs.Facts.{facts_in}
use Rattle.index_rules.specs.Runs.{Answers, tables_after_change}
use Rattle.index_rules.specs.StoreFaults.{answers_store_fault}
use Rattle.index_rules.specs.Verdict.{Verdict, verdict_now}
use Rattle.index_rules.proofs.StandsOn.{CarriesOnBy-Runs, sound_when_legal}
use Rattle.index_rules.proofs.OneBearer.{HasOneBearer-Runs}
use Rattle.index_rules.proofs.SoundLemmas.{IsSound-Runs, IsSound-tables_after}
use Rattle.index_desk.specs.Looks.{LooksAt}
use Rattle.index_desk.specs.Takes.{ByTables, CrashByTables, Settles, SettlesBy, TakesInTurn}
use Rattle.index_desk.proofs.CrashLemmas.{Lasts-earlier, LastsAll-weaker, Leaves-weaker, CallsLeave-by_history}

-- ---- one call

-- by the tables alone it is known what a history says
module _ {S : Type 0} (g : Ghosts S) (old new : S) (call : Call) (answer : Answer)
    (verdict : ByTables g old new (λ T T'. Answers (verdict_now T call) answer))
    (next : ByTables g old new (λ T T'. T' ≡ tables_after T call answer))
    (crash : CrashByTables g old new (λ T. AnswerLeavesTables (g.may_leave old) (HasCall by_tables T call) answer))
    (settles : Settles g old new answer) where
  takes_by_tables : Takes g old new call answer
  takes_by_tables = record {
    taken = λ honest. record {
      tables = λ one. (verdict honest one, next honest one);
      history = λ h legal stands.
          let on = CarriesOn-answer h legal (g.tables old) stands call answer (g.tables new) (verdict honest) (next honest) in
          (on.verdict, (on.legal, on.stands));
    };
    crash = λ honest clean T left. record {
      tables = λ one. crash honest clean one T left;
      history = λ h legal stands.
          Leaves-weaker _ _ _ _ (λ T' was. was)
          (λ T' after.
          let on = CarriesOn-answer h legal (g.tables old) stands call Accepted T' (λ _. after.0) (λ _. after.1) in
          (on.verdict, (on.legal, on.stands)))
          answer T
          (crash honest clean (sound_when_legal h legal (g.tables old) stands).one_bearer T left);
    };
    settles = settles;
  }

-- a look decided on it, and the decision was settled
module _ {S : Type 0} (g : Ghosts S) (old now new : S) (call : Call) (answer : Answer) (decision : Result Decision Stop)
    (looked : LooksAt g old now (Ok decision) (λ T decision. HasOneBearer T
    → Decides decision (verdict_now T call) (effect call.at call.request (facts_in T call))))
    (settled : (verdict : Verdict) (change : Change) → Decides decision verdict change → SettlesBy g now new verdict change answer)
    (settles : Settles g now new answer) where
  abbrev change : Change
  change = effect call.at call.request (facts_in (g.tables old) call)

  settled_now : g.IsHonest now → HasOneBearer (g.tables old) → SettlesBy g now new (verdict_now (g.tables old) call) change answer
  settled_now honest one = settled _ _ (looked.found honest one)

  pub takes_settled : Takes g old new call answer
  takes_settled =
      let look = looked.look in
      takes_by_tables g old new call answer
      (λ honest one. (settled_now (settles.honest honest) one).told honest)
      (λ honest one.
      let then = settles.honest honest in
      subst (λ T. g.tables new ≡ tables_after_change T change answer) (look.unchanged then) ((settled_now then one).next honest))
      (λ honest clean one T left.
      let clean_then = settles.clean clean in
      let then = look.lasts honest clean_then in
      Leaves-weaker _ _ _ _ look.crash
      (λ T' after. (after.0, after.1 ∙ ap (means change) (look.unchanged then)))
      answer T
      ((settled_now then one).crash then T left))
      (record {
        unchanged = λ honest other. settles.unchanged honest other ∙ look.unchanged (settles.honest honest);
        lasts = λ clean. Lasts-earlier answer _ _ _ (λ honest. look.lasts honest (settles.clean clean)) (settles.lasts clean);
        nothing_new = λ T left. elim (settles.nothing_new T left)
            [ inl was ↦ inl (look.crash T was) | inr honest ↦ inr (look.honest honest) ];
        store = λ is. subst (λ n. HasFailed n (g.failures new)) look.kept (settles.store is);
        failures = subst (λ n. FailsAtMostOnce n (g.failures new)) look.kept settles.failures;
        kept = λ none. settles.kept none ∙ look.kept;
        stores = subst (λ n. CountsStoreFault n (g.stores new) (answers_store_fault answer)) look.stores settles.stores;
        honest = λ honest. look.honest (settles.honest honest);
        clean = λ clean. look.clean (settles.clean clean);
      })

pub takes_keep : {S : Type 0} (g : Ghosts S) (old new : S) (call : Call) (answer : Answer) → Takes g old new call answer
    → KeepsInvariants g old new
takes_keep g old new call answer took = record {
  one_bearer = λ honest one.
      let it = (took.taken honest).tables one in
      subst HasOneBearer (sym it.1) (HasOneBearer-tables_after (g.tables old) one call answer it.0);
  sound = λ honest sound.
      let it = (took.taken honest).tables sound.one_bearer in
      subst IsSound (sym it.1) (IsSound-tables_after (g.tables old) sound call answer it.0);
  honest = took.settles.honest;
  clean = took.settles.clean;
}

-- ---- calls in a row

-- one more answer: no fault of the store was told to the books, or one is among the answers
pub stores_push : (answers : List Answer) (answer : Answer) (first before after : ℕ) → (before ≡ first) ⊎ Contains answers (Fault Store)
    → CountsStoreFault before after (answers_store_fault answer) → (after ≡ first) ⊎ Contains (answers ++ answer ∷ []) (Fault Store)
stores_push answers answer first before after (inr there) next = inr (Contains-append_left answers _ _ there)
stores_push answers (Fault Store) first before after (inl none) next = inr (Contains-push answers (Fault Store))
stores_push answers (Fault OutOfMemory) first before after (inl none) next = inl (next ∙ none)
stores_push answers Accepted first before after (inl none) next = inl (next ∙ none)
stores_push answers Already first before after (inl none) next = inl (next ∙ none)
stores_push answers (Refused refusal) first before after (inl none) next = inl (next ∙ none)

module _ {S : Type 0} (g : Ghosts S) (old new : S) (calls : List Call) (answers : List Answer)
    (runs : ByTables g old new (λ T. Runs T calls answers)) where
  pub takes_in_turn : CrashByTables g old new (λ T. CallsLeave by_tables T calls answers)
      → (g.IsClean new → LastsAll answers (g.IsHonest old) (g.IsHonest new))
      → (g.IsHonest new → (T : Tables) → g.may_leave new T → T ≡ g.tables new)
      → (Contains answers (Fault Store) → HasFailed (g.failures old) (g.failures new))
      → (g.stores new ≡ g.stores old) ⊎ Contains answers (Fault Store)
      → TakesInTurn g old new calls answers
  takes_in_turn crash lasts settled store stores = record {
    runs = λ honest. record {
      tables = λ one. record { later = g.tables new; is = runs honest one; shows = refl };
      history = λ h legal stands.
          let on = CarriesOnBy-Runs h legal _ stands calls answers _ (runs honest (sound_when_legal h legal _ stands).one_bearer) in
          record { later = on.after; is = on.extends; shows = (on.legal, on.stands) };
    };
    crash = λ honest clean T left. record {
      tables = λ one. crash honest clean one T left;
      history = λ h legal stands.
          CallsLeave-by_history h legal _ stands calls answers T
          (crash honest clean (sound_when_legal h legal _ stands).one_bearer T left);
    };
    lasts = lasts;
    alone = λ clean. LastsAll-weaker answers _ _ _ settled (lasts clean);
    store = store;
    stores = stores;
  }

  pub runs_keep : (g.IsHonest new → g.IsHonest old) → (g.IsClean new → g.IsClean old) → KeepsInvariants g old new
  runs_keep honest clean = record {
    one_bearer = λ honest one. HasOneBearer-Runs _ one calls answers _ (runs honest one);
    sound = λ honest sound. IsSound-Runs _ sound calls answers _ (runs honest sound.one_bearer);
    honest = honest;
    clean = clean;
  }
