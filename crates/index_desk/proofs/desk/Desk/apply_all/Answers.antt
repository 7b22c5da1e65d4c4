use Rattle.index_desk.proofs.Words.{◌≡◌, ◌∙◌, arith, subst, sym, Store, HasOneBearer, HasOneBearer-tables_after}
use Rattle.std.proofs.Common.{length-append}
use Rattle.std.proofs.lemmas.Iterator.Adapters.{YieldsList-from_vec}
use Rattle.std.proofs.lemmas.Iterator.Consumers.{YieldsList-end}
use Rattle.std.proofs.lemmas.List.{map-id}
use Rattle.index_rules.specs.declared.answer.Answer.TheVariants as answer
use Rattle.index_rules.proofs.Counts.{NotFewer-more}
use Rattle.index_rules.proofs.RunLemmas.{Runs-push, HasFailed-push}
use Rattle.index_desk.proofs.CrashLemmas.{LastsAll-push, CallsLeave-push}
use Rattle.index_desk.proofs.TakeLemmas.{runs_keep, stores_push, takes_in_turn}
use Rattle.index_desk.proofs.desk.Desk.apply_all.Goals as goal

pub loop-call-preserved : goal.loop-call-preserved
loop-call-preserved g c =
    let tables = g.B.Books.tables in
    let before = c.loop-call.invariant in
    let applied = c.apply-answer.ensures in
    record {
      runs = λ honest one. let now_one = before.one (applied.keeps.honest honest) one in rw c.push_reserved.ensures.items
          (Runs-push (tables c.args.self.now) c.loop-call.yielded c.loop-call.answers.items (tables c.loop-call.self)
          c.in-Some.call c.apply-answer.result (tables c.apply-answer.new.self)
          (before.runs (applied.keeps.honest honest) one) ((applied.takes.taken honest).tables now_one).0
          ((applied.takes.taken honest).tables now_one).1);
      one = λ honest one. let now_one = before.one (applied.keeps.honest honest) one in
          let took = (applied.takes.taken honest).tables now_one in
          subst HasOneBearer (sym took.1)
          (HasOneBearer-tables_after (tables c.loop-call.self) now_one c.in-Some.call c.apply-answer.result took.0);
      told = rw c.push_reserved.ensures.items (simp length-append (omega (arith, before.told)));
      room = omega (arith, before.room, c.push_reserved.ensures.capacity);
      store = λ found. HasFailed-push c.loop-call.answers.items c.apply-answer.result (answer.Fault Store)
          _ _ _ before.counts applied.takes.settles.failures before.store applied.takes.settles.store
          (rw c.push_reserved.ensures.items at found);
      stores = rw c.push_reserved.ensures.items
          (stores_push c.loop-call.answers.items c.apply-answer.result _ _ _ before.stores applied.takes.settles.stores);
      counts = NotFewer-more _ _ _ before.counts applied.takes.settles.failures;
      lasts = λ clean. rw c.push_reserved.ensures.items
          (LastsAll-push c.loop-call.answers.items c.apply-answer.result _ _ _ (before.lasts (applied.keeps.clean clean))
          (applied.takes.settles.lasts clean));
      crash = λ honest clean one T left.
          let clean_then = applied.keeps.clean clean in
          rw c.push_reserved.ensures.items
          (CallsLeave-push (tables c.args.self.now) c.loop-call.yielded c.loop-call.answers.items (tables c.loop-call.self)
          c.in-Some.call c.apply-answer.result (g.B.Books.may_leave c.loop-call.self) _ _ T
          (λ then. before.runs then one) (before.crash honest clean_then one) (applied.takes.settles.lasts clean) applied.keeps.honest
          (applied.takes.settles.nothing_new T left)
          (λ then. (applied.takes.crash then clean T left).tables (before.one then one)));
      honest = λ honest. before.honest (applied.keeps.honest honest);
      clean = λ clean. before.clean (applied.keeps.clean clean);
    }

pub returns-clause-takes : goal.returns-clause-takes
returns-clause-takes g c =
    let given = c.into_iter-call-iterator.ensures.into_iter_gives in
    let seen = YieldsList-end (YieldsList-from_vec {s = c.into_iter-call-iterator.result} c.args.calls.items given.0
    (given.1 ∙ c.args.calls.ok.0)) c.loop-call.yielded c.loop-call.call-iterator c.loop-call.yielded_by c.next.result c.next.new.self
    c.in-None.is c.next.ensures.steps in
    let all : c.loop-call.yielded ≡ c.args.calls.items = sym (map-id _) ∙ seen.0 in
    let done = c.loop-call.invariant in
    takes_in_turn _ _ _ _ _ (rw all at done.runs) (rw all at done.crash) done.lasts (g.met.B.Books.settled _) done.store done.stores

pub returns-clause-keeps : goal.returns-clause-keeps
returns-clause-keeps g c =
    let done = c.loop-call.invariant in
    runs_keep _ _ _ c.loop-call.yielded c.loop-call.answers.items done.runs done.honest done.clean
