use Rattle.index_tables.proofs.Words.{◌≡◌, ◌∙◌, ap, rules, is_ok, subst, next_count, CountsStoreFault, fails_by_store, IsIndexConnection}
use Rattle.index_tables.proofs.Words.{MakesChange, IsInvisibleIfShut, BooksState, HasVersion}
use Rattle.index_rules.specs.Effect.{means}
use Rattle.index_tables.proofs.WriteLemmas.{honest_old, index_after, meta_kept, told_ok, write_alone, write_crash, write_keeps_version}
use Rattle.index_tables.proofs.WriteLemmas.{write_lasts, write_records}
use Rattle.index_tables.proofs.books.SqlBooksBooks.write.Goals as goal

pub invariant_of-self-inside : goal.invariant_of-self-inside
invariant_of-self-inside g c =
    let old = c.args.self.now.conn in
    let new = c.make_change-made.new.conn in
    let index : IsIndexConnection g.S.Store old = search rules in
    let kept : HasVersion g.V.Version.number g.S.Store old =
    subst (λ (b : BooksState _). HasVersion g.V.Version.number g.S.Store b.conn) c.self.view_is c.self.invariant in
    let makes : MakesChange g.S.Store (means c.args.change) old new c.make_change-made.result = search rules in
    index_after g.V.Version.number g.S.Store (means c.args.change) old new c.make_change-made.result index makes

pub invariant_of-self : goal.invariant_of-self
invariant_of-self g c =
    let old = c.args.self.now.conn in
    let new = c.make_change-made.new.conn in
    let index : IsIndexConnection g.S.Store old = search rules in
    let kept : HasVersion g.V.Version.number g.S.Store old =
    subst (λ (b : BooksState _). HasVersion g.V.Version.number g.S.Store b.conn) c.self.view_is c.self.invariant in
    let makes : MakesChange g.S.Store (means c.args.change) old new c.make_change-made.result = search rules in
    write_keeps_version g.V.Version.number g.S.Store (means c.args.change) old new c.make_change-made.result index makes kept

pub returns-clause-writes : goal.returns-clause-writes
returns-clause-writes g c =
    let old = c.args.self.now.conn in
    let new = c.make_change-made.new.conn in
    let made = c.make_change-made.result in
    let told = c.into_fault-told.result in
    let index : IsIndexConnection g.S.Store old = search rules in
    let kept : HasVersion g.V.Version.number g.S.Store old =
    subst (λ (b : BooksState _). HasVersion g.V.Version.number g.S.Store b.conn) c.self.view_is c.self.invariant in
    let makes : MakesChange g.S.Store (means c.args.change) old new made = search rules in
    let shut : IsInvisibleIfShut g.S.Store old new =
    subst (λ held. IsInvisibleIfShut g.S.Store held new)
    ((λ i. (c.self-inside.view_is i).conn) ∙ ap (λ (b : BooksState _). b.conn) c.self.view_is) c.make_change-made.ensures.shut in
    let after : BooksState _ = record {
      conn = new;
      failures = c.next_count-self-inside-inside.result;
      stores = c.next_count-self-inside-inside-2.result;
    } in
    let count : after.failures ≡ next_count c.args.self.now.failures (is_ok told) = search rules in
    let stores : CountsStoreFault c.args.self.now.stores after.stores (fails_by_store told) = search rules in
    record {
      written = search rules;
      unchanged = search rules;
      lasts = told_ok _ told made c.into_fault-told.ensures.ok
          (write_lasts g.V.Version.number g.S.Store (means c.args.change) old new made index makes kept);
      crash = write_crash g.V.Version.number g.S.Store (means c.args.change) old new made index makes kept shut;
      alone = λ honest. told_ok _ told made c.into_fault-told.ensures.ok
          (write_alone g.V.Version.number g.S.Store (means c.args.change) old new made index makes kept
          (g.met.S.Store.settled new.store) honest);
      call = record {
        honest = honest_old g.V.Version.number g.S.Store (means c.args.change) old new made index makes kept;
        clean = makes.was_clean;
        failures = count;
        stores = stores;
      };
    }

pub returns-clause-records : goal.returns-clause-records
returns-clause-records g c =
    let old = c.args.self.now.conn in
    let new = c.make_change-made.new.conn in
    let index : IsIndexConnection g.S.Store old = search rules in
    let kept : HasVersion g.V.Version.number g.S.Store old =
    subst (λ (b : BooksState _). HasVersion g.V.Version.number g.S.Store b.conn) c.self.view_is c.self.invariant in
    let makes : MakesChange g.S.Store (means c.args.change) old new c.make_change-made.result = search rules in
    write_records g.V.Version.number g.S.Store (means c.args.change) old new c.make_change-made.result index makes kept

pub returns-clause-meta : goal.returns-clause-meta
returns-clause-meta g c =
    let old = c.args.self.now.conn in
    let new = c.make_change-made.new.conn in
    let index : IsIndexConnection g.S.Store old = search rules in
    let kept : HasVersion g.V.Version.number g.S.Store old =
    subst (λ (b : BooksState _). HasVersion g.V.Version.number g.S.Store b.conn) c.self.view_is c.self.invariant in
    let makes : MakesChange g.S.Store (means c.args.change) old new c.make_change-made.result = search rules in
    let after : BooksState _ = record {
      conn = new;
      failures = c.next_count-self-inside-inside.result;
      stores = c.next_count-self-inside-inside-2.result;
    } in
    meta_kept g.V.Version.number g.S.Store (means c.args.change) c.args.self.now after c.make_change-made.result index makes
