use Rattle.index_volume_books.proofs.Words.{ap, sym, subst, rules, Fits, over}
use Rattle.index_volume_books.proofs.books.VolumeBooksBooks.view.Goals as goal

pub returns-clause-looks : goal.returns-clause-looks
returns-clause-looks g c =
    let it = c.view-found.ensures.looks in
    record {
      call = record {
        honest = λ h. (it.call.honest h.0, h.1);
        clean = λ h. (it.call.clean h.0, h.1);
        failures = search rules;
        stores = search rules;
      };
      unchanged = λ h. ap (over (g.D.Disk.seen c.args.self.now.disk)) (it.unchanged h.0);
      lasts = λ ok h clean. (it.lasts ok h.0 clean.0, h.1);
      crash = λ T left. (left.0, left.1, left.2, it.crash left.1 left.3, left.4, left.5);
    }

pub invariant_of-self : goal.invariant_of-self
invariant_of-self g c =
    let now = c.args.self.now in
    let it = c.view-found.ensures.looks in
    record {
      placed = λ honest. subst (Fits now.end) (sym (it.unchanged honest)) (now.placed (it.call.honest honest));
      left = λ T may. now.left T (it.crash T may);
      kept = now.kept;
    }
