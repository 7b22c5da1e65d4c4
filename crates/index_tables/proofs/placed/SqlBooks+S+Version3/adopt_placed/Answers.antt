use Rattle.index_tables.proofs.Words.{rules, inl, inr, refl, subst, NotAnIndex, OutOfMemory}
use Rattle.index_tables.specs.Placed.{IsNotPlaced, TakesPlaced}
use Rattle.index_tables.proofs.OpenedLemmas.{refused_at_once}
use Rattle.index_tables.proofs.PlacedLemmas.{refused_unlike}
use Rattle.index_tables.proofs.placed.SqlBooks+S+Version3.adopt_placed.Goals as goal

pub returns-then-not-has_meta : goal.returns-then-not-has_meta
returns-then-not-has_meta g c =
    let conn = c.expose_invariants-conn.result in
    record {
      found = tt;
      meta = tt;
      opened = tt;
      was_open = tt;
      refused = subst (λ held. IsNotPlaced g.S.Store held (record { why = NotAnIndex; conn = conn })) c.expose_invariants-conn.ensures.same
          (record {
            why = inl refl;
            left = refused_at_once g.S.Store conn NotAnIndex (search rules)
                (λ _. refused_unlike g.S.Store conn conn NotAnIndex (search rules));
            nothing_new = λ clean db may. may;
          });
    }

pub returns-in-Ok-true : goal.returns-in-Ok-true
returns-in-Ok-true g c = subst (λ held. TakesPlaced g.S.Store held c.take_placed.result)
    c.expose_invariants-conn.ensures.same c.take_placed.ensures

pub returns-in-Ok-false : goal.returns-in-Ok-false
returns-in-Ok-false g c =
    record {
      found = tt;
      meta = tt;
      opened = tt;
      was_open = tt;
      refused = subst (λ held. IsNotPlaced g.S.Store held c.refuse_unlike.result)
          c.expose_invariants-conn.ensures.same c.refuse_unlike.ensures;
    }

pub returns-in-Err : goal.returns-in-Err
returns-in-Err g c =
    let conn = c.expose_invariants-conn.result in
    record {
      found = tt;
      meta = tt;
      opened = tt;
      was_open = tt;
      refused = subst (λ held. IsNotPlaced g.S.Store held (record { why = OutOfMemory; conn = conn })) c.expose_invariants-conn.ensures.same
          (record {
            why = inr (inr (inl refl));
            left = refused_at_once g.S.Store conn OutOfMemory (search rules) (λ _ o placed. inl refl);
            nothing_new = λ clean db may. may;
          });
    }
