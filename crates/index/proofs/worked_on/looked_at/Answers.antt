use Rattle.index.proofs.worked_on.looked_at.Goals as goal

pub returns-clause-settled : goal.returns-clause-settled
returns-clause-settled g c = λ db is_open may. g.met.S.Store.settled c.args.conn.store db is_open may
