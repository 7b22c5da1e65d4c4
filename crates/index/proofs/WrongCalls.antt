-- Wrong outcomes of calls, of lines and of replies do not meet the words of the contracts.
use Rattle.index.proofs.Words.{◌≡◌, ℕ, true, false, Result, Ok, Err, refl, ap, subst, sym, is_ok, LineEnd}
use Rattle.index_rules.specs.Runs.{Runs}
use Rattle.index_io.specs.declared.sink.Sink.{Ghosts as Outs}
use Rattle.index_io.specs.declared.source.Source.{Ghosts as Ins}
use Rattle.index_cli.specs.declared.end.LineEnd.TheVariants as line_end
use Rattle.index_rules.specs.declared.books.Books.{Ghosts}
use Rattle.index.specs.RefutedCalls.{RefutesEachCall, RefutesStreams}

pub refutes_calls : {S : Type 0} (g : Ghosts S) → RefutesEachCall g
refutes_calls g old new honest one = record {
  settles = λ answer other changed it. changed (it.unchanged honest other);
  verdict = λ call answer wrong it. wrong ((it.taken honest).tables one).0;
  next = λ call answer wrong it. wrong ((it.taken honest).tables one).1;
  in_turn = λ calls answers wrong it.
      let ran = (it.runs honest).tables one in
      wrong (subst (Runs (g.tables old) calls answers) (sym ran.shows) ran.is);
}

is_no_fault : (count : ℕ) → ¬ (Ok count ≡ Err line_end.WriteFault)
is_no_fault count is = let no : true ≡ false = ap (λ (it : Result ℕ LineEnd). is_ok it) is in cc no

no_cut : true ≡ false → ⊥
no_cut is = cc is

pub refutes_streams : {S K : Type 0} (ins : Ins S) (out : Outs K) → RefutesStreams ins out
refutes_streams ins out = record {
  writes = λ old new before after failed. record {
    lines = λ most count it. failed (it.writes (is_no_fault count));
    exchange = λ it. failed (it.writes refl);
    page = λ it. failed (it.writes refl);
    text = λ text it. failed it.kept;
  };
  texts = λ before after. record {
    text = λ text wrong it. wrong it.whole;
    reply = λ text wrong it. wrong it;
    cut = λ count it. no_cut (it.whole refl);
  };
}
