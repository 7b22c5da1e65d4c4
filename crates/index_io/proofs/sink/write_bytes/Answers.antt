use Rattle.std.proofs.Common.{arith, refl, ◌∙◌, length-drop}
use Rattle.std.proofs.lemmas.List.{take_rest}
use Rattle.index_io.proofs.Sent.{Appends-take_more}
use Rattle.index_io.proofs.sink.write_bytes.Goals as goal

pub loop-written-preserved : goal.loop-written-preserved
loop-written-preserved g c = record {
  within = omega (arith, rw (take_rest, length-drop) at c.in-Ok.ensures.front.within);
  sent = Appends-take_more _ _ _ _ _ _ _ refl c.loop-written.invariant.sent (rw take_rest at c.in-Ok.ensures.front.sent);
  kept = c.in-Ok.ensures.failures ∙ c.loop-written.invariant.kept;
}
