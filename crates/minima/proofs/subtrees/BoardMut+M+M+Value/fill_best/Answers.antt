use Rattle.std.proofs.Common.{arith}
use Rattle.minima.proofs.Filling.{best_more}
use Rattle.minima.proofs.subtrees.BoardMut+M+M+Value.fill_best.Goals as goal

pub loop-place-preserved : goal.loop-place-preserved
loop-place-preserved g c = best_more _ _ g.met.M.Measure.lawful.laws _ _ _ _ (omega arith) _ c.board.ensures _ c.loop-place.invariant c.best_value-value.ensures c.set_best.ensures.written c.set_best.ensures.same
