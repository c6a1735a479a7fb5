use Rattle.std.proofs.Common.{arith}
use Rattle.minima.proofs.Filling.{hang_more}
use Rattle.minima.proofs.subtrees.BoardMut+M+M+Value.fill_hang.Goals as goal

pub loop-p-preserved : goal.loop-p-preserved
loop-p-preserved g c = hang_more _ _ g.met.M.Measure.lawful.laws _ _ _ _ (omega arith) _ c.board.ensures _ c.loop-p.invariant c.hang_value-value.ensures c.set_hang.ensures.written c.set_hang.ensures.same
