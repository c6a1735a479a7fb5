use Rattle.std.proofs.Common.{refl, arith}
use Rattle.minima.proofs.Filling.{same_both}
use Rattle.fitting.proofs.Owning.{board_place}
use Rattle.fitting.proofs.owns.fill_row.Goals as goal

-- same_both and board_place named at the function were tried: the check goes past its limit
pub loop-q-preserved : goal.loop-q-preserved
loop-q-preserved g c = (
  same_both _ _ _ c.loop-q.invariant.0 c.set_own.ensures.same,
  λ k e. board_place _ _ _ _ _ _ _ _ _ _ e (omega arith) c.requires.1 c.board.ensures (c.loop-q.invariant.1 c.loop-q.q refl) c.own_value-value.ensures c.set_own.ensures.written c.set_own.ensures.same,
)
