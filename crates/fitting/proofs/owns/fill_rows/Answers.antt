use Rattle.fitting.proofs.Owning.{board_row}
use Rattle.fitting.proofs.owns.fill_rows.Goals as goal

-- board_row named at the function was tried: the check goes past its limit
pub loop-s-preserved : goal.loop-s-preserved
loop-s-preserved g c = board_row _ _ _ _ _ c.loop-s.invariant c.fill_row.ensures
