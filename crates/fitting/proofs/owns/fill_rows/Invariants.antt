use Rattle.std.proofs.Common.{◌*◌}
use Rattle.fitting.specs.Owns.{OwnedBoard}
use Rattle.fitting.proofs.owns.fill_rows.Given as goal

abbrev pub invariant-loop-s : goal.invariant-loop-s
invariant-loop-s g l = let o = l.initial.board in OwnedBoard g.M.Measure.meaning 0 (l.s * o.n) o l.board
