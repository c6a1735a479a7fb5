use Rattle.std.proofs.Common.{◌≡◌, ℕ, ◌*◌}
use Rattle.minima.specs.Boards.{SameBoard}
use Rattle.fitting.specs.Owns.{OwnedBoard}
use Rattle.fitting.proofs.owns.fill_row.Given as goal

abbrev pub invariant-loop-q : goal.invariant-loop-q
invariant-loop-q g l = let o = l.initial.board in SameBoard o l.board × ((k : ℕ) → k ≡ l.q → OwnedBoard g.M.Measure.meaning (l.s * o.n) k o l.board)
