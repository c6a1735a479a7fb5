use Rattle.minima.specs.Boards.{HangTo}
use Rattle.minima.proofs.subtrees.BoardMut+M+M+Value.fill_hang.Given as goal

abbrev pub invariant-loop-p : goal.invariant-loop-p
invariant-loop-p g l = HangTo g.M.Measure.meaning l.s l.p l.initial.self l.self
