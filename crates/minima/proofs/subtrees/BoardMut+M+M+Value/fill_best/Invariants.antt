use Rattle.minima.specs.Boards.{BestTo}
use Rattle.minima.proofs.subtrees.BoardMut+M+M+Value.fill_best.Given as goal

abbrev pub invariant-loop-place : goal.invariant-loop-place
invariant-loop-place g l = BestTo g.M.Measure.meaning l.s l.place l.initial.self l.self
