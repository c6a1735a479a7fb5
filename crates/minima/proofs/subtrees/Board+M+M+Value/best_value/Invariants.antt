use Rattle.std.proofs.Common.{◌≡◌, cond, Some}
use Rattle.jobs.specs.Jobs.{stops_of}
use Rattle.jobs.specs.Trees.{child_in}
use Rattle.measures.specs.Optional.{both}
use Rattle.measures.specs.Scales.{optional, total}
use Rattle.tables.specs.Tables.{own_in, hang_in}
use Rattle.minima.proofs.subtrees.Board+M+M+Value.best_value.Given as goal

abbrev pub invariant-loop-c : goal.invariant-loop-c
invariant-loop-c g l = let m = g.M.Measure.meaning in let cells = l.self.cells.now in
    l.sum ≡ both m.joined (own_in cells l.self.n l.s l.q) (total (optional m) l.c (λ c. cond (child_in (stops_of l.self.job.now) l.s c) (hang_in cells l.self.n c l.q) (Some m.nought)))
