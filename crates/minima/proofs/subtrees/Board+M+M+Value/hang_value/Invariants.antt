use Rattle.std.proofs.Common.{◌≡◌, ℕ}
use Rattle.measures.specs.Optional.{both}
use Rattle.jobs.specs.Jobs.{stops_of}
use Rattle.measures.specs.Scales.{optional}
use Rattle.trees.specs.Minima.{IsLeast}
use Rattle.tables.specs.Tables.{best_in}
use Rattle.minima.specs.Tables.{link_in}
use Rattle.minima.proofs.subtrees.Board+M+M+Value.hang_value.Given as goal

abbrev pub invariant-loop-q : goal.invariant-loop-q
invariant-loop-q g l = let m = g.M.Measure.meaning in
    (k : ℕ) → k ≡ l.q → IsLeast (optional m) k (λ q. both m.joined (link_in l.self.cells.now l.self.n (stops_of l.self.job.now) l.s l.p q) (best_in l.self.cells.now l.self.n l.s q)) l.least
