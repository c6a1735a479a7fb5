use Rattle.std.proofs.Common.{ℕ, ◌<◌, ◌≤◌, length}
use Rattle.jobs.specs.Jobs.{stops_of}
use Rattle.tables.specs.Tables.{Stays}
use Rattle.minima.specs.Tables.{RowIn}
use Rattle.minima.specs.Boards.{SameBoard}
use Rattle.minima.proofs.subtrees.BoardMut+M+M+Value.fill_minima.Given as goal

abbrev pub invariant-loop-s : goal.invariant-loop-s
invariant-loop-s g l = let o = l.initial.self in SameBoard o l.self × Stays o.cells.now l.self.cells.now
    × ((t : ℕ) → t < length (stops_of o.job.now) → l.s ≤ t → RowIn g.M.Measure.meaning l.self.cells.now o.n (stops_of o.job.now) t)
