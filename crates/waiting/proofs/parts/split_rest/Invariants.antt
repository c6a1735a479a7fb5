use Rattle.std.proofs.Common.{◌≡◌, ◌+◌, ◌≤◌, length}
use Rattle.std.specs.Iterator.Adapters.{enumerate_source, enumerate_count}
use Rattle.jobs.specs.Jobs.{stops_of}
use Rattle.minima.specs.Boards.{SameBoard}
use Rattle.waiting.proofs.Splitting.{SplitTo}
use Rattle.waiting.proofs.parts.split_rest.Given as goal

abbrev pub invariant-loop-u : goal.invariant-loop-u
invariant-loop-u g l = let b = l.initial.board in (goal.iterator-loop-u g).can_next l.u-iterator × (goal.iterator-loop-u g).is_finite l.u-iterator
    × ((enumerate_source l.u-iterator).start ≡ l.old.depth + 1 + enumerate_count l.u-iterator)
    × ((enumerate_source l.u-iterator).end ≡ length (stops_of b.job.now))
    × (l.old.depth + 1 + enumerate_count l.u-iterator ≤ length (stops_of b.job.now))
    × SameBoard b l.board
    × SplitTo g.M.Measure.meaning b.cells.now b.n (stops_of b.job.now) l.old.places l.old.depth l.at (enumerate_count l.u-iterator) l.board.cells.now
