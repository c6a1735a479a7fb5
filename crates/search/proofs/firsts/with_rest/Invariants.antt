use Rattle.std.proofs.Common.{ℕ, ◌+◌, ◌<◌, Option}
use Rattle.sets.specs.Placements.{Same}
use Rattle.cells.specs.Cells.{places_of}
use Rattle.search.specs.Places.{FoundTo}
use Rattle.search.proofs.firsts.with_rest.Given as goal

abbrev pub invariant-loop-i : goal.invariant-loop-i
invariant-loop-i g l = let m = g.M.Measure.meaning in let V = g.row.M-Value.Denot in
    ((t : ℕ) → t < l.i → places_of l.places t < l.board.n)
    × Same (l.depth + 1) (places_of l.fn.from) (places_of l.places)
    × ((excluded : ℕ) (v : Option V) → FoundTo m l.board l.depth excluded v (l.depth + 1) l.fn.from → FoundTo m l.board l.depth excluded v l.i l.places)
