use Rattle.std.proofs.Common.{ap, arith}
use Rattle.cells.specs.declared.cell.Entry.{Entry}
use Rattle.waiting.proofs.Starting.{cleared_more}
use Rattle.waiting.proofs.opening.clear_all.Goals as goal

pub loop-cell-preserved : goal.loop-cell-preserved
loop-cell-preserved g c = let is = c.without_plan-cell.ensures in cleared_more _ _ _ _ (omega arith) (ap (λ (e : Entry g.row.V.Denot). e.score) is, ap (λ (e : Entry g.row.V.Denot). e.depth) is) c.loop-cell.invariant
