use Rattle.std.proofs.Common.{length, ◌≤◌}
use Rattle.jobs.specs.Jobs.{stops_of}
use Rattle.turns.specs.Standing.{behind_tables}
use Rattle.leaders.specs.Leaders.{Rows}
use Rattle.plan_cases.proofs.PlansMut+M+M+Value.give.Given as goal

abbrev pub invariant-loop-rows : goal.invariant-loop-rows
invariant-loop-rows g l = let o = l.self.order in let m = length (stops_of o.job.now) in (l.most ≤ o.k) × Rows l.self.cells.now (behind_tables o.n m) o.n m o.k l.rows
