use Rattle.std.proofs.Common.{length}
use Rattle.jobs.specs.Jobs.{stops_of}
use Rattle.leaders.specs.Leaders.{Rows}
use Rattle.search_tests.proofs.enumerate.Given as goal

abbrev pub invariant-loop-given : goal.invariant-loop-given
invariant-loop-given g l = Rows l.cells 18 3 (length (stops_of l.job)) 28 l.given
