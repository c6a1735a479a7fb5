use Rattle.std.proofs.Common.{not}
use Rattle.std.specs.List.{IsFirstBest}
use Rattle.least.proofs.least_of.Given as goal

abbrev pub invariant-loop-i : goal.invariant-loop-i
invariant-loop-i g l = IsFirstBest (λ x y. not (g.T.TotalOrder.precedes y x)) l.xs l.i l.best
