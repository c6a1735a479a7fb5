use Rattle.measures.specs.Scales.{optional, IsTotal}
use Rattle.measures.proofs.optional.total.Given as goal

abbrev pub invariant-loop-s : goal.invariant-loop-s
invariant-loop-s g l = IsTotal (optional g.M.Measure.meaning) l.s (goal.F-post g l.value) l.sum
