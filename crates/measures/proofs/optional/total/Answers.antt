use Rattle.measures.proofs.Totals.{given_more}
use Rattle.measures.proofs.optional.total.Goals as goal

pub loop-s-preserved : goal.loop-s-preserved
loop-s-preserved g c = given_more _ _ _ _ _ _ c.loop-s.invariant c.value.ensures c.join_options-sum.ensures
