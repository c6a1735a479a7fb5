use Rattle.std.proofs.Common.{refl, arith}
use Rattle.bounds.proofs.Bounding.{below_adds, self_adds, behind_adds, rest_front, rest_more}
use Rattle.bounds.proofs.prefixes.Prefix+M+M+Value.rest.Goals as goal

pub loop-s-init : goal.loop-s-init
loop-s-init g c = let i = c.args.self.now.i in rest_front g.M.Measure.meaning g.met.M.Measure.lawful.laws _ refl i _ _ _ c.costs-sum.ensures (λ s l. below_adds s i _ _ _ l) (self_adds i _ _)

pub loop-s-preserved : goal.loop-s-preserved
loop-s-preserved g c = rest_more g.M.Measure.meaning g.met.M.Measure.lawful.laws _ refl c.loop-s.s _ c.loop-s.sum _ _ c.loop-s.invariant c.with_behind-sum.ensures (behind_adds c.loop-s.s c.args.self.now.i _ _ (omega arith))
