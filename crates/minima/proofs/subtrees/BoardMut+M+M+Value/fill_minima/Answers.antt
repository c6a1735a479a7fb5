use Rattle.std.proofs.Common.{refl, arith}
use Rattle.minima.proofs.Rows.{fits, holds_stays, minimal_is, least_is}
use Rattle.minima.proofs.Filling.{minima_more}
use Rattle.minima.proofs.subtrees.BoardMut+M+M+Value.fill_minima.Goals as goal

pub loop-s-preserved : goal.loop-s-preserved
loop-s-preserved g c = minima_more _ _ g.met.M.Measure.lawful.laws _ _ _ _ _ (let more = c.loop-s-test.true in omega arith) c.loop-s.invariant c.fill_best.ensures c.fill_hang.ensures

pub returns-clause-fits : goal.returns-clause-fits
returns-clause-fits g c = let o = c.args.self.now in fits o.cells.now o.n o.job.now

pub returns-clause-tables : goal.returns-clause-tables
returns-clause-tables g c = λ τ h. let m = g.M.Measure.meaning in let laws = g.met.M.Measure.lawful.laws in let o = c.args.self.now in let new = c.loop-s.self.cells.now in
    let after = holds_stays m laws o.n o.job.now o.cells.now new τ c.loop-s.invariant.1 h in record {
      holds = after;
      hangs = λ s p z l k. refl;
      minimal = minimal_is m laws o.n o.job.now new τ after (λ s l. c.loop-s.invariant.2 s l (omega arith));
    }

pub returns-clause-least : goal.returns-clause-least
returns-clause-least g c = λ τ h. let m = g.M.Measure.meaning in let laws = g.met.M.Measure.lawful.laws in let o = c.args.self.now in
    least_is m laws o.n o.job.now c.loop-s.self.cells.now τ (holds_stays m laws o.n o.job.now o.cells.now c.loop-s.self.cells.now τ c.loop-s.invariant.1 h) (λ s l. c.loop-s.invariant.2 s l (omega arith))
