use Rattle.turns.proofs.Stands.{gave}
use Rattle.turns.proofs.order.Order.give.Goals as goal

pub returns : goal.returns
returns g c = let told = c.waiting.ensures in
    gave g.M.Measure.meaning g.met.M.Measure.lawful.laws c.args.self.now.n c.waiting.result.n c.args.self.now.job.now c.waiting.result.job.now c.waiting.result.base c.args.self.now.k c.waiting.result.k c.args.rows c.args.w
    c.args.cells.now c.advance.new.cells told.0 told.1 told.2 told.3 c.requires c.advance.ensures
