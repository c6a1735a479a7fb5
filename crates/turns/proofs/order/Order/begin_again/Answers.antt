use Rattle.turns.proofs.Stands.{waits}
use Rattle.turns.proofs.order.Order.begin_again.Goals as goal

pub returns : goal.returns
returns g c = let told = c.waiting.ensures in let all = c.let_all_wait.ensures in
    waits g.M.Measure.meaning c.args.self.now.n c.waiting.result.n c.args.self.now.job.now c.waiting.result.job.now c.waiting.result.base c.args.self.now.k c.waiting.result.k c.args.cells.now c.let_all_wait.new.cells
    told.0 told.1 told.2 told.3 record { kept = all.kept; used = record { queue = all.queue; heads = all.heads }; tables = all.tables; stands = all.stands }
