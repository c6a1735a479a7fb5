use Rattle.std.proofs.Common.{length, ap, ◌∙◌}
use Rattle.jobs.specs.declared.job.Job.{Job}
use Rattle.jobs.specs.Jobs.{stops_of}
use Rattle.turns.proofs.Stands.{looked}
use Rattle.turns.proofs.order.Order.look.Goals as goal

pub returns : goal.returns
returns g c = let o = c.waiting.ensures in let e = c.entries.ensures in let all = c.find_head.ensures in
    looked g.M.Measure.meaning g.met.M.Measure.lawful.laws c.args.self.now.job.now c.args.self.now.n c.args.self.now.k c.args.cells.now
    c.requires
    c.entries.result.base c.entries.result.m c.entries.result.k (e.0 ∙ o.2) (e.1 ∙ ap (λ (j : Job). length (stops_of j)) o.1) (e.2 ∙ o.3) c.find_head.result
    record { some = all.some; ready = all.ready; plan = all.plan }
