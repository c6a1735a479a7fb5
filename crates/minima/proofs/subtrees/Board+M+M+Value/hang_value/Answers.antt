use Rattle.std.proofs.Common.{cond, Option, sym, refl, ap, ◌∙◌, subst}
use Rattle.measures.specs.Optional.{both}
use Rattle.measures.specs.Scales.{optional, at_most}
use Rattle.trees.specs.Minima.{IsLeast}
use Rattle.jobs.specs.Jobs.{stops_of}
use Rattle.tables.specs.Tables.{best_in}
use Rattle.minima.specs.Tables.{link_in}
use Rattle.trees.proofs.Lift.{lifted}
use Rattle.trees.proofs.Bounds.{least_more}
use Rattle.minima.proofs.Rows.{least_at}
use Rattle.minima.proofs.subtrees.Board+M+M+Value.hang_value.Goals as goal

pub loop-q-preserved : goal.loop-q-preserved
loop-q-preserved g c k e' = let m = g.M.Measure.meaning in let V = g.row.M-Value.Denot in
    subst (λ (v : Option V). IsLeast (optional m) k (λ q. both m.joined (link_in c.args.self.now.cells.now c.args.self.now.n (stops_of c.args.self.now.job.now) c.args.s c.args.p q) (best_in c.args.self.now.cells.now c.args.self.now.n c.args.s q)) v) (sym (c.lesser-least.ensures ∙ ap (λ v. cond (at_most m.before c.loop-q.least v) c.loop-q.least v) c.through.ensures))
    (least_at e' (least_more (optional m) (lifted m g.met.M.Measure.lawful.laws) c.loop-q.q _ c.loop-q.least (c.loop-q.invariant c.loop-q.q refl)))
