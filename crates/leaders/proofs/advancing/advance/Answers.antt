use Rattle.std.proofs.Common.{List, ap, ◌∙◌, subst, rules}
use Rattle.cells.specs.declared.cell.Cell.{Cell}
use Rattle.waiting.specs.declared.queue.Entries.{Entries}
use Rattle.leaders.specs.Leaders.{Promoted}
use Rattle.leaders.proofs.Onward.{advanced_to}
use Rattle.leaders.proofs.advancing.advance.Goals as goal

pub returns : goal.returns
returns g c = let o = c.args.waiting.now in let same = c.new-lent.ensures.same.0 in let again = c.promote.ensures.kept.0 ∙ c.new-lent.ensures.same.0 in let told = c.entries.ensures in
    let start = subst (λ (cells : List (Cell g.row.M.Denot g.row.M-Value.Denot)). Promoted cells c.promote.new.self.cells.now c.new-lent.result.entries.base c.new-lent.result.entries.m c.new-lent.result.entries.k c.args.w) c.new-lent.ensures.cells c.promote.ensures.promoted in
    advanced_to g.M.Measure.meaning g.met.M.Measure.lawful.laws c.args.waiting.now.job.now c.args.waiting.now.n c.args.waiting.now.base c.args.waiting.now.k c.args.rows c.args.w
    c.new-lent.result.entries.base c.new-lent.result.entries.m c.new-lent.result.entries.k c.promote.new.self.entries.base c.promote.new.self.entries.m c.promote.new.self.entries.k
    c.args.cells.now c.split_off.new.cells c.promote.new.self.cells.now c.promote-2.new.self.cells.now o.behind c.requires c.split_off.ensures
    (ap (λ (e : Entries). e.base) same ∙ told.0) (ap (λ (e : Entries). e.m) same ∙ told.1) (ap (λ (e : Entries). e.k) same ∙ told.2)
    (ap (λ (e : Entries). e.base) again ∙ told.0) (ap (λ (e : Entries). e.m) again ∙ told.1) (ap (λ (e : Entries). e.k) again ∙ told.2)
    c.promote.ensures.led start c.promote-2.ensures.led c.promote-2.ensures.promoted
    _ (search rules)
