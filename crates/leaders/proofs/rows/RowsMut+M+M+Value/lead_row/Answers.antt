use Rattle.std.proofs.Common.{◌≡◌, ℕ, ◌+◌, true, ◌⊎◌, subst, arith}
use Rattle.cells.specs.Cells.{entry_before}
use Rattle.tables.specs.Tables.{entry_in}
use Rattle.waiting.specs.Queues.{row_start}
use Rattle.leaders.specs.Leaders.{Exchanged}
use Rattle.leaders.proofs.Heads.{led_now, promoted_now}
use Rattle.leaders.proofs.rows.RowsMut+M+M+Value.lead_row.Goals as goal

pub returns-clause-led : goal.returns-clause-led
returns-clause-led g c = let is = c.behind.ensures.0 in let at : c.behind.result + c.args.u ≡ c.args.self.now.entries.base + (row_start c.args.self.now.entries.m c.args.self.now.entries.k c.args.row + c.args.u) = omega arith in
    let leads = subst (λ (i : ℕ). entry_before g.M.Measure.meaning.before (entry_in c.lead.new.cells (c.args.self.now.entries.base + c.args.row)) (entry_in c.lead.new.cells i) ≡ true) at c.lead.ensures.led in
    let moved = subst (λ (i : ℕ). (c.lead.new.cells ≡ c.args.self.now.cells.now) ⊎ Exchanged c.args.self.now.cells.now c.lead.new.cells (c.args.self.now.entries.base + c.args.row) i) at c.lead.ensures.moved in
    led_now g.M.Measure.meaning g.met.M.Measure.lawful.laws c.args.self.now.cells.now c.lead.new.cells c.args.self.now.entries.base c.args.self.now.entries.m c.args.self.now.entries.k c.args.row c.args.u c.requires.0 c.requires.1 leads moved

pub returns-clause-promoted : goal.returns-clause-promoted
returns-clause-promoted g c = let is = c.behind.ensures.0 in let at : c.behind.result + c.args.u ≡ c.args.self.now.entries.base + (row_start c.args.self.now.entries.m c.args.self.now.entries.k c.args.row + c.args.u) = omega arith in
    let leads = subst (λ (i : ℕ). entry_before g.M.Measure.meaning.before (entry_in c.lead.new.cells (c.args.self.now.entries.base + c.args.row)) (entry_in c.lead.new.cells i) ≡ true) at c.lead.ensures.led in
    let moved = subst (λ (i : ℕ). (c.lead.new.cells ≡ c.args.self.now.cells.now) ⊎ Exchanged c.args.self.now.cells.now c.lead.new.cells (c.args.self.now.entries.base + c.args.row) i) at c.lead.ensures.moved in
    promoted_now g.M.Measure.meaning g.met.M.Measure.lawful.laws c.args.self.now.cells.now c.lead.new.cells c.args.self.now.entries.base c.args.self.now.entries.m c.args.self.now.entries.k c.args.row c.args.u c.requires.0 c.requires.1 leads moved
