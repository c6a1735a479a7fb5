use Rattle.turns.proofs.Stands.{tabled_over}
use Rattle.turns.proofs.starting.fill_tables.Goals as goal

pub returns-clause-tabled : goal.returns-clause-tabled
returns-clause-tabled g c = λ street sound count filled. tabled_over g.M.Measure.meaning street c.args.board.now.cells.now c.args.board.now.cells.now c.args.board.now c.fill_own.new.board c.fill_minima.new.self
    c.fill_own.ensures.same c.fill_minima.ensures.stays sound count (c.fill_own.ensures.holds street sound count filled) c.fill_minima.ensures.tables
