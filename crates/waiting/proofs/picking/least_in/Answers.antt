use Rattle.waiting.proofs.Leasts.{least_cells}
use Rattle.waiting.proofs.picking.least_in.Goals as goal

-- least_cells named at the function was tried: the check does not find the clause by it
pub returns : goal.returns
returns g c = least_cells c.args.cells.now g.M.Measure.meaning.before c.args.from c.args.to c.requires.0 c.requires.1 c.least_of.result c.least_of.ensures
