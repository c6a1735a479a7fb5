use Rattle.std.proofs.Common.{rules}
use Rattle.turns.proofs.Stands.{tabled_at}
use Rattle.turns.proofs.order.Order.begin.Goals as goal

pub returns : goal.returns
returns g c = record {
  used = c.begin_again.ensures.used;
  stands = λ street sound count filled. c.begin_again.ensures.stands street
      (tabled_at g.M.Measure.meaning street c.args.cells.now _ c.args.self.now.n c.args.self.now.job.now c.new-board.result c.fill_tables.new.board c.new-board.ensures.same.0 c.new-board.ensures.same.1 c.new-board.ensures.cells (search rules)
      (c.fill_tables.ensures.tabled street) sound count filled);
}
