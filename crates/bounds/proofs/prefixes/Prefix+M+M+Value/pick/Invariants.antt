use Rattle.std.proofs.Common.{◌<◌}
use Rattle.bounds.specs.Prefixes.{Picks}
use Rattle.bounds.proofs.prefixes.Prefix+M+M+Value.pick.Given as goal

abbrev pub invariant-loop-q : goal.invariant-loop-q
invariant-loop-q g l = Picks g.M.Measure.meaning l.self l.excluded.bits l.q l.best × (0 < l.self.board.now.n → l.best.place < l.self.board.now.n)
