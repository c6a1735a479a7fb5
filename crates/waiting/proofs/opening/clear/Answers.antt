use Rattle.std.proofs.Common.{◌-◌, arith}
use Rattle.waiting.proofs.Starting.{part_cleared}
use Rattle.waiting.proofs.opening.clear.Goals as goal

pub returns : goal.returns
returns g c = let all = part_cleared c.args.m c.args.from (c.args.to - c.args.from) c.args.cells.now c.clear_all.new.cells (omega arith) c.clear_all.auto.cells c.clear_all.ensures in
    record { kept = all.kept; empty = λ i h l. all.empty i h (omega arith) }
