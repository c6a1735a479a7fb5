use Rattle.std.proofs.Common.{arith}
use Rattle.std.proofs.Math.Seq.{map-set_same}
use Rattle.std.proofs.lemmas.List.{map-set}
use Rattle.rides.proofs.CellWrites.{leg_written, ride_written}
use Rattle.rides.proofs.pairs.PairTable.set_pair.Goals as goal

-- leg_written and ride_written named at the function were tried: `grind` goes past its limit
pub returns-clause-legs : goal.returns-clause-legs
returns-clause-legs g c = leg_written c.args.self.now.cells.now _ c.args.self.now.n c.args.a c.args.b c.args.leg c.requires.1 (omega arith) (grind (arith, map-set_same, map-set))

pub returns-clause-rides : goal.returns-clause-rides
returns-clause-rides g c = ride_written c.args.self.now.cells.now _ c.args.self.now.n c.args.a c.args.b c.args.ride c.requires.1 (omega arith) (grind (arith, map-set_same, map-set))
