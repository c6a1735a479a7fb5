use Rattle.std.proofs.Common.{arith}
use Rattle.std.proofs.lemmas.List.{map-set}
use Rattle.rides.proofs.CellWrites.{ride_written}
use Rattle.rides.proofs.pairs.PairTable.set_ride.Goals as goal

-- ride_written named at the function was tried: `grind` opens the record `Written` and goes past its limit
pub returns-clause-rides : goal.returns-clause-rides
returns-clause-rides g c = ride_written c.args.self.now.cells.now _ c.args.self.now.n c.args.a c.args.b c.args.ride c.requires.1 (omega arith) (grind (arith, map-set))
