use Rattle.std.proofs.Common.{arith}
use Rattle.std.proofs.Math.Seq.{map-set_same}
use Rattle.std.proofs.lemmas.List.{map-set}
use Rattle.rides.proofs.CellWrites.{kind_written}
use Rattle.rides.proofs.pairs.PairTable.set_kind.Goals as goal

-- kind_written named at the function was tried: the check does not find this clause by it
pub returns-clause-kind : goal.returns-clause-kind
returns-clause-kind g c = kind_written c.args.self.now.cells.now _ c.args.self.now.n c.args.p c.args.kind c.requires (omega arith) (grind (arith, map-set)) (grind (arith, map-set_same)) (grind (arith, map-set_same))
