use Rattle.rides.specs.PairTables.{TableChanged, StartedTo}
use Rattle.rides.proofs.table.PairTable+M+M+Value.start_row.Given as goal

abbrev pub invariant-loop-b : goal.invariant-loop-b
invariant-loop-b g l =
    let m = g.M.Measure.meaning in
    let s = g.S.Street.meaning l.street in
    (StartedTo m s l.a 0 l.initial.self → StartedTo m s l.a l.b l.self) × TableChanged l.initial.self l.self
