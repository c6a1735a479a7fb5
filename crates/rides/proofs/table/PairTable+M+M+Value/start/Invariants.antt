use Rattle.rides.specs.PairTables.{TableChanged, StartedTo}
use Rattle.rides.proofs.table.PairTable+M+M+Value.start.Given as goal

abbrev pub invariant-loop-a : goal.invariant-loop-a
invariant-loop-a g l =
    StartedTo g.M.Measure.meaning (g.S.Street.meaning l.street) l.a 0 l.self × TableChanged l.initial.self l.self
